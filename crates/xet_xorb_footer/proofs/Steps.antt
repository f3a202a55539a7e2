-- A field is taken: what is read from there on is what is read behind it.
use Rattle.std.proofs.Common.{◌≡◌, ◌∙◌, ℕ, ◌*◌, ◌≤◌, ◌<◌, ◌⊎◌, ◌&&◌, ◌==◌, nat_eq, nat_le, Bool, true, false, cond, List, [], ◌∷◌, ◌++◌, Ok, ap, inl, inr, length, refl, sym}
use Rattle.std.proofs.lemmas.Bool.{cases_lt, le-ltb, lt-ltb}
use Rattle.std.proofs.lemmas.List.{nil_from_length}
use Rattle.std.specs.Cmp.Lexicographic.{pointwise}
use Rattle.std.specs.Int.{w32, from_le_bytes}
use Rattle.xet_hash.specs.declared.error.Reason.{Reason}
use Rattle.xet_hash.specs.declared.error.Reason.TheVariants as reasons
use Rattle.xet_xorb_footer.specs.declared.machine.Field.{Field}
use Rattle.xet_xorb_footer.specs.declared.machine.Field.TheVariants as fields
use Rattle.xet_xorb_footer.specs.internal.Machine.{Next, behind_ends, behind_hashes, ends_v0, ends_v1, expects, expects_number, hashes_v0, hashes_v1, lacks, more_ends, more_hashes, more_plain, next_count, next_version, plain_v1, step}
use Rattle.xet_xorb_footer.specs.Machine.{FooterParts, block_of, rest, rest_boundaries_magic, rest_boundaries_version, rest_boundary_offset, rest_count, rest_count_again, rest_count_last, rest_ends, rest_ends_v0, rest_ends_v1, rest_hash, rest_hashes, rest_hashes_magic, rest_hashes_offset, rest_hashes_v0, rest_hashes_v1, rest_hashes_version, rest_magic, rest_lists, rest_plain, rest_spare, rest_version, wanted_of}
use Rattle.xet_codec.specs.Parsing.{◌>>=◌, Parsed, next_bytes, number_at, wants}
use Rattle.xet_xorb_footer.specs.Reading.{count_at, magic_at, number_is, version_at}
use Rattle.xet_xorb_footer.specs.FooterEncoding.{boundaries_magic, footer_magic, hashes_magic, max_chunks}
use Rattle.xet_xorb_footer.specs.theorems.Prefixes.{a_hash, a_number, bytes_whole, checked, checked_on, ident_whole, list_block, list_full, number_is_whole, number_whole, pick_false, pick_true, version_whole}

-- ---- a list that comes next, or what is behind it

-- what is read from a field on, of two
rest_if : (b : Bool) (here behind : Field) (p : FooterParts) (more : List ℕ) → rest (cond b here behind) p more ≡ cond b (rest here p more) (rest behind p more)
rest_if true here behind p more = refl
rest_if false here behind p more = refl

entered : {X : Type 0} (p : FooterParts) (xs : List X) (here behind : Field) (more : List ℕ) (all : Parsed FooterParts) → rest here p more ≡ all → (p.count ≤ length xs → rest behind p more ≡ all) → rest (lacks p xs here behind) p more ≡ all
entered p xs here behind more all is full = by (cases_lt (length xs) p.count)
  where
    by : (length xs < p.count) ⊎ (p.count ≤ length xs) → rest (lacks p xs here behind) p more ≡ all
    by (inl lt) = ap (λ (b : Bool). rest (cond b here behind) p more) (lt-ltb (length xs) p.count lt) ∙ is
    by (inr le) = ap (λ (b : Bool). rest (cond b here behind) p more) (le-ltb (length xs) p.count le) ∙ full le

plain_entered : (p : FooterParts) (more : List ℕ) → rest (plain_v1 p) p more ≡ rest_plain p more
unfolding rest rest_plain
plain_entered p more = entered p p.plain fields.PlainEnds fields.CountLast more (rest_plain p more) refl (λ le. sym (list_full number_at p.count p.plain (λ ns bytes. rest_count_last (record p { plain = ns }) bytes) more le))

ends_entered_v1 : (p : FooterParts) (more : List ℕ) → p.is_v1 ≡ true → rest (ends_v1 p) p more ≡ rest_ends_v1 p more
unfolding rest rest_ends_v1
ends_entered_v1 p more v1 = entered p p.ends fields.Ends (plain_v1 p) more (rest_ends_v1 p more) (rw v1 refl)
    (λ le. plain_entered p more ∙ sym (list_full number_at p.count p.ends (λ ns bytes. rest_plain (record p { ends = ns }) bytes) more le))

hashes_entered_v1 : (p : FooterParts) (more : List ℕ) → p.is_v1 ≡ true → rest (hashes_v1 p) p more ≡ rest_hashes_v1 p more
unfolding rest rest_hashes_v1
hashes_entered_v1 p more v1 = entered p p.hashes fields.Hashes fields.BoundariesIdent more (rest_hashes_v1 p more) (rw v1 refl)
    (λ le. sym (list_full (next_bytes 32) p.count p.hashes (λ hs bytes. rest_boundaries_magic (record p { hashes = hs }) bytes) more le))

hashes_entered_v0 : (p : FooterParts) (more : List ℕ) → p.is_v1 ≡ false → rest (hashes_v0 p) p more ≡ rest_hashes_v0 p more
unfolding rest rest_hashes_v0
hashes_entered_v0 p more v0 = entered p p.hashes fields.Hashes fields.Spare more (rest_hashes_v0 p more) (rw v0 refl)
    (λ le. sym (list_full (next_bytes 32) p.count p.hashes (λ hs bytes. rest_spare (record p { hashes = hs }) bytes) more le))

ends_entered_v0 : (p : FooterParts) (more : List ℕ) → p.is_v1 ≡ false → rest (ends_v0 p) p more ≡ rest_ends_v0 p more
unfolding rest rest_ends_v0
ends_entered_v0 p more v0 = entered p p.ends fields.Ends (hashes_v0 p) more (rest_ends_v0 p more) (rw v0 refl)
    (λ le. hashes_entered_v0 p more v0 ∙ sym (list_full number_at p.count p.ends (λ ns bytes. rest_hashes_v0 (record p { ends = ns }) bytes) more le))

ends_entered : (b : Bool) (p : FooterParts) (more : List ℕ) → p.is_v1 ≡ b → rest (behind_ends p) p more ≡ rest_ends p more
ends_entered true p more e = ap (λ (f : Field). rest f p more) (pick_true p.is_v1 (ends_v1 p) (ends_v0 p) e) ∙ ends_entered_v1 p more e ∙ sym (pick_true p.is_v1 (rest_ends_v1 p more) (rest_ends_v0 p more) e)
ends_entered false p more e = ap (λ (f : Field). rest f p more) (pick_false p.is_v1 (ends_v1 p) (ends_v0 p) e) ∙ ends_entered_v0 p more e ∙ sym (pick_false p.is_v1 (rest_ends_v1 p more) (rest_ends_v0 p more) e)

hashes_entered : (b : Bool) (p : FooterParts) (more : List ℕ) → p.is_v1 ≡ b → rest (behind_hashes p) p more ≡ rest_hashes p more
hashes_entered true p more e = ap (λ (f : Field). rest f p more) (pick_true p.is_v1 (hashes_v1 p) (hashes_v0 p) e) ∙ hashes_entered_v1 p more e ∙ sym (pick_true p.is_v1 (rest_hashes_v1 p more) (rest_hashes_v0 p more) e)
hashes_entered false p more e = ap (λ (f : Field). rest f p more) (pick_false p.is_v1 (hashes_v1 p) (hashes_v0 p) e) ∙ hashes_entered_v0 p more e ∙ sym (pick_false p.is_v1 (rest_hashes_v1 p more) (rest_hashes_v0 p more) e)

lists_entered : (b : Bool) (p : FooterParts) (more : List ℕ) → p.is_v1 ≡ b → rest (cond p.is_v1 (hashes_v1 p) (ends_v0 p)) p more ≡ rest_lists p more
lists_entered true p more e = ap (λ (f : Field). rest f p more) (pick_true p.is_v1 (hashes_v1 p) (ends_v0 p) e) ∙ hashes_entered_v1 p more e ∙ sym (pick_true p.is_v1 (rest_hashes_v1 p more) (rest_ends_v0 p more) e)
lists_entered false p more e = ap (λ (f : Field). rest f p more) (pick_false p.is_v1 (hashes_v1 p) (ends_v0 p) e) ∙ ends_entered_v0 p more e ∙ sym (pick_false p.is_v1 (rest_hashes_v1 p more) (rest_ends_v0 p more) e)

-- ---- blocks

plain_block : (p : FooterParts) (field more : List ℕ) → length field ≡ 4 * block_of p p.plain → rest_plain p (field ++ more) ≡ rest_plain (more_plain p field) more
unfolding rest_plain
plain_block p field more len = list_block number_at (from_le_bytes w32) 4 a_number p.count p.plain (λ ns bytes. rest_count_last (record p { plain = ns }) bytes) field more len

ends_block_v1 : (p : FooterParts) (field more : List ℕ) → length field ≡ 4 * block_of p p.ends → rest_ends_v1 p (field ++ more) ≡ rest_ends_v1 (more_ends p field) more
unfolding rest_ends_v1
ends_block_v1 p field more len = list_block number_at (from_le_bytes w32) 4 a_number p.count p.ends (λ ns bytes. rest_plain (record p { ends = ns }) bytes) field more len

ends_block_v0 : (p : FooterParts) (field more : List ℕ) → length field ≡ 4 * block_of p p.ends → rest_ends_v0 p (field ++ more) ≡ rest_ends_v0 (more_ends p field) more
unfolding rest_ends_v0
ends_block_v0 p field more len = list_block number_at (from_le_bytes w32) 4 a_number p.count p.ends (λ ns bytes. rest_hashes_v0 (record p { ends = ns }) bytes) field more len

hashes_block_v1 : (p : FooterParts) (field more : List ℕ) → length field ≡ 32 * block_of p p.hashes → rest_hashes_v1 p (field ++ more) ≡ rest_hashes_v1 (more_hashes p field) more
unfolding rest_hashes_v1
hashes_block_v1 p field more len = list_block (next_bytes 32) (λ b. b) 32 a_hash p.count p.hashes (λ hs bytes. rest_boundaries_magic (record p { hashes = hs }) bytes) field more len

hashes_block_v0 : (p : FooterParts) (field more : List ℕ) → length field ≡ 32 * block_of p p.hashes → rest_hashes_v0 p (field ++ more) ≡ rest_hashes_v0 (more_hashes p field) more
unfolding rest_hashes_v0
hashes_block_v0 p field more len = list_block (next_bytes 32) (λ b. b) 32 a_hash p.count p.hashes (λ hs bytes. rest_spare (record p { hashes = hs }) bytes) field more len

ends_block : (b : Bool) (p : FooterParts) (field more : List ℕ) → p.is_v1 ≡ b → length field ≡ 4 * block_of p p.ends → rest_ends p (field ++ more) ≡ rest_ends (more_ends p field) more
ends_block true p field more e len = pick_true p.is_v1 (rest_ends_v1 p (field ++ more)) (rest_ends_v0 p (field ++ more)) e ∙ ends_block_v1 p field more len ∙ sym (pick_true p.is_v1 (rest_ends_v1 (more_ends p field) more) (rest_ends_v0 (more_ends p field) more) e)
ends_block false p field more e len = pick_false p.is_v1 (rest_ends_v1 p (field ++ more)) (rest_ends_v0 p (field ++ more)) e ∙ ends_block_v0 p field more len ∙ sym (pick_false p.is_v1 (rest_ends_v1 (more_ends p field) more) (rest_ends_v0 (more_ends p field) more) e)

hashes_block : (b : Bool) (p : FooterParts) (field more : List ℕ) → p.is_v1 ≡ b → length field ≡ 32 * block_of p p.hashes → rest_hashes p (field ++ more) ≡ rest_hashes (more_hashes p field) more
hashes_block true p field more e len = pick_true p.is_v1 (rest_hashes_v1 p (field ++ more)) (rest_hashes_v0 p (field ++ more)) e ∙ hashes_block_v1 p field more len ∙ sym (pick_true p.is_v1 (rest_hashes_v1 (more_hashes p field) more) (rest_hashes_v0 (more_hashes p field) more) e)
hashes_block false p field more e len = pick_false p.is_v1 (rest_hashes_v1 p (field ++ more)) (rest_hashes_v0 p (field ++ more)) e ∙ hashes_block_v0 p field more len ∙ sym (pick_false p.is_v1 (rest_hashes_v1 (more_hashes p field) more) (rest_hashes_v0 (more_hashes p field) more) e)

-- ---- one field

-- what is read behind what is known
abbrev pub behind : Next → List ℕ → Parsed FooterParts
behind next more = next >>= λ x. rest x.0 x.1 more

on_version : (b : Bool) (p : FooterParts) (field more : List ℕ) → (p.either && pointwise nat_eq field (1 ∷ [])) ≡ b → length field ≡ 1 → rest_version p (field ++ more) ≡ behind (next_version p field) more
unfolding rest rest_version
on_version true p field more e len = rw (bytes_whole 1 field more len, e) refl
on_version false p field more e len = rw (bytes_whole 1 field more len, e)
    (checked_on (wants (pointwise nat_eq field (0 ∷ [])) reasons.Version) (fields.Hash, record p { is_v1 = false }) (rest_hash (record p { is_v1 = false }) more) (λ (x : Field × FooterParts). rest x.0 x.1 more) refl)

on_hash : (b : Bool) (p : FooterParts) (field more : List ℕ) → p.is_v1 ≡ b → length field ≡ 32 → rest_hash p (field ++ more) ≡ behind (step fields.Hash p field) more
unfolding rest rest_hash step
on_hash true p field more e len = rw (bytes_whole 32 field more len, e) refl
on_hash false p field more e len = rw (bytes_whole 32 field more len, e) refl

count_whole : (field more : List ℕ) → length field ≡ 4 → count_at (field ++ more) ≡ (wants (nat_le (from_le_bytes w32 field) max_chunks) reasons.ChunkCount >>= λ _. Ok (from_le_bytes w32 field, more))
unfolding count_at
count_whole field more len = rw (number_whole field more len) refl

on_count : (p : FooterParts) (field more : List ℕ) → length field ≡ 4 → rest_count p (field ++ more) ≡ behind (next_count p field) more
unfolding rest_count
on_count p field more len =
    let n : ℕ = from_le_bytes w32 field in
    let q : FooterParts = record p { count = n } in
    rw (count_whole field more len)
    (checked (wants (nat_le n max_chunks) reasons.ChunkCount) (n, more) (cond q.is_v1 (hashes_v1 q) (ends_v0 q), q) (λ (x : ℕ × List ℕ). rest_lists (record p { count = x.0 }) x.1) (λ (x : Field × FooterParts). rest x.0 x.1 more)
    (sym (lists_entered q.is_v1 q more refl)))

on_ident : (ident : List ℕ) (reason : Reason) (next : Field) (p : FooterParts) (field more : List ℕ) (f : List ℕ → Parsed FooterParts) → rest next p more ≡ f more → length field ≡ 7 → (magic_at ident reason (field ++ more) >>= λ x. f x.1) ≡ behind (expects field ident reason next p) more
on_ident ident reason next p field more f same len =
    rw (ident_whole ident reason field more len) (checked (wants (pointwise nat_eq field ident) reason) (tt, more) (next, p) (λ (x : Unit {0} × List ℕ). f x.1) (λ (x : Field × FooterParts). rest x.0 x.1 more) (sym same))

on_byte : (version : ℕ) (reason : Reason) (next : Field) (p : FooterParts) (field more : List ℕ) (f : List ℕ → Parsed FooterParts) → rest next p more ≡ f more → length field ≡ 1 → (version_at version reason (field ++ more) >>= λ x. f x.1) ≡ behind (expects field (version ∷ []) reason next p) more
on_byte version reason next p field more f same len =
    rw (version_whole version reason field more len)
    (checked (wants (pointwise nat_eq field (version ∷ [])) reason) (tt, more) (next, p) (λ (x : Unit {0} × List ℕ). f x.1) (λ (x : Field × FooterParts). rest x.0 x.1 more) (sym same))

on_number : (n : ℕ) (reason : Reason) (next : Field) (p : FooterParts) (field more : List ℕ) (f : List ℕ → Parsed FooterParts) → rest next p more ≡ f more → length field ≡ 4 → (number_is n reason (field ++ more) >>= λ x. f x.1) ≡ behind (expects_number field n reason next p) more
on_number n reason next p field more f same len =
    rw (number_is_whole n reason field more len)
    (checked (wants (from_le_bytes w32 field == n) reason) (tt, more) (next, p) (λ (x : Unit {0} × List ℕ). f x.1) (λ (x : Field × FooterParts). rest x.0 x.1 more) (sym same))

-- a field that was taken whole
pub rest_step : (f : Field) (p : FooterParts) (field more : List ℕ) → length field ≡ wanted_of f p → rest f p (field ++ more) ≡ behind (step f p field) more
unfolding rest step rest_magic rest_hashes_magic rest_hashes_version rest_boundaries_magic rest_boundaries_version rest_count_again rest_count_last rest_hashes_offset rest_boundary_offset rest_spare
rest_step fields.Ident p field more len = on_ident footer_magic reasons.Ident fields.Version p field more (λ bytes. rest_version p bytes) refl len
rest_step fields.Version p field more len = on_version (p.either && pointwise nat_eq field (1 ∷ [])) p field more refl len
rest_step fields.Hash p field more len = on_hash p.is_v1 p field more refl len
rest_step fields.HashesIdent p field more len = on_ident hashes_magic reasons.HashesIdent fields.HashesVersion p field more (λ bytes. rest_hashes_version p bytes) refl len
rest_step fields.HashesVersion p field more len = on_byte 0 reasons.HashesVersion fields.Count p field more (λ bytes. rest_count p bytes) refl len
rest_step fields.Count p field more len = on_count p field more len
rest_step fields.Hashes p field more len = hashes_block p.is_v1 p field more refl len ∙ sym (hashes_entered p.is_v1 (more_hashes p field) more refl)
rest_step fields.BoundariesIdent p field more len = on_ident boundaries_magic reasons.BoundariesIdent fields.BoundariesVersion p field more (λ bytes. rest_boundaries_version p bytes) refl len
rest_step fields.BoundariesVersion p field more len = on_byte 1 reasons.BoundariesVersion fields.CountAgain p field more (λ bytes. rest_count_again p bytes) refl len
rest_step fields.CountAgain p field more len = on_number p.count reasons.CountMismatch (behind_ends p) p field more (λ bytes. rest_ends p bytes) (ends_entered p.is_v1 p more refl) len
rest_step fields.Ends p field more len = ends_block p.is_v1 p field more refl len ∙ sym (ends_entered p.is_v1 (more_ends p field) more refl)
rest_step fields.PlainEnds p field more len = plain_block p field more len ∙ sym (plain_entered (more_plain p field) more)
rest_step fields.CountLast p field more len = on_number p.count reasons.CountMismatch fields.HashesOffset p field more (λ bytes. rest_hashes_offset p bytes) refl len
rest_step fields.HashesOffset p field more len = on_number _ reasons.HashesOffset fields.BoundaryOffset p field more (λ bytes. rest_boundary_offset p bytes) refl len
rest_step fields.BoundaryOffset p field more len = on_number _ reasons.BoundaryOffset fields.Spare p field more (λ bytes. rest_spare p bytes) refl len
rest_step fields.Spare p field more len = rw (bytes_whole 16 field more len) refl
rest_step fields.Done p field more len = ap (λ (x : List ℕ). Ok (p, x ++ more)) (nil_from_length field len)
