-- What is known behind a field: that a list that comes next is not whole, how much is left, and why a field is refused.
use Rattle.std.proofs.Common.{◌≡◌, ℕ, ◌+◌, ◌-◌, ◌*◌, ◌≤◌, ◌<◌, ◌⊎◌, ◌&&◌, nat_eq, nat_le, Bool, true, false, cond, List, [], ◌∷◌, Ok, ap, arith, inl, inr, length, length-append, refl, subst, sym}
use Rattle.std.proofs.lemmas.Bool.{cases_lt, le-ltb, leb-true, lt-ltb}
use Rattle.std.specs.Cmp.Lexicographic.{pointwise}
use Rattle.std.specs.Int.{w32, from_le_bytes}
use Rattle.std.specs.Result.{IfErr, IfOk}
use Rattle.xet_hash.specs.declared.error.Reason.{Reason}
use Rattle.xet_hash.specs.declared.error.Reason.TheVariants as reasons
use Rattle.xet_xorb_footer.specs.declared.machine.Field.{Field}
use Rattle.xet_xorb_footer.specs.declared.machine.Field.TheVariants as fields
use Rattle.xet_xorb_footer.specs.internal.Items.{hashes_in, numbers_in}
use Rattle.xet_xorb_footer.specs.internal.Machine.{IsIncomplete, behind_ends, behind_hashes, ends_v0, ends_v1, hashes_v0, hashes_v1, lacks, more_ends, more_hashes, more_plain, plain_v1, step}
use Rattle.xet_xorb_footer.specs.Machine.{FooterParts, block_of, room_behind_ends, room_of, wanted_of}
use Rattle.xet_codec.specs.Parsing.{◌>>=◌, wants}
use Rattle.xet_xorb_footer.specs.internal.Errors.{IsFailedCheck}
use Rattle.xet_xorb_footer.specs.Errors.{is_footer_check}
use Rattle.xet_xorb_footer.specs.FooterEncoding.{max_chunks}
use Rattle.xet_xorb_footer.specs.theorems.Prefixes.{length_items}

-- behind a test
tested : (P : Field → FooterParts → Type 0) (b : Bool) (reason : Reason) (next : Field) (p : FooterParts) → P next p → IfOk {T = Field × FooterParts} (wants b reason >>= λ _. Ok (next, p)) (λ x. P x.0 x.1)
tested P true reason next p is = is
tested P false reason next p is = tt

-- a list, or what is behind it
of_two : {X : Type 0} (P : Field → Type 0) (p : FooterParts) (xs : List X) (here behind : Field) → (length xs < p.count → P here) → P behind → P (lacks p xs here behind)
of_two P p xs here behind is_here is_behind = by (cases_lt (length xs) p.count)
  where
    by : (length xs < p.count) ⊎ (p.count ≤ length xs) → P (lacks p xs here behind)
    by (inl lt) = subst (λ (b : Bool). P (cond b here behind)) (sym (lt-ltb (length xs) p.count lt)) (is_here lt)
    by (inr le) = subst (λ (b : Bool). P (cond b here behind)) (sym (le-ltb (length xs) p.count le)) is_behind

-- one of two versions
of_either : (P : Field → Type 0) (b : Bool) (x y : Field) → P x → P y → P (cond b x y)
of_either P true x y is_x is_y = is_x
of_either P false x y is_x is_y = is_y

-- ---- a list that comes next is not whole

settled_plain : (p : FooterParts) → IsIncomplete (plain_v1 p) p
settled_plain p = of_two (λ f. IsIncomplete f p) p p.plain fields.PlainEnds fields.CountLast (λ lt. lt) tt

settled_ends_v1 : (p : FooterParts) → IsIncomplete (ends_v1 p) p
settled_ends_v1 p = of_two (λ f. IsIncomplete f p) p p.ends fields.Ends (plain_v1 p) (λ lt. lt) (settled_plain p)

settled_hashes_v1 : (p : FooterParts) → IsIncomplete (hashes_v1 p) p
settled_hashes_v1 p = of_two (λ f. IsIncomplete f p) p p.hashes fields.Hashes fields.BoundariesIdent (λ lt. lt) tt

settled_hashes_v0 : (p : FooterParts) → IsIncomplete (hashes_v0 p) p
settled_hashes_v0 p = of_two (λ f. IsIncomplete f p) p p.hashes fields.Hashes fields.Spare (λ lt. lt) tt

settled_ends_v0 : (p : FooterParts) → IsIncomplete (ends_v0 p) p
settled_ends_v0 p = of_two (λ f. IsIncomplete f p) p p.ends fields.Ends (hashes_v0 p) (λ lt. lt) (settled_hashes_v0 p)

settled_ends : (p : FooterParts) → IsIncomplete (behind_ends p) p
settled_ends p = of_either (λ f. IsIncomplete f p) p.is_v1 (ends_v1 p) (ends_v0 p) (settled_ends_v1 p) (settled_ends_v0 p)

settled_version : (b : Bool) (p : FooterParts) (field : List ℕ) → IfOk {T = Field × FooterParts} (cond b (Ok (fields.Hash, record p { is_v1 = true })) (wants (pointwise nat_eq field (0 ∷ [])) reasons.Version >>= λ _. Ok (fields.Hash, record p { is_v1 = false }))) (λ x. IsIncomplete x.0 x.1)
settled_version true p field = tt
settled_version false p field = tested IsIncomplete (pointwise nat_eq field (0 ∷ [])) reasons.Version fields.Hash (record p { is_v1 = false }) tt

pub step_settled : (f : Field) (p : FooterParts) (field : List ℕ) → IfOk (step f p field) (λ x. IsIncomplete x.0 x.1)
unfolding step
step_settled fields.Ident p field = tested IsIncomplete _ _ fields.Version p tt
step_settled fields.Version p field = settled_version (p.either && pointwise nat_eq field (1 ∷ [])) p field
step_settled fields.Hash p field = of_either (λ f. IsIncomplete f (record p { hash = field })) p.is_v1 fields.HashesIdent fields.Count tt tt
step_settled fields.HashesIdent p field = tested IsIncomplete _ _ fields.HashesVersion p tt
step_settled fields.HashesVersion p field = tested IsIncomplete _ _ fields.Count p tt
step_settled fields.Count p field =
    let q : FooterParts = record p { count = from_le_bytes w32 field } in
    tested IsIncomplete _ _ _ q (of_either (λ f. IsIncomplete f q) p.is_v1 (hashes_v1 q) (ends_v0 q) (settled_hashes_v1 q) (settled_ends_v0 q))
step_settled fields.Hashes p field =
    let q : FooterParts = more_hashes p field in
    of_either (λ f. IsIncomplete f q) p.is_v1 (hashes_v1 q) (hashes_v0 q) (settled_hashes_v1 q) (settled_hashes_v0 q)
step_settled fields.BoundariesIdent p field = tested IsIncomplete _ _ fields.BoundariesVersion p tt
step_settled fields.BoundariesVersion p field = tested IsIncomplete _ _ fields.CountAgain p tt
step_settled fields.CountAgain p field = tested IsIncomplete _ _ (behind_ends p) p (settled_ends p)
step_settled fields.Ends p field = settled_ends (more_ends p field)
step_settled fields.PlainEnds p field = settled_plain (more_plain p field)
step_settled fields.CountLast p field = tested IsIncomplete _ _ fields.HashesOffset p tt
step_settled fields.HashesOffset p field = tested IsIncomplete _ _ fields.BoundaryOffset p tt
step_settled fields.BoundaryOffset p field = tested IsIncomplete _ _ fields.Spare p tt
step_settled fields.Spare p field = tt
step_settled fields.Done p field = tt

-- where nothing is wanted the footer is whole
pub nothing_wanted : (f : Field) (p : FooterParts) → IsIncomplete f p → wanted_of f p ≡ 0 → f ≡ fields.Done
nothing_wanted fields.Ident p s e = absurd (omega arith)
nothing_wanted fields.Version p s e = absurd (omega arith)
nothing_wanted fields.Hash p s e = absurd (omega arith)
nothing_wanted fields.HashesIdent p s e = absurd (omega arith)
nothing_wanted fields.HashesVersion p s e = absurd (omega arith)
nothing_wanted fields.Count p s e = absurd (omega arith)
nothing_wanted fields.Hashes p s e = absurd (omega arith)
nothing_wanted fields.BoundariesIdent p s e = absurd (omega arith)
nothing_wanted fields.BoundariesVersion p s e = absurd (omega arith)
nothing_wanted fields.CountAgain p s e = absurd (omega arith)
nothing_wanted fields.Ends p s e = absurd (omega arith)
nothing_wanted fields.PlainEnds p s e = absurd (omega arith)
nothing_wanted fields.CountLast p s e = absurd (omega arith)
nothing_wanted fields.HashesOffset p s e = absurd (omega arith)
nothing_wanted fields.BoundaryOffset p s e = absurd (omega arith)
nothing_wanted fields.Spare p s e = absurd (omega arith)
nothing_wanted fields.Done p s e = refl

-- a field has at most so many bytes
pub few_wanted : (f : Field) (p : FooterParts) → wanted_of f p ≤ 2048
few_wanted fields.Ident p = omega arith
few_wanted fields.Version p = omega arith
few_wanted fields.Hash p = omega arith
few_wanted fields.HashesIdent p = omega arith
few_wanted fields.HashesVersion p = omega arith
few_wanted fields.Count p = omega arith
few_wanted fields.Hashes p = omega arith
few_wanted fields.BoundariesIdent p = omega arith
few_wanted fields.BoundariesVersion p = omega arith
few_wanted fields.CountAgain p = omega arith
few_wanted fields.Ends p = omega arith
few_wanted fields.PlainEnds p = omega arith
few_wanted fields.CountLast p = omega arith
few_wanted fields.HashesOffset p = omega arith
few_wanted fields.BoundaryOffset p = omega arith
few_wanted fields.Spare p = omega arith
few_wanted fields.Done p = omega arith

-- ---- how much is left

room_plain : (p : FooterParts) → room_of (plain_v1 p) p ≤ 28 + 4 * (p.count - length p.plain)
room_plain p = of_two (λ f. room_of f p ≤ 28 + 4 * (p.count - length p.plain)) p p.plain fields.PlainEnds fields.CountLast (λ lt. omega arith) (omega arith)

room_ends_v1 : (p : FooterParts) → p.is_v1 ≡ true → room_of (ends_v1 p) p ≤ 28 + 4 * p.count + 4 * (p.count - length p.ends)
room_ends_v1 p v1 =
    of_two (λ f. room_of f p ≤ 28 + 4 * p.count + 4 * (p.count - length p.ends)) p p.ends fields.Ends (plain_v1 p) (λ lt. omega (arith, ap (λ (b : Bool). cond b (28 + 4 * p.count) (16 + 32 * p.count)) v1))
    (omega (arith, room_plain p))

room_hashes_v1 : (p : FooterParts) → p.is_v1 ≡ true → room_of (hashes_v1 p) p ≤ 40 + 8 * p.count + 32 * (p.count - length p.hashes)
room_hashes_v1 p v1 =
    of_two (λ f. room_of f p ≤ 40 + 8 * p.count + 32 * (p.count - length p.hashes)) p p.hashes fields.Hashes fields.BoundariesIdent (λ lt. omega (arith, ap (λ (b : Bool). cond b (40 + 8 * p.count) 16) v1))
    (omega (arith, ap (λ (b : Bool). cond b (28 + 4 * p.count) (16 + 32 * p.count)) v1))

room_hashes_v0 : (p : FooterParts) → p.is_v1 ≡ false → room_of (hashes_v0 p) p ≤ 16 + 32 * (p.count - length p.hashes)
room_hashes_v0 p v0 =
    of_two (λ f. room_of f p ≤ 16 + 32 * (p.count - length p.hashes)) p p.hashes fields.Hashes fields.Spare (λ lt. omega (arith, ap (λ (b : Bool). cond b (40 + 8 * p.count) 16) v0)) (omega arith)

room_ends_v0 : (p : FooterParts) → p.is_v1 ≡ false → room_of (ends_v0 p) p ≤ 16 + 32 * p.count + 4 * (p.count - length p.ends)
room_ends_v0 p v0 =
    of_two (λ f. room_of f p ≤ 16 + 32 * p.count + 4 * (p.count - length p.ends)) p p.ends fields.Ends (hashes_v0 p) (λ lt. omega (arith, ap (λ (b : Bool). cond b (28 + 4 * p.count) (16 + 32 * p.count)) v0))
    (omega (arith, room_hashes_v0 p v0))

room_ends : (b : Bool) (p : FooterParts) → p.is_v1 ≡ b → room_of (behind_ends p) p ≤ cond p.is_v1 (28 + 4 * p.count) (16 + 32 * p.count) + 4 * (p.count - length p.ends)
room_ends true p e =
    let room = room_ends_v1 p e in
    omega (arith, ap (λ (b : Bool). cond b (28 + 4 * p.count) (16 + 32 * p.count)) e, ap (λ (b : Bool). room_of (cond b (ends_v1 p) (ends_v0 p)) p) e)
room_ends false p e =
    let room = room_ends_v0 p e in
    omega (arith, ap (λ (b : Bool). cond b (28 + 4 * p.count) (16 + 32 * p.count)) e, ap (λ (b : Bool). room_of (cond b (ends_v1 p) (ends_v0 p)) p) e)

room_hashes : (b : Bool) (p : FooterParts) → p.is_v1 ≡ b → room_of (behind_hashes p) p ≤ cond p.is_v1 (40 + 8 * p.count) 16 + 32 * (p.count - length p.hashes)
room_hashes true p e =
    let room = room_hashes_v1 p e in
    omega (arith, ap (λ (b : Bool). cond b (40 + 8 * p.count) 16) e, ap (λ (b : Bool). room_of (cond b (hashes_v1 p) (hashes_v0 p)) p) e)
room_hashes false p e =
    let room = room_hashes_v0 p e in
    omega (arith, ap (λ (b : Bool). cond b (40 + 8 * p.count) 16) e, ap (λ (b : Bool). room_of (cond b (hashes_v1 p) (hashes_v0 p)) p) e)

-- behind a test, where it held
tested_on : (P : Field → FooterParts → Type 0) (b : Bool) (reason : Reason) (next : Field) (p : FooterParts) → (b ≡ true → P next p) → IfOk {T = Field × FooterParts} (wants b reason >>= λ _. Ok (next, p)) (λ x. P x.0 x.1)
tested_on P true reason next p is = is refl
tested_on P false reason next p is = tt

-- so many bytes were taken, and the others are left
abbrev pub Fewer : ℕ → ℕ → Field → FooterParts → Type 0
Fewer len room f p = len + room_of f p ≤ room

room_version : (b : Bool) (p : FooterParts) (field : List ℕ)
    → IfOk {T = Field × FooterParts} (cond b (Ok (fields.Hash, record p { is_v1 = true })) (wants (pointwise nat_eq field (0 ∷ [])) reasons.Version >>= λ _. Ok (fields.Hash, record p { is_v1 = false }))) (λ x. 1 + room_of x.0 x.1 ≤ 85 + 40 * max_chunks)
room_version true p field = omega arith
room_version false p field = tested (Fewer 1 (85 + 40 * max_chunks)) (pointwise nat_eq field (0 ∷ [])) reasons.Version fields.Hash (record p { is_v1 = false }) (omega arith)

room_count : (b : Bool) (q : FooterParts) → q.is_v1 ≡ b → q.count ≤ max_chunks → 4 + room_of (cond q.is_v1 (hashes_v1 q) (ends_v0 q)) q ≤ 44 + 40 * max_chunks
room_count true q e few = omega (arith, room_hashes_v1 q e, ap (λ (b : Bool). room_of (cond b (hashes_v1 q) (ends_v0 q)) q) e)
room_count false q e few = omega (arith, room_ends_v0 q e, ap (λ (b : Bool). room_of (cond b (hashes_v1 q) (ends_v0 q)) q) e)

-- what is left behind a field
pub step_room : (f : Field) (p : FooterParts) (field : List ℕ) → IfOk (step f p field) (λ x. wanted_of f p + room_of x.0 x.1 ≤ room_of f p)
unfolding step
step_room fields.Ident p field = tested (Fewer 7 (92 + 40 * max_chunks)) _ _ fields.Version p (omega arith)
step_room fields.Version p field = room_version (p.either && pointwise nat_eq field (1 ∷ [])) p field
step_room fields.Hash p field = of_either (λ f. 32 + room_of f (record p { hash = field }) ≤ 84 + 40 * max_chunks) p.is_v1 fields.HashesIdent fields.Count (omega arith) (omega arith)
step_room fields.HashesIdent p field = tested (Fewer 7 (52 + 40 * max_chunks)) _ _ fields.HashesVersion p (omega arith)
step_room fields.HashesVersion p field = tested (Fewer 1 (45 + 40 * max_chunks)) _ _ fields.Count p (omega arith)
step_room fields.Count p field =
    let q : FooterParts = record p { count = from_le_bytes w32 field } in
    tested_on (Fewer 4 (44 + 40 * max_chunks)) (nat_le (from_le_bytes w32 field) max_chunks) reasons.ChunkCount _ q (λ few. room_count p.is_v1 q refl (leb-true q.count max_chunks few))
step_room fields.Hashes p field =
    let q : FooterParts = more_hashes p field in
    let room = room_hashes q.is_v1 q refl in
    omega (arith, room, length-append p.hashes (hashes_in (block_of p p.hashes) field), length_items (λ (b : List ℕ). b) 32 (block_of p p.hashes) field)
step_room fields.BoundariesIdent p field = tested (Fewer 7 (12 + room_behind_ends p + 4 * p.count)) _ _ fields.BoundariesVersion p (omega arith)
step_room fields.BoundariesVersion p field = tested (Fewer 1 (5 + room_behind_ends p + 4 * p.count)) _ _ fields.CountAgain p (omega arith)
step_room fields.CountAgain p field = tested (Fewer 4 (4 + room_behind_ends p + 4 * p.count)) _ _ (behind_ends p) p (omega (arith, room_ends p.is_v1 p refl))
step_room fields.Ends p field =
    let q : FooterParts = more_ends p field in
    let room = room_ends q.is_v1 q refl in
    omega (arith, room, length-append p.ends (numbers_in (block_of p p.ends) field), length_items (from_le_bytes w32) 4 (block_of p p.ends) field)
step_room fields.PlainEnds p field =
    let q : FooterParts = more_plain p field in
    let room = room_plain q in
    omega (arith, room, length-append p.plain (numbers_in (block_of p p.plain) field), length_items (from_le_bytes w32) 4 (block_of p p.plain) field)
step_room fields.CountLast p field = tested (Fewer 4 28) _ _ fields.HashesOffset p (omega arith)
step_room fields.HashesOffset p field = tested (Fewer 4 24) _ _ fields.BoundaryOffset p (omega arith)
step_room fields.BoundaryOffset p field = tested (Fewer 4 20) _ _ fields.Spare p (omega arith)
step_room fields.Spare p field = omega arith
step_room fields.Done p field = omega arith

-- ---- why a field is refused

refused : (b : Bool) (reason : Reason) (next : Field) (p : FooterParts) → is_footer_check reason ≡ true → IfErr {T = Field × FooterParts} (wants b reason >>= λ _. Ok (next, p)) IsFailedCheck
refused true reason next p is = tt
refused false reason next p is = is

version_refused : (b : Bool) (p : FooterParts) (field : List ℕ) → IfErr {T = Field × FooterParts} (cond b (Ok (fields.Hash, record p { is_v1 = true })) (wants (pointwise nat_eq field (0 ∷ [])) reasons.Version >>= λ _. Ok (fields.Hash, record p { is_v1 = false }))) IsFailedCheck
version_refused true p field = tt
version_refused false p field = refused (pointwise nat_eq field (0 ∷ [])) reasons.Version fields.Hash (record p { is_v1 = false }) refl

pub step_refused : (f : Field) (p : FooterParts) (field : List ℕ) → IfErr (step f p field) IsFailedCheck
unfolding step
step_refused fields.Ident p field = refused _ reasons.Ident _ p refl
step_refused fields.Version p field = version_refused (p.either && pointwise nat_eq field (1 ∷ [])) p field
step_refused fields.Hash p field = tt
step_refused fields.HashesIdent p field = refused _ reasons.HashesIdent _ p refl
step_refused fields.HashesVersion p field = refused _ reasons.HashesVersion _ p refl
step_refused fields.Count p field = refused _ reasons.ChunkCount _ (record p { count = from_le_bytes w32 field }) refl
step_refused fields.Hashes p field = tt
step_refused fields.BoundariesIdent p field = refused _ reasons.BoundariesIdent _ p refl
step_refused fields.BoundariesVersion p field = refused _ reasons.BoundariesVersion _ p refl
step_refused fields.CountAgain p field = refused _ reasons.CountMismatch _ p refl
step_refused fields.Ends p field = tt
step_refused fields.PlainEnds p field = tt
step_refused fields.CountLast p field = refused _ reasons.CountMismatch _ p refl
step_refused fields.HashesOffset p field = refused _ reasons.HashesOffset _ p refl
step_refused fields.BoundaryOffset p field = refused _ reasons.BoundaryOffset _ p refl
step_refused fields.Spare p field = tt
step_refused fields.Done p field = tt
