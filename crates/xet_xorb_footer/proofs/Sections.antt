-- The parts of a section of boundaries that is read for itself.
use Rattle.std.proofs.Common.{◌≡◌, ◌∙◌, ℕ, ◌+◌, ◌-◌, ◌*◌, ◌≤◌, ◌<◌, nat_le, Bool, List, [], ◌∷◌, ◌++◌, Ok, Err, ap, arith, drop, length, refl, subst, sym, take, true}
use Rattle.std.proofs.lemmas.Bool.{le-leb, lt-leb}
use Rattle.std.specs.Int.{w32, from_le_bytes}
use Rattle.xet_hash.specs.declared.error.Reason.TheVariants.{BoundariesIdent, BoundariesVersion, BoundaryOffset, ChunkCount, CountMismatch}
use Rattle.xet_hash.specs.declared.error.StoreError.{StoreError}
use Rattle.xet_hash.specs.declared.error.StoreError.TheVariants.{MalformedData, UnexpectedEof}
use Rattle.xet_xorb_footer.specs.declared.info.XorbObjectInfoV1.{XorbObjectInfoV1}
use Rattle.xet_xorb_footer.specs.Ends.{boundaries, last_boundaries, number_before}
use Rattle.xet_codec.specs.Parsing.{reaches, ◌>>=◌, Parsed, next_bytes, number_at, times, wants}
use Rattle.xet_codec.specs.Blocks.{RefusedBy, Tells}
use Rattle.xet_xorb_footer.specs.internal.Places.{checked_at, head_at, lists_at, tail_at}
use Rattle.xet_xorb_footer.specs.Reading.{count_at, magic_at, number_is, version_at}
use Rattle.xet_xorb_footer.specs.FooterEncoding.{boundaries_magic, empty_v1, max_chunks}
use Rattle.xet_xorb_footer.specs.theorems.Prefixes.{bind_bind, bytes_whole, onward}
use Rattle.xet_xorb_footer.proofs.Placing.{refused_after, then_refused}

-- refused as what is the same is
pub refused_as : {X : Type 0} (r s : Parsed X) (e : StoreError) → r ≡ s → RefusedBy s e → RefusedBy r e
refused_as r s e same is = subst (λ (t : Parsed _). RefusedBy t e) (sym same) is

-- what was read, with what is behind it at another spelling of the place
pub at_place : {X : Type 0} (r : Parsed X) (x : X) (bytes : List ℕ) (m n : ℕ) → r ≡ Ok (x, drop m bytes) → m ≡ n → r ≡ Ok (x, drop n bytes)
at_place r x bytes m n is same = is ∙ ap (λ (k : ℕ). Ok (x, drop k bytes)) same

-- ---- ident, version and number of chunks

pub head_ident : (b : List ℕ) (e : StoreError) → RefusedBy (checked_at 7 boundaries_magic BoundariesIdent b) e → RefusedBy (head_at b) e
unfolding head_at magic_at checked_at
head_ident b e r = then_refused (checked_at 7 boundaries_magic BoundariesIdent b) (λ s. version_at 1 BoundariesVersion s.1 >>= λ v. count_at v.1) e r

head_behind : (b b1 : List ℕ) → checked_at 7 boundaries_magic BoundariesIdent b ≡ Ok (tt, b1) → head_at b ≡ (version_at 1 BoundariesVersion b1 >>= λ v. count_at v.1)
unfolding head_at magic_at checked_at
head_behind b b1 one = ap (λ (r : Parsed (Unit {0})). r >>= λ s. version_at 1 BoundariesVersion s.1 >>= λ v. count_at v.1) one

pub head_version : (b b1 : List ℕ) (e : StoreError) → checked_at 7 boundaries_magic BoundariesIdent b ≡ Ok (tt, b1) → RefusedBy (checked_at 1 (1 ∷ []) BoundariesVersion b1) e → RefusedBy (head_at b) e
unfolding version_at checked_at
head_version b b1 e one r = refused_as (head_at b) _ e (head_behind b b1 one) (then_refused (checked_at 1 (1 ∷ []) BoundariesVersion b1) (λ v. count_at v.1) e r)

pub head_from : (b b1 b2 : List ℕ) → checked_at 7 boundaries_magic BoundariesIdent b ≡ Ok (tt, b1) → checked_at 1 (1 ∷ []) BoundariesVersion b1 ≡ Ok (tt, b2) → head_at b ≡ count_at b2
unfolding version_at checked_at
head_from b b1 b2 one two = head_behind b b1 one ∙ ap (λ (r : Parsed (Unit {0})). r >>= λ v. count_at v.1) two

pub count_unread : (b : List ℕ) (e : StoreError) → RefusedBy (number_at b) e → RefusedBy (count_at b) e
unfolding count_at
count_unread b e r = then_refused (number_at b) (λ x. wants (nat_le x.0 max_chunks) ChunkCount >>= λ _. Ok x) e r

pub count_many : (b more : List ℕ) (n : ℕ) → number_at b ≡ Ok (n, more) → max_chunks < n → count_at b ≡ Err (MalformedData ChunkCount)
unfolding count_at
count_many b more n read many =
    ap (λ (r : Parsed ℕ). r >>= λ x. wants (nat_le x.0 max_chunks) ChunkCount >>= λ _. Ok x) read ∙ ap (λ (t : Bool). wants t ChunkCount >>= λ _. Ok (n, more)) (lt-leb n max_chunks many)

pub count_few : (b more : List ℕ) (n : ℕ) → number_at b ≡ Ok (n, more) → n ≤ max_chunks → count_at b ≡ Ok (n, more)
unfolding count_at
count_few b more n read few =
    ap (λ (r : Parsed ℕ). r >>= λ x. wants (nat_le x.0 max_chunks) ChunkCount >>= λ _. Ok x) read ∙ ap (λ (t : Bool). wants t ChunkCount >>= λ _. Ok (n, more)) (le-leb n max_chunks few)

-- ---- the lists

pub ends_unread : (n : ℕ) (b : List ℕ) (e : StoreError) → RefusedBy (times number_at n b) e → RefusedBy (lists_at n b) e
unfolding lists_at
ends_unread n b e r = then_refused (times number_at n b) (λ x. times number_at n x.1 >>= λ y. Ok ((x.0, y.0), y.1)) e r

pub plain_unread : (n : ℕ) (b b1 ends : List ℕ) (e : StoreError) → times number_at n b ≡ Ok (ends, b1) → RefusedBy (times number_at n b1) e → RefusedBy (lists_at n b) e
unfolding lists_at
plain_unread n b b1 ends e one r = refused_after (times number_at n b) (λ x. times number_at n x.1 >>= λ y. Ok ((x.0, y.0), y.1)) (ends, b1) e one (then_refused (times number_at n b1) (λ y. Ok ((ends, y.0), y.1)) e r)

pub lists_are : (n : ℕ) (b b1 b2 ends plain : List ℕ) → times number_at n b ≡ Ok (ends, b1) → times number_at n b1 ≡ Ok (plain, b2) → lists_at n b ≡ Ok ((ends, plain), b2)
unfolding lists_at
lists_are n b b1 b2 ends plain one two =
    ap (λ (r : Parsed (List ℕ)). r >>= λ x. times number_at n x.1 >>= λ y. Ok ((x.0, y.0), y.1)) one ∙ ap (λ (r : Parsed (List ℕ)). r >>= λ y. Ok ((ends, y.0), y.1)) two

-- ---- what is behind the section

behind_hashes : ℕ → ℕ → List ℕ → Parsed (ℕ × List ℕ)
behind_hashes n h b = number_is (40 + 8 * n) BoundaryOffset b >>= λ p. next_bytes 16 p.1 >>= λ s. Ok ((h, s.0), s.1)

pub tail_count : (n : ℕ) (b : List ℕ) (e : StoreError) → RefusedBy (number_is n CountMismatch b) e → RefusedBy (tail_at n b) e
unfolding tail_at
tail_count n b e r = then_refused (number_is n CountMismatch b) (λ a. number_at a.1 >>= λ h. number_is (40 + 8 * n) BoundaryOffset h.1 >>= λ p. next_bytes 16 p.1 >>= λ s. Ok ((h.0, s.0), s.1)) e r

tail_behind : (n : ℕ) (b b1 : List ℕ) → number_is n CountMismatch b ≡ Ok (tt, b1) → tail_at n b ≡ (number_at b1 >>= λ h. behind_hashes n h.0 h.1)
unfolding tail_at behind_hashes
tail_behind n b b1 one = ap (λ (r : Parsed (Unit {0})). r >>= λ a. number_at a.1 >>= λ h. number_is (40 + 8 * n) BoundaryOffset h.1 >>= λ p. next_bytes 16 p.1 >>= λ s. Ok ((h.0, s.0), s.1)) one

pub tail_hashes : (n : ℕ) (b b1 : List ℕ) (e : StoreError) → number_is n CountMismatch b ≡ Ok (tt, b1) → RefusedBy (number_at b1) e → RefusedBy (tail_at n b) e
tail_hashes n b b1 e one r = refused_as (tail_at n b) _ e (tail_behind n b b1 one) (then_refused (number_at b1) (λ h. behind_hashes n h.0 h.1) e r)

tail_place : (n h : ℕ) (b b1 b2 : List ℕ) → number_is n CountMismatch b ≡ Ok (tt, b1) → number_at b1 ≡ Ok (h, b2) → tail_at n b ≡ behind_hashes n h b2
tail_place n h b b1 b2 one two = tail_behind n b b1 one ∙ ap (λ (r : Parsed ℕ). r >>= λ h. behind_hashes n h.0 h.1) two

pub tail_offset : (n h : ℕ) (b b1 b2 : List ℕ) (e : StoreError) → number_is n CountMismatch b ≡ Ok (tt, b1) → number_at b1 ≡ Ok (h, b2) → RefusedBy (number_is (40 + 8 * n) BoundaryOffset b2) e → RefusedBy (tail_at n b) e
unfolding behind_hashes
tail_offset n h b b1 b2 e one two r =
    refused_as (tail_at n b) _ e (tail_place n h b b1 b2 one two) (then_refused (number_is (40 + 8 * n) BoundaryOffset b2) (λ p. next_bytes 16 p.1 >>= λ s. Ok ((h, s.0), s.1)) e r)

tail_spare : (n h : ℕ) (b b1 b2 b3 : List ℕ) → number_is n CountMismatch b ≡ Ok (tt, b1) → number_at b1 ≡ Ok (h, b2) → number_is (40 + 8 * n) BoundaryOffset b2 ≡ Ok (tt, b3) → tail_at n b ≡ (next_bytes 16 b3 >>= λ s. Ok ((h, s.0), s.1))
unfolding behind_hashes
tail_spare n h b b1 b2 b3 one two three =
    tail_place n h b b1 b2 one two ∙ ap (λ (r : Parsed (Unit {0})). r >>= λ p. next_bytes 16 p.1 >>= λ s. Ok ((h, s.0), s.1)) three

pub tail_short : (n h : ℕ) (b b1 b2 b3 : List ℕ) (e : StoreError) → number_is n CountMismatch b ≡ Ok (tt, b1) → number_at b1 ≡ Ok (h, b2) → number_is (40 + 8 * n) BoundaryOffset b2 ≡ Ok (tt, b3) → RefusedBy (next_bytes 16 b3) e → RefusedBy (tail_at n b) e
tail_short n h b b1 b2 b3 e one two three r = refused_as (tail_at n b) _ e (tail_spare n h b b1 b2 b3 one two three) (then_refused (next_bytes 16 b3) (λ s. Ok ((h, s.0), s.1)) e r)

pub tail_is : (n h : ℕ) (b b1 b2 b3 spare b4 : List ℕ) → number_is n CountMismatch b ≡ Ok (tt, b1) → number_at b1 ≡ Ok (h, b2) → number_is (40 + 8 * n) BoundaryOffset b2 ≡ Ok (tt, b3) → b3 ≡ spare ++ b4 → length spare ≡ 16
    → tail_at n b ≡ Ok ((h, spare), b4)
tail_is n h b b1 b2 b3 spare b4 one two three four len =
    tail_spare n h b b1 b2 b3 one two three
    ∙ ap (λ (r : Parsed (List ℕ)). r >>= λ s. Ok ((h, s.0), s.1)) (ap (next_bytes 16) four ∙ bytes_whole 16 spare b4 len)

-- ---- all parts

-- a footer with these lists and what is behind them
abbrev with_parts : XorbObjectInfoV1 → ℕ → List ℕ → List ℕ → ℕ → List ℕ → XorbObjectInfoV1
with_parts d n ends plain h spare = record d {
  chunk_boundary_offsets = ends;
  unpacked_chunk_offsets = plain;
  num_chunks = n;
  hashes_section_offset_from_end = h;
  boundary_section_offset_from_end = 40 + 8 * n;
  spare = spare;
}

abbrev pub whole_info : ℕ → List ℕ × List ℕ → ℕ × List ℕ → XorbObjectInfoV1
whole_info n lists tail = with_parts empty_v1 n lists.0 lists.1 tail.0 tail.1

-- behind the lists
abbrev behind_lists : ℕ → List ℕ × List ℕ → List ℕ → Parsed XorbObjectInfoV1
behind_lists n lists b = tail_at n b >>= λ t. Ok (whole_info n lists t.0, t.1)

-- behind the number of chunks
abbrev behind_head : ℕ → List ℕ → Parsed XorbObjectInfoV1
behind_head n b = lists_at n b >>= λ l. behind_lists n l.0 l.1

tail_apart : (n : ℕ) (lists : List ℕ × List ℕ) (b : List ℕ) → behind_lists n lists b
    ≡ (number_is n CountMismatch b >>= λ a. number_at a.1 >>= λ h. number_is (40 + 8 * n) BoundaryOffset h.1 >>= λ p. next_bytes 16 p.1 >>= λ s. Ok (whole_info n lists (h.0, s.0), s.1))
unfolding tail_at
tail_apart n lists b =
    bind_bind (number_is n CountMismatch b) _ _
    ∙ onward (number_is n CountMismatch b) _ _
    (λ a. bind_bind (number_at a.1) _ _
    ∙ onward (number_at a.1) _ _
    (λ h. bind_bind (number_is (40 + 8 * n) BoundaryOffset h.1) _ _ ∙ onward (number_is (40 + 8 * n) BoundaryOffset h.1) _ _ (λ p. bind_bind (next_bytes 16 p.1) _ _)))

lists_apart : (n : ℕ) (b : List ℕ) → behind_head n b ≡ (times number_at n b >>= λ x. times number_at n x.1 >>= λ y. behind_lists n (x.0, y.0) y.1)
unfolding lists_at
lists_apart n b = bind_bind (times number_at n b) _ _ ∙ onward (times number_at n b) _ _ (λ x. bind_bind (times number_at n x.1) _ _)

pub parts : (b : List ℕ) → boundaries b ≡ (head_at b >>= λ n. behind_head n.0 n.1)
unfolding boundaries head_at
parts b =
    sym
    (bind_bind (magic_at boundaries_magic BoundariesIdent b) _ _
    ∙ onward (magic_at boundaries_magic BoundariesIdent b) _ _
    (λ s. bind_bind (version_at 1 BoundariesVersion s.1) _ _
    ∙ onward (version_at 1 BoundariesVersion s.1) _ _
    (λ v. onward (count_at v.1) _ _
    (λ n. lists_apart n.0 n.1 ∙ onward (times number_at n.0 n.1) _ _ (λ x. onward (times number_at n.0 x.1) _ _ (λ y. tail_apart n.0 (x.0, y.0) y.1))))))

pub unread_head : (b : List ℕ) (e : StoreError) → RefusedBy (head_at b) e → RefusedBy (boundaries b) e
unread_head b e r = refused_as (boundaries b) _ e (parts b) (then_refused (head_at b) (λ n. behind_head n.0 n.1) e r)

from_head : (n : ℕ) (b b1 : List ℕ) → head_at b ≡ Ok (n, b1) → boundaries b ≡ behind_head n b1
from_head n b b1 one = parts b ∙ ap (λ (r : Parsed ℕ). r >>= λ n. behind_head n.0 n.1) one

pub unread_lists : (n : ℕ) (b b1 : List ℕ) (e : StoreError) → head_at b ≡ Ok (n, b1) → RefusedBy (lists_at n b1) e → RefusedBy (boundaries b) e
unread_lists n b b1 e one r = refused_as (boundaries b) _ e (from_head n b b1 one) (then_refused (lists_at n b1) (λ l. behind_lists n l.0 l.1) e r)

from_lists : (n : ℕ) (lists : List ℕ × List ℕ) (b b1 b2 : List ℕ) → head_at b ≡ Ok (n, b1) → lists_at n b1 ≡ Ok (lists, b2) → boundaries b ≡ behind_lists n lists b2
from_lists n lists b b1 b2 one two = from_head n b b1 one ∙ ap (λ (r : Parsed (List ℕ × List ℕ)). r >>= λ l. behind_lists n l.0 l.1) two

pub unread_tail : (n : ℕ) (lists : List ℕ × List ℕ) (b b1 b2 : List ℕ) (e : StoreError) → head_at b ≡ Ok (n, b1) → lists_at n b1 ≡ Ok (lists, b2) → RefusedBy (tail_at n b2) e → RefusedBy (boundaries b) e
unread_tail n lists b b1 b2 e one two r = refused_as (boundaries b) _ e (from_lists n lists b b1 b2 one two) (then_refused (tail_at n b2) (λ t. Ok (whole_info n lists t.0, t.1)) e r)

pub all_parts : (n : ℕ) (lists : List ℕ × List ℕ) (tail : ℕ × List ℕ) (b b1 b2 b3 : List ℕ) → head_at b ≡ Ok (n, b1) → lists_at n b1 ≡ Ok (lists, b2) → tail_at n b2 ≡ Ok (tail, b3) → boundaries b ≡ Ok (whole_info n lists tail, b3)
all_parts n lists tail b b1 b2 b3 one two three = from_lists n lists b b1 b2 one two ∙ ap (λ (r : Parsed (ℕ × List ℕ)). r >>= λ t. Ok (whole_info n lists t.0, t.1)) three

pub filled_info : (d : XorbObjectInfoV1) (n : ℕ) (ends plain es ps : List ℕ) (h : ℕ) (spare : List ℕ) → d ≡ empty_v1 → es ≡ ends → ps ≡ plain → whole_info n (ends, plain) (h, spare) ≡ with_parts d n es ps h spare
filled_info d n ends plain es ps h spare is e p =
    ap (λ (x : List ℕ). whole_info n (x, plain) (h, spare)) (sym e) ∙ ap (λ (x : List ℕ). whole_info n (es, x) (h, spare)) (sym p) ∙ ap (λ (x : XorbObjectInfoV1). with_parts x n es ps h spare) (sym is)

-- ---- where it begins

pub last_few : (end : ℕ) (bytes : List ℕ) → end ≡ length bytes → end < 24 → last_boundaries bytes ≡ Err UnexpectedEof
unfolding last_boundaries
last_few end bytes same lt = rw (lt-leb 24 (length bytes) (omega arith)) refl

number_before_is : (end : ℕ) (bytes last : List ℕ) → end ≡ length bytes → last ≡ take 4 (drop (end - 24) bytes) → from_le_bytes w32 last ≡ number_before 24 bytes
number_before_is end bytes last same is = ap (from_le_bytes w32) (is ∙ ap (λ (k : ℕ). take 4 (drop (k - 24) bytes)) same)

pub number_told : {b : Bool} {seen bytes : List ℕ} {end : ℕ} (n : ℕ) (last : List ℕ) → Tells b seen bytes end → 24 ≤ end → n ≡ from_le_bytes w32 last
    → (b ≡ true → end - 24 + 4 ≤ length seen → last ≡ take 4 (drop (end - 24) seen)) → n ≡ number_before 24 bytes
number_told {b} {seen} {bytes} {end} n last t le is read =
    let there : end - 24 + 4 ≤ length seen = omega (arith, le, t.all, ap length t.same) in
    is ∙ number_before_is end bytes last t.all (read t.told there ∙ ap (λ (x : List ℕ). take 4 (drop (end - 24) x)) t.same)

begun : (end : ℕ) (bytes : List ℕ) → end ≡ length bytes → 24 ≤ end → last_boundaries bytes ≡ (reaches (nat_le (number_before 24 bytes + 4) (length bytes)) >>= λ _. boundaries (drop (length bytes - (number_before 24 bytes + 4)) bytes))
unfolding last_boundaries
begun end bytes same le =
    ap (λ (t : Bool). reaches t >>= λ _. reaches (nat_le (number_before 24 bytes + 4) (length bytes)) >>= λ _. boundaries (drop (length bytes - (number_before 24 bytes + 4)) bytes)) (le-leb 24 (length bytes) (omega arith))

pub begins_before : (end n : ℕ) (bytes : List ℕ) → end ≡ length bytes → 24 ≤ end → n ≡ number_before 24 bytes → end < n + 4 → last_boundaries bytes ≡ Err UnexpectedEof
begins_before end n bytes same le told lt =
    let few : length bytes < n + 4 = omega arith in
    begun end bytes same le
    ∙ ap (λ (t : Bool). reaches t >>= λ _. boundaries (drop (length bytes - (number_before 24 bytes + 4)) bytes)) (lt-leb (number_before 24 bytes + 4) (length bytes) (subst (λ (k : ℕ). length bytes < k + 4) told few))

pub start_is : (end n : ℕ) (bytes : List ℕ) → end ≡ length bytes → n ≡ number_before 24 bytes → end - (n + 4) ≡ length bytes - (number_before 24 bytes + 4)
start_is end n bytes same told = ap (λ (k : ℕ). k - (n + 4)) same ∙ ap (λ (k : ℕ). length bytes - (k + 4)) told

pub begins_at : (end n : ℕ) (bytes : List ℕ) → end ≡ length bytes → 24 ≤ end → n ≡ number_before 24 bytes → n + 4 ≤ end → last_boundaries bytes ≡ boundaries (drop (end - (n + 4)) bytes)
begins_at end n bytes same le told fits =
    let enough : n + 4 ≤ length bytes = omega arith in
    begun end bytes same le
    ∙ ap (λ (t : Bool). reaches t >>= λ _. boundaries (drop (length bytes - (number_before 24 bytes + 4)) bytes)) (le-leb (number_before 24 bytes + 4) (length bytes) (subst (λ (k : ℕ). k + 4 ≤ length bytes) told enough))
    ∙ ap (λ (k : ℕ). boundaries (drop k bytes)) (sym (start_is end n bytes same told))
