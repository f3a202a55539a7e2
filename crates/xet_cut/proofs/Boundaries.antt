-- The first boundary, by the Gear hash computed byte by byte.
use Rattle.std.proofs.Common.{◌≡◌, ◌≢◌, ◌∙◌, ℕ, ◌+◌, ◌-◌, ◌*◌, ◌%◌, ◌^◌, ◌<◌, ◌≤◌, true, false, List, [], ◌∷◌, ◌++◌, append_assoc, length, take, drop, get_or, slice_index, Some, None, eqb, bit_and, refl, sym, ap, inl, inr, arith, length-append, length-drop}
use Rattle.std.proofs.lemmas.List.{append-nil, drop-append-le, drop-take, drop_all, length-take-le, take-append-drop, take-take, take_more}
use Rattle.std.proofs.Math.Seq.{drop-append-add, take-append-add}
use Rattle.std.proofs.lemmas.Bool.{cases_lt, eq-eqb, ne_eqb}
use Rattle.std.specs.List.{slice_range}
use Rattle.xet_base.specs.theorems.FirstOf.{first_of_all, first_of_here, first_of_none}
use Rattle.xet_cut.specs.internal.Boundary.{first_match, is_match, rolled}
use Rattle.xet_cut.specs.Chunking.{gear_hash, last_bytes, mask, may_end}
use Rattle.xet_cut.specs.Streams.{boundary_in}
use Rattle.xet_cut.specs.declared.limits.LimitSettings.{LimitSettings}
use Rattle.xet_cut.specs.theorems.FirstBoundary.{first_found, first_of_found, is_none, may_end-append, none_found}
use Rattle.xet_cut.specs.theorems.GearHash.{gear_hash-append, gear_hash_window}

-- the hash after one more byte, whose word is a
abbrev one : ℕ → ℕ → ℕ
one hash a = (hash * 2 % 2 ^ 64 + a) % 2 ^ 64

-- the hash after two more bytes, whose words are a and b
abbrev two : ℕ → ℕ → ℕ → ℕ
two hash a b = (hash * 4 % 2 ^ 64 + (a * 2 % 2 ^ 64 + b) % 2 ^ 64) % 2 ^ 64

rolled-append : (gear xs ys : List ℕ) (hash : ℕ) → rolled gear hash (xs ++ ys) ≡ rolled gear (rolled gear hash xs) ys
unfolding rolled
rolled-append gear [] ys hash = refl
rolled-append gear (x ∷ xs) ys hash = rolled-append gear xs ys _

-- one more byte
pub rolled_more : (gear bs : List ℕ) (start i hash : ℕ) → hash ≡ rolled gear start (take i bs) → i < length bs
    → one hash (slice_index gear (get_or bs i 0)) ≡ rolled gear start (take (i + 1) bs)
unfolding rolled
rolled_more gear bs start i hash so_far here = rw (take_more bs i 0 here, rolled-append gear (take i bs) (get_or bs i 0 ∷ []) start, ← so_far) refl

-- the hash of bytes that follow others
rolled_hash : (gear xs ys : List ℕ) → rolled gear (gear_hash gear xs) ys ≡ gear_hash gear (xs ++ ys)
unfolding rolled gear_hash
rolled_hash gear xs [] = ap (gear_hash gear) (sym (append-nil xs))
rolled_hash gear xs (y ∷ ys) =
    let last = gear_hash-append gear xs (y ∷ []) in
    let next : one (gear_hash gear xs) (slice_index gear y) ≡ gear_hash gear (xs ++ y ∷ []) = omega (arith, last) in
    ap (λ (h : ℕ). rolled gear h ys) next ∙ rolled_hash gear (xs ++ y ∷ []) ys ∙ ap (gear_hash gear) (append_assoc xs (y ∷ []) ys)

-- the hash of the bytes that the next one depends on
pub hash_before_is : (gear before bytes : List ℕ) (at from low : ℕ) → at ≤ length bytes → from ≡ length before - (63 - at) → low ≡ at - 63
    → rolled gear (rolled gear 0 (drop from before)) (slice_range bytes low at) ≡ gear_hash gear (drop (length before + at - 63) (before ++ take at bytes))
unfolding gear_hash
hash_before_is gear before bytes at from low within from_is low_is =
    let e : low + (at - low) ≡ at = omega arith in
    let tail : slice_range bytes low at ≡ drop low (take at bytes) = sym (drop-take low (at - low) bytes) ∙ ap (λ (k : ℕ). drop low (take k bytes)) e in
    let hash : rolled gear 0 (drop from before) ≡ gear_hash gear (drop from before) = rolled_hash gear [] (drop from before) in
    let both : drop from before ++ slice_range bytes low at ≡ drop (length before + at - 63) (before ++ take at bytes) = elim (cases_lt 63 at) [
      | inl long ↦
          let none : drop from before ≡ [] = drop_all from before (omega arith) in
          let n : length before + at - 63 ≡ length before + low = omega arith in
          rw (none, n, tail) (sym (drop-append-add before (take at bytes) low))
      | inr short ↦
          let zero_low : low ≡ 0 = omega arith in
          let n : length before + at - 63 ≡ from = omega arith in
          rw (tail, n, zero_low) (sym (drop-append-le from before (take at bytes) (omega arith)))
    ] in
    ap (λ (h : ℕ). rolled gear h (slice_range bytes low at)) hash ∙ rolled_hash gear (drop from before) (slice_range bytes low at) ∙ ap (gear_hash gear) both

-- the hash of the first i bytes, none of which ends a match
pub record Passed (gear : List ℕ) (m start : ℕ) (bs : List ℕ) (i hash : ℕ) : Type 0 where
  pub so_far : hash ≡ rolled gear start (take i bs)
  pub none : (k : ℕ) → 1 ≤ k → k ≤ i → is_match gear m start bs k ≡ false

-- before the first byte
pub passed_none : (gear bs : List ℕ) (m start : ℕ) → Passed gear m start bs 0 start
unfolding rolled
passed_none gear bs m start = record { so_far = refl; none = λ k low high. absurd (omega arith) }

-- no match at i + 1, by the hash there
passed_next : {gear bs : List ℕ} {m start i hash : ℕ} (next : ℕ) → Passed gear m start bs i hash → next ≡ rolled gear start (take (i + 1) bs)
    → bit_and next m ≢ 0 → Passed gear m start bs (i + 1) next
unfolding is_match
passed_next {gear} {bs} {m} {start} {i} next p next_is ne = record {
  so_far = next_is;
  none = λ k from to. elim (cases_lt k (i + 1)) [
    | inl before ↦ p.none k from (omega arith)
    | inr at ↦
        let e : k ≡ i + 1 = omega arith in
        rw e (ap (λ (t : ℕ). eqb (bit_and t m) 0) (sym next_is) ∙ ne_eqb _ _ ne)
  ];
}

-- a match at i + 1, by the hash there
found_next : {gear bs : List ℕ} {m start i hash : ℕ} (next : ℕ) → Passed gear m start bs i hash → next ≡ rolled gear start (take (i + 1) bs)
    → i < length bs → bit_and next m ≡ 0 → Some (i + 1) ≡ first_match gear m start bs
unfolding first_match is_match
found_next {gear} {bs} {m} {start} {i} next p next_is here eq =
    let at : is_match gear m start bs (i + 1) ≡ true = ap (λ (t : ℕ). eqb (bit_and t m) 0) (sym next_is) ∙ eq-eqb _ _ eq in
    sym (first_of_here (is_match gear m start bs) 1 (length bs) (i + 1) (omega arith) (omega arith) (λ j from to. p.none j from (omega arith)) at)

-- no match in all the bytes
pub found_none : {gear bs : List ℕ} {m start i hash : ℕ} → Passed gear m start bs i hash → length bs ≤ i → None ≡ first_match gear m start bs
unfolding first_match
found_none {gear} {bs} {m} {start} p all = sym (first_of_none (is_match gear m start bs) 1 (length bs) (λ j from to. p.none j from (omega arith)))

-- no match after one more byte
pub passed_one : {gear bs : List ℕ} {m start i hash : ℕ} → Passed gear m start bs i hash → i < length bs
    → bit_and (one hash (slice_index gear (get_or bs i 0))) m ≢ 0 → Passed gear m start bs (i + 1) (one hash (slice_index gear (get_or bs i 0)))
passed_one {gear} {bs} {m} {start} {i} {hash} p here = passed_next _ p (rolled_more gear bs start i hash p.so_far here)

-- the first match at k, after one more byte
pub found_one : {gear bs : List ℕ} {m start i hash : ℕ} (k : ℕ) → Passed gear m start bs i hash → k ≡ i + 1 → i < length bs
    → bit_and (one hash (slice_index gear (get_or bs i 0))) m ≡ 0 → Some k ≡ first_match gear m start bs
found_one {gear} {bs} {m} {start} {i} {hash} k p next here eq =
    ap Some next ∙ found_next _ p (rolled_more gear bs start i hash p.so_far here) here eq

two_bytes : (hash a b : ℕ) → two hash a b ≡ one (one hash a) b
two_bytes hash a b = omega arith

-- two more bytes
rolled_two : (gear bs : List ℕ) (start i hash j : ℕ) → hash ≡ rolled gear start (take i bs) → j ≡ i + 1 → j < length bs
    → two hash (slice_index gear (get_or bs i 0)) (slice_index gear (get_or bs j 0)) ≡ rolled gear start (take (j + 1) bs)
rolled_two gear bs start i hash j so_far next here =
    let first = rolled_more gear bs start i hash so_far (omega arith) in
    two_bytes hash (slice_index gear (get_or bs i 0)) (slice_index gear (get_or bs j 0))
    ∙ rolled_more gear bs start j _ (first ∙ ap (λ (k : ℕ). rolled gear start (take k bs)) (sym next)) here

-- no match after one more byte, nor at k, after two
pub passed_two : {gear bs : List ℕ} {m start i hash : ℕ} (j k : ℕ) → Passed gear m start bs i hash → j ≡ i + 1 → k ≡ j + 1 → j < length bs
    → bit_and (one hash (slice_index gear (get_or bs i 0))) m ≢ 0
    → bit_and (two hash (slice_index gear (get_or bs i 0)) (slice_index gear (get_or bs j 0))) m ≢ 0
    → Passed gear m start bs k (two hash (slice_index gear (get_or bs i 0)) (slice_index gear (get_or bs j 0)))
passed_two {gear} {bs} {m} {start} {i} {hash} j k p next last here ne_one ne_two =
    let first = passed_one p (omega arith) ne_one in
    let second = rolled_two gear bs start i hash j p.so_far next here in
    rw last (passed_next _ (rw (sym next) at first) second ne_two)

-- the first match at k, after two more bytes
pub found_two : {gear bs : List ℕ} {m start i hash : ℕ} (j k : ℕ) → Passed gear m start bs i hash → j ≡ i + 1 → k ≡ j + 1 → j < length bs
    → bit_and (one hash (slice_index gear (get_or bs i 0))) m ≢ 0
    → bit_and (two hash (slice_index gear (get_or bs i 0)) (slice_index gear (get_or bs j 0))) m ≡ 0
    → Some k ≡ first_match gear m start bs
found_two {gear} {bs} {m} {start} {i} {hash} j k p next last here ne_one eq_two =
    let first = passed_one p (omega arith) ne_one in
    let second = rolled_two gear bs start i hash j p.so_far next here in
    ap Some last ∙ found_next _ (rw (sym next) at first) second here eq_two

-- a match is where a chunk may end
match_is : (s : LimitSettings) (before bytes : List ℕ) (start end hash k : ℕ) → hash ≡ gear_hash s.gear (drop (length before + start - 63) (before ++ take start bytes))
    → start ≤ end → end ≤ length bytes → 1 ≤ k → k ≤ end - start
    → is_match s.gear (mask s.target_chunk) hash (slice_range bytes start end) k ≡ may_end s (before ++ bytes) (length before + (start + k))
unfolding is_match may_end
match_is s before bytes start end hash k hash_is order within low high =
    let d : ℕ = length before + start - 63 in
    let seen : List ℕ = before ++ take start bytes in
    let n : ℕ = length before + (start + k) in
    let whole : List ℕ = take n (before ++ bytes) in
    let new : take k (slice_range bytes start end) ≡ take k (drop start bytes) = take-take k (end - start) (drop start bytes) high in
    let more : take start bytes ++ take k (drop start bytes) ≡ take (start + k) bytes =
    rw (sym (take-take start (start + k) bytes (omega arith)), sym (drop-take start k bytes)) (take-append-drop start (take (start + k) bytes)) in
    let parts : seen ++ take k (drop start bytes) ≡ whole =
    append_assoc before (take start bytes) (take k (drop start bytes)) ∙ ap (λ (t : List ℕ). before ++ t) more ∙ sym (take-append-add before bytes (start + k)) in
    let len_seen : length seen ≡ length before + start = omega (arith, length-append before (take start bytes), length-take-le start bytes (omega arith)) in
    let len : length whole ≡ n = length-take-le n (before ++ bytes) (omega (arith, length-append before bytes)) in
    let hash_here : rolled s.gear hash (take k (slice_range bytes start end)) ≡ gear_hash s.gear (last_bytes whole) =
    ap (λ (t : List ℕ). rolled s.gear hash t) new
    ∙ ap (λ (h : ℕ). rolled s.gear h (take k (drop start bytes))) hash_is
    ∙ rolled_hash s.gear (drop d seen) (take k (drop start bytes))
    ∙ ap (gear_hash s.gear) (sym (drop-append-le d seen (take k (drop start bytes)) (omega arith)) ∙ ap (drop d) parts)
    ∙ gear_hash_window s.gear whole d (omega arith) in
    ap (λ (h : ℕ). eqb (bit_and h (mask s.target_chunk)) 0) hash_here

-- no chunk may end before the first byte that is tested
pub none_before : (s : LimitSettings) (before bytes : List ℕ) (start : ℕ) → boundary_in s before ≡ None → start ≡ s.minimum_chunk - 1 - length before
    → (j : ℕ) → s.minimum_chunk ≤ j → j ≤ length before + start → may_end s (before ++ bytes) j ≡ false
none_before s before bytes start unended start_is j low high =
    let within : j ≤ length before = omega arith in
    may_end-append s before bytes j within ∙ (is_none s before unended).none j low within

-- nor up to the one after n bytes, if there is no match among them
none_until : (s : LimitSettings) (before bytes : List ℕ) (start end hash n : ℕ) → boundary_in s before ≡ None → start ≡ s.minimum_chunk - 1 - length before
    → hash ≡ gear_hash s.gear (drop (length before + start - 63) (before ++ take start bytes)) → start ≤ end → end ≤ length bytes → n ≤ end - start
    → ((k : ℕ) → 1 ≤ k → k ≤ n → is_match s.gear (mask s.target_chunk) hash (slice_range bytes start end) k ≡ false)
    → (j : ℕ) → s.minimum_chunk ≤ j → j ≤ length before + (start + n) → may_end s (before ++ bytes) j ≡ false
none_until s before bytes start end hash n unended start_is hash_is order within few none j low high = elim (cases_lt (length before + start) j) [
  | inl after ↦
      let k : ℕ = j - (length before + start) in
      let e : length before + (start + k) ≡ j = omega arith in
      ap (may_end s (before ++ bytes)) (sym e) ∙ sym (match_is s before bytes start end hash k hash_is order within (omega arith) (omega arith)) ∙ none k (omega arith) (omega arith)
  | inr early ↦ none_before s before bytes start unended start_is j low (omega arith)
]

-- the first boundary, at a match
pub boundary_at_match : (s : LimitSettings) (before bytes : List ℕ) (start end hash n : ℕ) → boundary_in s before ≡ None → start ≡ s.minimum_chunk - 1 - length before
    → hash ≡ gear_hash s.gear (drop (length before + start - 63) (before ++ take start bytes)) → start ≤ end → end ≤ length bytes → end ≤ s.maximum_chunk - length before
    → Some n ≡ first_match s.gear (mask s.target_chunk) hash (slice_range bytes start end)
    → boundary_in s (before ++ bytes) ≡ Some (length before + (start + n))
unfolding first_match
boundary_at_match s before bytes start end hash n unended start_is hash_is order within most found =
    let none = is_none s before unended in
    let len : length (slice_range bytes start end) ≡ end - start = length-take-le (end - start) (drop start bytes) (omega (arith, length-drop start bytes)) in
    let f = first_of_found _ 1 (length (slice_range bytes start end)) n (sym found) in
    first_found s (before ++ bytes) (length before + (start + n)) record {
      low = omega (arith, f.low);
      within = omega (arith, f.high, length-append before bytes);
      high = omega (arith, none.short, f.high);
      none = λ j low high. none_until s before bytes start end hash (n - 1) unended start_is hash_is order within (omega (arith, f.high)) (λ k from to. f.none k from (omega (arith, f.low))) j low (omega (arith, f.low));
      ends = λ below. sym (match_is s before bytes start end hash n hash_is order within f.low (omega (arith, f.high))) ∙ f.here;
    }

-- no boundary up to the end of the bytes, which are fewer than the maximum
pub boundary_none : (s : LimitSettings) (before bytes : List ℕ) → length before + length bytes < s.maximum_chunk
    → ((j : ℕ) → s.minimum_chunk ≤ j → j ≤ length before + length bytes → may_end s (before ++ bytes) j ≡ false) → boundary_in s (before ++ bytes) ≡ None
boundary_none s before bytes short none =
    none_found s (before ++ bytes) record { short = omega (arith, length-append before bytes); none = λ k low high. none k low (omega (arith, length-append before bytes)) }

-- the first boundary, at the maximum
pub boundary_at_maximum : (s : LimitSettings) (before bytes : List ℕ) (room : ℕ) → s.minimum_chunk ≤ s.maximum_chunk → length before + room ≡ s.maximum_chunk → room ≤ length bytes
    → ((j : ℕ) → s.minimum_chunk ≤ j → j ≤ s.maximum_chunk → may_end s (before ++ bytes) j ≡ false) → boundary_in s (before ++ bytes) ≡ Some (length before + room)
boundary_at_maximum s before bytes room order at within none =
    first_found s (before ++ bytes) (length before + room) record {
      low = omega arith;
      within = omega (arith, length-append before bytes);
      high = omega arith;
      none = λ j low high. none j low (omega arith);
      ends = λ below. absurd (omega arith);
    }

-- no chunk may end within the bytes that were scanned
pub none_scanned : (s : LimitSettings) (before bytes : List ℕ) (start end hash : ℕ) → boundary_in s before ≡ None → start ≡ s.minimum_chunk - 1 - length before
    → hash ≡ gear_hash s.gear (drop (length before + start - 63) (before ++ take start bytes)) → start ≤ end → end ≤ length bytes
    → None ≡ first_match s.gear (mask s.target_chunk) hash (slice_range bytes start end)
    → (j : ℕ) → s.minimum_chunk ≤ j → j ≤ length before + end → may_end s (before ++ bytes) j ≡ false
unfolding first_match
none_scanned s before bytes start end hash unended start_is hash_is order within found j low high =
    let len : length (slice_range bytes start end) ≡ end - start = length-take-le (end - start) (drop start bytes) (omega (arith, length-drop start bytes)) in
    none_until s before bytes start end hash (end - start) unended start_is hash_is order within (omega arith)
    (λ k from to. first_of_all _ 1 (length (slice_range bytes start end)) (sym found) k from (omega arith)) j low (omega arith)
