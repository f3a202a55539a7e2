-- What a step of the chunker makes of its bytes.
use Rattle.std.proofs.Common.{◌≡◌, ◌∙◌, ℕ, ◌+◌, ◌-◌, ◌<◌, ◌≤◌, Bool, true, false, List, [], ◌∷◌, ◌++◌, length, take, drop, Option, Some, None, refl, sym, ap, arith, inl, inr, length-append}
use Rattle.std.proofs.lemmas.List.{append-nil, append_cancel_left, drop_all, length-take-le, take_all}
use Rattle.std.proofs.lemmas.Bool.{cases_lt, false≢true}
use Rattle.std.proofs.Math.Seq.{drop-append-add, take-append-add}
use Rattle.std.specs.Option.{option_to_list}
use Rattle.xet_base.specs.theorems.Pieces.{pieces_none}
use Rattle.xet_cut.specs.declared.limits.LimitSettings.{LimitSettings}
use Rattle.xet_cut.specs.Chunking.{chunking, first_chunk_len, may_end}
use Rattle.xet_cut.specs.Streams.{IsSplit, boundary_in, if_any, step}
use Rattle.xet_cut.specs.theorems.Complete.{boundary_in_first, split_complete}
use Rattle.xet_cut.specs.theorems.FirstBoundary.{is_first, is_none, may_end-append, none_in_nothing}
use Rattle.xet_cut.specs.theorems.Streams.{chunking_cut, chunking_unended}
use Rattle.xet_cut.proofs.Splitting.{step_cut, step_last, step_more}

-- with no boundary within the buffered bytes, the first one is within the new bytes
after_buffered : (s : LimitSettings) (buffered new : List ℕ) (k : ℕ) → s.minimum_chunk < s.maximum_chunk → boundary_in s buffered ≡ None → boundary_in s (buffered ++ new) ≡ Some k
    → length buffered < k
after_buffered s buffered new k order none found =
    let f = is_first s (buffered ++ new) k (omega arith) found in
    let no = is_none s buffered none in
    elim (cases_lt (length buffered) k) [
      | inl after ↦ after
      | inr within ↦
          let ends : may_end s buffered k ≡ true = sym (may_end-append s buffered new k (omega arith)) ∙ f.ends (omega (arith, no.short)) in
          absurd (false≢true (sym (no.none k f.low (omega arith)) ∙ ends))
    ]

-- a chunk that ends at its first boundary is split off, with nothing after it
whole_chunk : (s : LimitSettings) (c : List ℕ) (k : ℕ) → 1 ≤ s.minimum_chunk → s.minimum_chunk < s.maximum_chunk → length c ≤ k → boundary_in s c ≡ Some k → IsSplit s c (c ∷ []) []
whole_chunk s c k some order len found = record {
  joined = λ rest.
      chunking_cut s c rest k some order found
      ∙ ap (λ (t : List ℕ). t ∷ chunking s (drop k c ++ rest)) (take_all k c len)
      ∙ ap (λ (t : List ℕ). c ∷ chunking s (t ++ rest)) (drop_all k c len);
  none = none_in_nothing s some order;
}

-- a step takes no more than the new bytes
pub step_within : (s : LimitSettings) (buffered new : List ℕ) (last : Bool) → s.minimum_chunk < s.maximum_chunk → (step s buffered new last).taken ≤ length new
unfolding step
step_within s buffered new last order = by_boundary (boundary_in s (buffered ++ new)) refl last
  where
    by_boundary : (o : Option ℕ) → boundary_in s (buffered ++ new) ≡ o → (last : Bool) → (step s buffered new last).taken ≤ length new
    by_boundary (Some k) found last =
        let f = is_first s (buffered ++ new) k (omega arith) found in
        let taken : (step s buffered new last).taken ≡ k - length buffered = rw (found, step) refl in
        omega (arith, f.within, taken, length-append buffered new)
    by_boundary None found true = rw (step_last s buffered new found) (omega arith)
    by_boundary None found false = rw (step_more s buffered new found) (omega arith)

-- a step that returns a chunk at a boundary takes at least one new byte
pub step_progress : (s : LimitSettings) (buffered new : List ℕ) → s.minimum_chunk < s.maximum_chunk → boundary_in s buffered ≡ None
    → (chunk : List ℕ) → (step s buffered new false).chunk ≡ Some chunk → 0 < (step s buffered new false).taken
step_progress s buffered new order none chunk returned = by_boundary (boundary_in s (buffered ++ new)) refl
  where
    by_boundary : (o : Option ℕ) → boundary_in s (buffered ++ new) ≡ o → 0 < (step s buffered new false).taken
    by_boundary None found =
        let nothing : (step s buffered new false).chunk ≡ None = rw (step_more s buffered new found) refl in
        absurd (cc (nothing, returned))
    by_boundary (Some k) found =
        let n : ℕ = k - length buffered in
        let count : k ≡ length buffered + n = omega (arith, after_buffered s buffered new k order none found) in
        rw (step_cut s buffered new false n (found ∙ ap Some count)) (omega (arith, after_buffered s buffered new k order none found))

-- a step splits the bytes that it takes
pub step_split : (s : LimitSettings) (buffered new : List ℕ) → 1 ≤ s.minimum_chunk → s.minimum_chunk < s.maximum_chunk → boundary_in s buffered ≡ None
    → IsSplit s (buffered ++ take (step s buffered new false).taken new) (option_to_list (step s buffered new false).chunk) (step s buffered new false).buffered
step_split s buffered new some order none = by_boundary (boundary_in s (buffered ++ new)) refl
  where
    by_boundary : (o : Option ℕ) → boundary_in s (buffered ++ new) ≡ o
        → IsSplit s (buffered ++ take (step s buffered new false).taken new) (option_to_list (step s buffered new false).chunk) (step s buffered new false).buffered
    by_boundary None found =
        rw (step_more s buffered new found, take_all (length new) new (omega arith)) record { joined = λ rest. refl; none = found }
    by_boundary (Some k) found =
        let n : ℕ = k - length buffered in
        let count : k ≡ length buffered + n = omega (arith, after_buffered s buffered new k order none found) in
        let f = is_first s (buffered ++ new) k (omega arith) found in
        let part : take k (buffered ++ new) ≡ buffered ++ take n new = ap (λ (m : ℕ). take m (buffered ++ new)) count ∙ take-append-add buffered new n in
        let len : length (buffered ++ take n new) ≡ k = ap length (sym part) ∙ length-take-le k (buffered ++ new) f.within in
        let ends : boundary_in s (buffered ++ take n new) ≡ Some k = ap (boundary_in s) (sym part) ∙ boundary_in_first s (buffered ++ new) k order found in
        rw (step_cut s buffered new false n (found ∙ ap Some count)) (whole_chunk s (buffered ++ take n new) k some order (omega arith) ends)

-- a step with the last bytes gives the first of their chunks, or the only one
pub step_ended : (s : LimitSettings) (buffered new : List ℕ) → 1 ≤ s.minimum_chunk → s.minimum_chunk < s.maximum_chunk → boundary_in s buffered ≡ None
    → option_to_list (step s buffered new true).chunk ++ chunking s (drop (step s buffered new true).taken new) ≡ chunking s (buffered ++ new)
step_ended s buffered new some order none = by_boundary (boundary_in s (buffered ++ new)) refl
  where
    by_boundary : (o : Option ℕ) → boundary_in s (buffered ++ new) ≡ o
        → option_to_list (step s buffered new true).chunk ++ chunking s (drop (step s buffered new true).taken new) ≡ chunking s (buffered ++ new)
    by_boundary None found =
        let tail : List (List ℕ) = option_to_list (if_any (buffered ++ new)) in
        rw (step_last s buffered new found, drop_all (length new) new (omega arith))
        (ap (λ (t : List (List ℕ)). tail ++ t) (pieces_none (first_chunk_len s) [] refl) ∙ append-nil tail ∙ sym (chunking_unended s (buffered ++ new) found))
    by_boundary (Some k) found =
        let n : ℕ = k - length buffered in
        let count : k ≡ length buffered + n = omega (arith, after_buffered s buffered new k order none found) in
        let all : List ℕ = buffered ++ new in
        let part : take k all ≡ buffered ++ take n new = ap (λ (m : ℕ). take m all) count ∙ take-append-add buffered new n in
        let rest : drop k all ++ [] ≡ drop n new = append-nil (drop k all) ∙ ap (λ (m : ℕ). drop m all) count ∙ drop-append-add buffered new n in
        let chunks : chunking s all ≡ (buffered ++ take n new) ∷ chunking s (drop n new) =
        ap (chunking s) (sym (append-nil all)) ∙ chunking_cut s all [] k some order found
        ∙ ap (λ (t : List ℕ). t ∷ chunking s (drop k all ++ [])) part ∙ ap (λ (t : List ℕ). (buffered ++ take n new) ∷ chunking s t) rest in
        rw (step_cut s buffered new true n (found ∙ ap Some count)) (sym chunks)

-- bytes are known by whether there are any
same_if_any : (left rest : List ℕ) → option_to_list (if_any left) ≡ option_to_list (if_any rest) → left ≡ rest
same_if_any [] [] e = refl
same_if_any [] (r ∷ rs) e = absurd (cc e)
same_if_any (l ∷ ls) [] e = absurd (cc e)
same_if_any (l ∷ ls) (r ∷ rs) e = cc e

-- the same bytes are split in the same way
pub split_unique : (s : LimitSettings) (bs : List ℕ) (chunks more : List (List ℕ)) (left rest : List ℕ) → 1 ≤ s.minimum_chunk → s.minimum_chunk < s.maximum_chunk
    → IsSplit s bs chunks left → IsSplit s bs more rest → (chunks ≡ more) × (left ≡ rest)
split_unique s bs chunks more left rest some order one other =
    let same : chunks ≡ more = sym (split_complete s chunks bs left some order one.joined one.none) ∙ split_complete s more bs rest some order other.joined other.none in
    let joined : chunks ++ chunking s (left ++ []) ≡ chunks ++ chunking s (rest ++ []) =
    sym (one.joined []) ∙ other.joined [] ∙ ap (λ (t : List (List ℕ)). t ++ chunking s (rest ++ [])) (sym same) in
    let after : chunking s left ≡ chunking s rest =
    ap (chunking s) (sym (append-nil left)) ∙ append_cancel_left chunks (chunking s (left ++ [])) (chunking s (rest ++ [])) joined ∙ ap (chunking s) (append-nil rest) in
    (same, same_if_any left rest (sym (chunking_unended s left one.none) ∙ after ∙ chunking_unended s rest other.none))
