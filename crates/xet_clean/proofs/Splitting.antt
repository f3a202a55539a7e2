-- Bytes that are split into chunks: how many these are, and how long.
use Rattle.std.proofs.Common.{◌≡◌, ◌∙◌, ℕ, zero, suc, ◌+◌, ◌-◌, ◌*◌, ◌<◌, ◌≤◌, List, [], ◌∷◌, ◌++◌, append_assoc, length, map, take, drop, Option, Some, None, refl, sym, ap, subst, lt_of_le_of_lt, arith, length-append, length-take}
use Rattle.std.specs.List.{AllByRecursion}
use Rattle.std.specs.Option.{option_to_list}
use Rattle.std.proofs.lemmas.List.{append-nil, length-map, length-take-le, map-append}
use Rattle.std.proofs.lemmas.List.Sums.{sum_by-append, sum_by-cons}
use Rattle.std.proofs.lemmas.Nat.{le-div}
use Rattle.xet_base.specs.Pieces.{pieces_after}
use Rattle.xet_cut.specs.Chunking.{chunking, first_chunk_len}
use Rattle.xet_cut.specs.Limits.{AreInRange}
use Rattle.xet_cut.specs.Streams.{IsSplit, boundary_in, if_any}
use Rattle.xet_cut.specs.declared.limits.LimitSettings.{LimitSettings}
use Rattle.xet_cut.specs.theorems.FirstBoundary.{is_first}
use Rattle.xet_cut.specs.theorems.Parts.{first_chunk_len_within}
use Rattle.xet_cut.specs.theorems.Streams.{chunking_cut, chunking_unended}
use Rattle.xet_file_plan.specs.Kept.{max_chunks}
use Rattle.xet_hash.specs.Merkle.{leaf_of, leaves_of, total_len}
use Rattle.xet_store_disk.specs.Separate.{Among}
use Rattle.xet_xorb_chunk.specs.Chunks.{chunk_leaf, chunk_of}
use Rattle.xet_clean.specs.theorems.Owning.{in_itself, in_more}

-- ---- leaves

abbrev pub Leaf : Type 0
Leaf = List ℕ × ℕ

-- the leaves of chunks in memory
pub made_leaves : (parts : List (List ℕ)) → map chunk_leaf (map chunk_of parts) ≡ leaves_of parts
made_leaves [] = refl
made_leaves (p ∷ parts) = ap (λ (l : List Leaf). leaf_of p ∷ l) (made_leaves parts)

-- the leaves of chunks after others, and their bytes
pub leaves-append : (xs ys : List (List ℕ)) → leaves_of (xs ++ ys) ≡ leaves_of xs ++ leaves_of ys
leaves-append xs ys = map-append leaf_of xs ys

pub total-append : (xs ys : List (List ℕ)) → total_len (leaves_of (xs ++ ys)) ≡ total_len (leaves_of xs) + total_len (leaves_of ys)
total-append xs ys = ap total_len (leaves-append xs ys) ∙ sum_by-append (λ (m : Leaf). m.1) (leaves_of xs) (leaves_of ys)

-- leaves of at least n bytes each
count_long : (n : ℕ) (leaves : List Leaf) → AllByRecursion (λ leaf. n ≤ leaf.1) leaves → length leaves * n ≤ total_len leaves
count_long n [] all = omega arith
count_long n (l ∷ ls) all = omega (arith, sum_by-cons (λ (m : Leaf). m.1) l ls, count_long n ls all.1, all.0)

-- Chunks of at least the minimum length of a file within the limits are fewer than a file may have.
pub few_leaves : (s : LimitSettings) (leaves : List Leaf) → AreInRange s → AllByRecursion (λ leaf. s.minimum_chunk ≤ leaf.1) leaves → total_len leaves ≤ s.max_source_bytes → length leaves < max_chunks
few_leaves s leaves range all short =
    lt_of_le_of_lt (le-div (length leaves) s.max_source_bytes s.minimum_chunk range.minimum_from (omega (arith, count_long s.minimum_chunk leaves all, short))) range.source_chunks

-- the leaves of chunks of at least the minimum length
pub leaves_long : (n : ℕ) (parts : List (List ℕ)) → AllByRecursion (λ c. n ≤ length c) parts → AllByRecursion (λ (leaf : Leaf). n ≤ leaf.1) (leaves_of parts)
leaves_long n [] all = tt
leaves_long n (p ∷ parts) all = (all.0, leaves_long n parts all.1)

-- and of at most the maximum length
pub leaves_short : (s : LimitSettings) (n : ℕ) (parts : List (List ℕ)) → s.maximum_chunk ≤ n → AllByRecursion (λ c. (0 < length c) × (length c ≤ s.maximum_chunk)) parts → AllByRecursion (λ (leaf : Leaf). leaf.1 ≤ n) (leaves_of parts)
leaves_short s n [] le all = tt
leaves_short s n (p ∷ parts) le all = (omega (arith, all.0.1, le), leaves_short s n parts le all.1)

-- ---- chunks

module _ (s : LimitSettings) (some : 1 ≤ s.minimum_chunk) (order : s.minimum_chunk < s.maximum_chunk) where
  -- The chunks have all the bytes,
  total_after : (k : ℕ) (xs : List ℕ) → total_len (leaves_of (pieces_after (first_chunk_len s) k xs)) ≡ length xs - k
  unfolding pieces_after
  total_after zero [] = omega arith
  total_after (suc k) [] = omega arith
  total_after zero (x ∷ xs) =
      let n : ℕ = first_chunk_len s (x ∷ xs) in
      let within = first_chunk_len_within s (x ∷ xs) some order (omega arith) in
      omega (
        arith,
        sum_by-cons (λ (m : Leaf). m.1) (leaf_of (take n (x ∷ xs))) (leaves_of (pieces_after (first_chunk_len s) (n - 1) xs)),
        total_after (n - 1) xs,
        length-take n (x ∷ xs),
        within.0,
      )
  total_after (suc k) (x ∷ xs) = omega (arith, total_after k xs)

  pub total_chunking : (bs : List ℕ) → total_len (leaves_of (chunking s bs)) ≡ length bs
  total_chunking bs = omega (arith, total_after 0 bs)

  -- and so have those into which bytes are split, with what is buffered.
  pub split_total : (bs : List ℕ) (parts : List (List ℕ)) (left : List ℕ) → IsSplit s bs parts left → total_len (leaves_of parts) + length left ≡ length bs
  split_total bs parts left is =
      let joined : chunking s bs ≡ parts ++ chunking s left = ap (chunking s) (sym (append-nil bs)) ∙ is.joined [] ∙ ap (λ (t : List ℕ). parts ++ chunking s t) (append-nil left) in
      omega (arith, ap (λ (cs : List (List ℕ)). total_len (leaves_of cs)) joined, total-append parts (chunking s left), total_chunking bs, total_chunking left)

  at_most_one : (bs : List ℕ) → length (option_to_list (if_any bs)) ≤ 1
  at_most_one [] = omega arith
  at_most_one (b ∷ bs) = omega arith

  -- what is buffered is at most one chunk
  pub left_one : (left : List ℕ) → boundary_in s left ≡ None → length (chunking s left) ≤ 1
  left_one left none = omega (arith, ap length (chunking_unended s left none), at_most_one left)

  -- A chunk before another has at least the minimum length,
  chunks_long : (cs : List (List ℕ)) (bs d : List ℕ) (rest : List (List ℕ)) → chunking s bs ≡ cs ++ d ∷ rest → AllByRecursion (λ c. s.minimum_chunk ≤ length c) cs
  chunks_long [] bs d rest is = tt
  chunks_long (c ∷ cs) bs d rest is = by_boundary (chunks_long cs) (boundary_in s bs) refl
    where
      by_boundary : ((bs d : List ℕ) (rest : List (List ℕ)) → chunking s bs ≡ cs ++ d ∷ rest → AllByRecursion (λ c. s.minimum_chunk ≤ length c) cs) → (o : Option ℕ) → boundary_in s bs ≡ o
          → (s.minimum_chunk ≤ length c) × AllByRecursion (λ c. s.minimum_chunk ≤ length c) cs
      by_boundary more None found =
          absurd (omega (arith, ap length is, left_one bs found, length-append cs (d ∷ rest)))
      by_boundary more (Some k) found =
          let cut : take k bs ∷ chunking s (drop k bs) ≡ c ∷ (cs ++ d ∷ rest) =
          ap (λ (t : List ℕ). take k bs ∷ chunking s t) (sym (append-nil (drop k bs))) ∙ sym (chunking_cut s bs [] k some order found) ∙ ap (chunking s) (append-nil bs) ∙ is in
          let first : take k bs ≡ c = cc cut in
          let after : chunking s (drop k bs) ≡ cs ++ d ∷ rest = cc cut in
          let f = is_first s bs k (omega (arith, order)) found in
          (omega (arith, f.low, length-take-le k bs f.within, ap length first), more (drop k bs) d rest after)

  -- and so has each into which bytes are split.
  pub split_long : (bs : List ℕ) (parts : List (List ℕ)) (left : List ℕ) → IsSplit s bs parts left → AllByRecursion (λ c. s.minimum_chunk ≤ length c) parts
  split_long bs parts left is = by_rest (chunking s (left ++ 0 ∷ [])) refl
    where
      by_rest : (r : List (List ℕ)) → chunking s (left ++ 0 ∷ []) ≡ r → AllByRecursion (λ c. s.minimum_chunk ≤ length c) parts
      by_rest [] none = absurd (omega (arith, ap (λ (cs : List (List ℕ)). total_len (leaves_of cs)) none, total_chunking (left ++ 0 ∷ []), length-append left (0 ∷ [])))
      by_rest (d ∷ rest) are = chunks_long parts (bs ++ 0 ∷ []) d rest (is.joined (0 ∷ []) ∙ ap (λ (t : List (List ℕ)). parts ++ t) are)

-- The next bytes are split after the bytes that are buffered.
pub split_more : (s : LimitSettings) (bs new : List ℕ) (parts more : List (List ℕ)) (buffered left : List ℕ) → IsSplit s bs parts buffered → IsSplit s (buffered ++ new) more left → IsSplit s (bs ++ new) (parts ++ more) left
split_more s bs new parts more buffered left first second = record {
  joined = λ rest.
      ap (chunking s) (append_assoc bs new rest)
      ∙ first.joined (new ++ rest)
      ∙ ap (λ (t : List ℕ). parts ++ chunking s t) (sym (append_assoc buffered new rest))
      ∙ ap (λ (t : List (List ℕ)). parts ++ t) (second.joined rest)
      ∙ sym (append_assoc parts more (chunking s (left ++ rest)));
  none = second.none;
}

-- The bytes, and then any others, have at least as many chunks.
pub split_count : (s : LimitSettings) (bs : List ℕ) (parts : List (List ℕ)) (left rest : List ℕ) → IsSplit s bs parts left → length (leaves_of parts) ≤ length (leaves_of (chunking s (bs ++ rest)))
split_count s bs parts left rest is =
    omega (
      arith,
      length-map parts leaf_of,
      length-map (chunking s (bs ++ rest)) leaf_of,
      ap length (is.joined rest),
      length-append parts (chunking s (left ++ rest)),
    )

-- The chunks into which they are split are among those of the bytes, and then any others.
pub split_in : (s : LimitSettings) (bs : List ℕ) (parts : List (List ℕ)) (left rest : List ℕ) → IsSplit s bs parts left → AllByRecursion (Among (leaves_of (chunking s (bs ++ rest)))) (leaves_of parts)
split_in s bs parts left rest is =
    subst (λ (cs : List (List ℕ)). AllByRecursion (Among (leaves_of cs)) (leaves_of parts)) (sym (is.joined rest))
    (subst (λ (ls : List Leaf). AllByRecursion (Among ls) (leaves_of parts)) (sym (leaves-append parts (chunking s (left ++ rest))))
    (in_more (leaves_of parts) (leaves_of (chunking s (left ++ rest))) (leaves_of parts) (in_itself (leaves_of parts))))

-- The chunks of the bytes are those into which they are split, and those of the buffered ones.
pub split_chunks : (s : LimitSettings) (bs : List ℕ) (parts : List (List ℕ)) (left : List ℕ) → IsSplit s bs parts left → chunking s bs ≡ parts ++ chunking s left
split_chunks s bs parts left is = ap (chunking s) (sym (append-nil bs)) ∙ is.joined [] ∙ ap (λ (t : List ℕ). parts ++ chunking s t) (append-nil left)
