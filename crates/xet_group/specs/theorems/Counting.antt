-- What the counts of some bytes fit.
use Rattle.std.proofs.Common.{◌≡◌, ◌∙◌, ℕ, ◌+◌, ◌<◌, ◌≤◌, ◌%◌, ◌==◌, ◌&&◌, if◌then◌else◌, true, false, List, [], length, map, get_or, count_ones, ap, arith, ◌^◌, ◌∷◌}
use Rattle.std.proofs.lemmas.List.FromFn.{get_or-map-range_with_len}
use Rattle.std.specs.List.{range_with_len}
use Rattle.xet_group.specs.Histogram.{CountsFit, count_of, byte_counts, table}

-- the count at a place of a table
pub count_at-table : (f : ℕ → ℕ → ℕ) (g k : ℕ) → g < 4 → k < 9 → count_of (table f) g k ≡ f g k
count_at-table f g k low less =
    ap (λ row. get_or row k 0) (get_or-map-range_with_len (λ g. map (f g) (range_with_len 0 9)) 0 4 g g [] low (omega arith)) ∙ get_or-map-range_with_len (f g) 0 9 k k 0 less (omega arith)

counted-le : (at : ℕ) (bytes : List ℕ) (g k : ℕ) → byte_counts at bytes g k ≤ length bytes
unfolding byte_counts
counted-le at [] g k = omega arith
counted-le at (b ∷ bs) g k = elim ((at % 4 == g) && (count_ones b == k)) as (λ d. (if d then 1 else 0) + byte_counts (at + 1) bs g k ≤ length (b ∷ bs)) [
  | true ↦ omega (arith, counted-le (at + 1) bs g k)
  | false ↦ omega (arith, counted-le (at + 1) bs g k)
]

-- what is counted in fewer than 2 ^ 32 bytes fits a table of zeros
pub zeros_fit : (counts : List (List ℕ)) (at : ℕ) (bytes : List ℕ) → counts ≡ table (λ _ _. 0) → length bytes < 2 ^ 32 → CountsFit counts at bytes
zeros_fit counts at bytes zeros few = λ g k low less.
    let none : count_of counts g k ≡ 0 = ap (λ t. count_of t g k) zeros ∙ count_at-table (λ _ _. 0) g k low less in
    omega (arith, none, counted-le at bytes g k)
