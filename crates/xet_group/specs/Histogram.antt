-- Histograms of set bits: a table of 4 rows of 9 counts. [g][k] counts the bytes of group g with k set bits.
use Rattle.std.specs.Prelude.{◌≡◌, ℕ, ◌+◌, ◌%◌, ◌^◌, ◌<◌, ◌==◌, ◌&&◌, List, [], ◌∷◌, length, map, count_ones, slice_index, slice_index_or, if◌then◌else◌}
use Rattle.std.specs.List.{range_with_len}

-- How many of these bytes are in group g and have k set bits. The first byte has the index `at`.
unfoldable pub byte_counts : ℕ → List ℕ → ℕ → ℕ → ℕ
byte_counts at [] g k = 0
byte_counts at (b ∷ bs) g k =
    (if (at % 4 == g) && (count_ones b == k) then 1 else 0) + byte_counts (at + 1) bs g k

-- 4 rows of 9 counts
pub record IsTable (counts : List (List ℕ)) : Type 0 where
  pub rows : length counts ≡ 4
  pub places : (g : ℕ) → g < 4 → length (slice_index_or counts g []) ≡ 9

-- the table with `f g k` at each [g][k]
abbrev pub table : (ℕ → ℕ → ℕ) → List (List ℕ)
table f = map (λ g. map (f g) (range_with_len 0 9)) (range_with_len 0 4)

-- the count at [g][k]
abbrev pub count_of : List (List ℕ) → ℕ → ℕ → ℕ
count_of counts g k = slice_index (slice_index_or counts g []) k

-- the table after these bytes are counted too; the first byte has the index `at`
abbrev pub with_counted : List (List ℕ) → ℕ → List ℕ → List (List ℕ)
with_counted counts at bytes = table (λ g k. count_of counts g k + byte_counts at bytes g k)

-- no count exceeds 2 ^ 32 - 1 after these bytes are counted
abbrev pub CountsFit : List (List ℕ) → ℕ → List ℕ → Type 0
CountsFit counts at bytes =
    (g k : ℕ) → g < 4 → k < 9 → count_of counts g k + byte_counts at bytes g k < 2 ^ 32
