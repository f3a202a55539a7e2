-- The guard against fragmentation: whether a run of chunks that are stored already is used, or stored again so that
-- the plan of a file stays in long ranges.
use Rattle.std.specs.Prelude.{ℕ, ◌+◌, ◌-◌, ◌*◌, nat_lt, Bool, true, false, not, List, [], ◌∷◌, ◌++◌, drop, length, if◌then◌else◌}
use Rattle.std.specs.List.{sum_by}

-- The last ranges of a file's plan, in chunks, at most as many as the window; the thresholds as fractions, and
-- whether the low one counts.
pub record Fragmentation : Type 0 where
  pub window : ℕ
  pub min_range : ℕ × ℕ
  pub low_factor : ℕ × ℕ
  pub ranges : List ℕ
  pub low : Bool

-- the number of chunks of these ranges
abbrev pub chunks_in : Fragmentation → ℕ
chunks_in f = sum_by (λ n. n) f.ranges

-- whether there are as many ranges as the window
abbrev pub is_full : Fragmentation → Bool
is_full f = not (nat_lt (length f.ranges) f.window)

-- Whether the mean range is below the threshold: the minimum range, times the factor if the low threshold counts.
abbrev pub is_fragmented : Fragmentation → Bool
is_fragmented f =
    if f.low then nat_lt (chunks_in f * (f.min_range.1 * f.low_factor.1)) (f.min_range.0 * f.low_factor.0 * f.window)
    else nat_lt (chunks_in f * f.min_range.1) (f.min_range.0 * f.window)

-- whether a run is shorter than the mean range
abbrev pub is_short : Fragmentation → ℕ → Bool
is_short f run = nat_lt (run * f.window) (chunks_in f)

-- Whether a run may be used: it may unless the window is full, the plan is fragmented, and the run is short.
unfoldable pub is_allowed : Fragmentation → ℕ → Bool
is_allowed f run = if is_full f then (if is_fragmented f then not (is_short f run) else true) else true

-- What is left by asking for a run: a refusal ends the low threshold, and a plan that is not fragmented begins it
-- again.
unfoldable pub asked : Fragmentation → ℕ → Fragmentation
asked f run =
    if is_full f then (if is_fragmented f then (if is_short f run then record f { low = false } else f) else record f { low = true }) else f

-- one more range; the oldest is dropped if there are more than the window
abbrev pub with_range : Fragmentation → ℕ → Fragmentation
with_range f n = record f { ranges = drop (length f.ranges + 1 - f.window) (f.ranges ++ n ∷ []) }

-- a list whose last number is greater by n, if there is one
abbrev pub grown : ℕ → List ℕ → List ℕ
grown n [] = []
grown n (x ∷ []) = (x + n) ∷ []
grown n (x ∷ y ∷ xs) = x ∷ grown n (y ∷ xs)

-- the last range has n more chunks
abbrev pub with_longer_range : Fragmentation → ℕ → Fragmentation
with_longer_range f n = record f { ranges = grown n f.ranges }
