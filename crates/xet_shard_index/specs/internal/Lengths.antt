-- The lengths of the runs of an index, for private functions. The oldest run comes first.
use Rattle.std.specs.Prelude.{◌≡◌, ℕ, ◌+◌, ◌*◌, ◌<◌, ◌≤◌, List, [], ◌∷◌, length, slice_index_or, take}
use Rattle.xet_shard_index.specs.Runs.{Item, Rising, merged, over}

-- the length of the first run, if there is one
unfoldable pub first_length : List (List Item) → ℕ
first_length [] = 0
first_length (r ∷ rs) = length r

-- each run is sorted and not empty, and at least twice as long as the next newer one
unfoldable pub AreRuns : List (List Item) → Type 0
AreRuns [] = Unit {0}
AreRuns (r ∷ rs) = Rising r × (0 < length r) × (2 * first_length rs ≤ length r) × AreRuns rs

-- A run was merged with the newest of some runs. Those that are left, the first `kept` ones, are at least twice as long
-- as what it became.
pub record IsMerged (runs : List (List Item)) (run : List Item) (kept : ℕ) (made : List Item) : Type 0 where
  pub within : kept ≤ length runs
  pub same : over made (merged (take kept runs)) ≡ over run (merged runs)
  pub rising : Rising made
  pub some : 0 < length made
  pub short : (last : ℕ) → kept ≡ last + 1 → 2 * length made ≤ length (slice_index_or runs last [])
