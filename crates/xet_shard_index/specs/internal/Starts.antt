-- Where the words with each value of their leading bits begin in a run, for private functions.
use Rattle.std.specs.Prelude.{ℕ, ◌/◌, ◌<◌, ◌≤◌, ◌^◌, List, length, slice_index_or}
use Rattle.xet_shard_index.specs.Runs.{Item}

-- The words before this index have a lower value of the bits that `shift` others follow, and those from it on have at least this one.
pub record IsStart (shift : ℕ) (run : List Item) (value start : ℕ) : Type 0 where
  pub within : start ≤ length run
  pub below : (i : ℕ) (d : Item) → i < start → (slice_index_or run i d).0 / 2 ^ shift < value
  pub reached : (i : ℕ) (d : Item) → start ≤ i → i < length run → value ≤ (slice_index_or run i d).0 / 2 ^ shift

-- the starts of values, from 0 on
abbrev pub AreStarts : ℕ → List Item → List ℕ → Type 0
AreStarts shift run starts = (value d : ℕ) → value < length starts → IsStart shift run value (slice_index_or starts value d)
