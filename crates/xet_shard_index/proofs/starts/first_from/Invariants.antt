use Rattle.std.proofs.Common.{ℕ, ◌-◌, ◌/◌, ◌^◌, ◌<◌, ◌≤◌, get_or, length}
use Rattle.xet_shard_index.specs.Runs.{Item}
use Rattle.xet_shard_index.proofs.starts.first_from.Given as goal

abbrev pub invariant-loop-at : goal.invariant-loop-at
invariant-loop-at l = record {
  within : l.at ≤ length l.items;
  before : (i : ℕ) (d : Item) → i < l.at → (get_or l.items i d).0 / 2 ^ l.shift < l.value;
}

abbrev pub decreases-loop-at : goal.decreases-loop-at
decreases-loop-at l = length l.items - l.at
