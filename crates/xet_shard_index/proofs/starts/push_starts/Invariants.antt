use Rattle.std.proofs.Common.{◌≡◌, ℕ, ◌/◌, ◌^◌, ◌<◌, ◌≤◌, get_or, length}
use Rattle.xet_shard_index.specs.Runs.{Item}
use Rattle.xet_shard_index.specs.internal.Starts.{AreStarts}
use Rattle.xet_shard_index.proofs.starts.push_starts.Given as goal

abbrev pub invariant-loop-value : goal.invariant-loop-value
invariant-loop-value l = record {
  within : l.at ≤ length l.items;
  before : (i : ℕ) (d : Item) → i < l.at → (get_or l.items i d).0 / 2 ^ l.shift < l.value;
  count : length l.starts.items ≡ l.value;
  are : AreStarts l.shift l.items l.starts.items;
}
