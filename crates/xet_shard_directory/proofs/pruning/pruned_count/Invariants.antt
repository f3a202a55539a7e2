use Rattle.std.proofs.Common.{◌≡◌, ◌+◌, ◌≤◌, drop, length}
use Rattle.xet_shard_directory.specs.Directories.{total_length}
use Rattle.xet_shard_directory.proofs.pruning.pruned_count.Given as goal

abbrev pub invariant-loop-count : goal.invariant-loop-count
invariant-loop-count l = record {
  bound : l.count ≤ length l.shards;
  total : total_length (drop l.count l.shards) + l.left ≡ l.limit;
}

abbrev pub decreases-loop-count : goal.decreases-loop-count
decreases-loop-count l = l.count
