use Rattle.std.proofs.Common.{◌≡◌, ◌<◌, ◌≤◌, length, take}
use Rattle.xet_shard_index.specs.Runs.{Rising, merged, over}
use Rattle.xet_shard_index.proofs.insertion.merge_short.Given as goal

abbrev pub invariant-loop-kept : goal.invariant-loop-kept
invariant-loop-kept l = record {
  within : l.kept ≤ length l.runs;
  same : over l.merged (merged (take l.kept l.runs)) ≡ over l.initial.merged (merged l.runs);
  rising : Rising l.merged;
  some : 0 < length l.merged;
}

abbrev pub decreases-loop-kept : goal.decreases-loop-kept
decreases-loop-kept l = l.kept
