use Rattle.std.proofs.Common.{◌≡◌, ◌-◌, ◌+◌, ◌≤◌, ◌++◌, drop, length}
use Rattle.xet_shard_index.specs.Runs.{over}
use Rattle.xet_shard_index.proofs.word_run.merge_items.Given as goal

abbrev pub invariant-loop-i : goal.invariant-loop-i
invariant-loop-i l = record {
  newer_within : l.i ≤ length l.newer;
  older_within : l.j ≤ length l.older;
  so_far : l.items.items ++ over (drop l.i l.newer) (drop l.j l.older) ≡ over l.newer l.older;
}

abbrev pub decreases-loop-i : goal.decreases-loop-i
decreases-loop-i l = (length l.newer - l.i) + (length l.older - l.j)
