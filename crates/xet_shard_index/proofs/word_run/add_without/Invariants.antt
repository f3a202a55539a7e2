use Rattle.std.proofs.Common.{◌≡◌, ◌-◌, ◌+◌, ◌≤◌, ◌++◌, drop, length}
use Rattle.xet_shard_index.specs.Runs.{without}
use Rattle.xet_shard_index.proofs.word_run.add_without.Given as goal

abbrev pub invariant-loop-i : goal.invariant-loop-i
invariant-loop-i l = record {
  run_within : l.i ≤ length l.run;
  other_within : l.j ≤ length l.other;
  so_far : l.items.items ++ without (drop l.i l.run) (drop l.j l.other) ≡ without l.run l.other;
}

abbrev pub decreases-loop-i : goal.decreases-loop-i
decreases-loop-i l = (length l.run - l.i) + (length l.other - l.j)
