use Rattle.std.proofs.Common.{◌-◌, ◌≤◌}
use Rattle.xet_group.specs.internal.Lanes.{AreCounts}
use Rattle.xet_group.proofs.lanes.counts_of.Given as goal

abbrev pub invariant-runs : goal.invariant-runs
invariant-runs l = record {
  done : l.done ≤ l.blocks;
  counts : AreCounts l.vectors l.b l.done;
}

abbrev pub decreases-runs : goal.decreases-runs
decreases-runs l = l.blocks - l.done
