use Rattle.std.proofs.Common.{arith}
use Rattle.xet_group.specs.internal.Lanes.{lane_count}
use Rattle.xet_group.proofs.Tallies.{zero_counts}
use Rattle.xet_group.proofs.lanes.counts_of.Goals as goal

pub runs-init : goal.runs-init
unfolding lane_count
runs-init c = record {
  done = omega arith;
  counts = λ k l hk hl. zero_counts 9 16 k l hk hl;
}
