use Rattle.xet_group.specs.internal.Lanes.{lane_count}
use Rattle.xet_group.proofs.Tallies.{zero_counts}
use Rattle.xet_group.proofs.lanes.pairs_of.Goals as goal

pub blocks-2-init : goal.blocks-2-init
unfolding lane_count
blocks-2-init c p l hp hl = zero_counts 5 16 p l hp hl
