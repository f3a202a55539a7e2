use Rattle.xet_group.specs.internal.Lanes.{ArePairs}
use Rattle.xet_group.proofs.lanes.pairs_of.Given as goal

abbrev pub invariant-blocks-2 : goal.invariant-blocks-2
invariant-blocks-2 l = ArePairs l.pairs l.b l.i
