use Rattle.std.proofs.Common.{arith}
use Rattle.xet_cut.specs.Limits.{with_minimum}
use Rattle.xet_cut.specs.theorems.FirstBoundary.{none_in_nothing}
use Rattle.xet_cut.proofs.partitions.complete_len.Goals as goal

pub boundary_from-requires-clause-none : goal.boundary_from-requires-clause-none
boundary_from-requires-clause-none c = none_in_nothing (with_minimum c.args.limits.now 1) (omega arith) (omega (arith, c.recall_invariant.ensures.minimum_from, c.recall_invariant.ensures.minimum_to))
