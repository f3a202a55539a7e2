use Rattle.xet_cut.specs.theorems.FirstBoundary.{is_none}
use Rattle.xet_cut.proofs.chunker.Chunker.recall_invariant.Goals as goal

pub returns-clause-few : goal.returns-clause-few
returns-clause-few c = rw (← c.self.view_is) (is_none _ _ c.self.invariant.1).short
