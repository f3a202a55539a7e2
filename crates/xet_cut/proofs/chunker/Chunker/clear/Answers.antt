use Rattle.xet_cut.specs.theorems.FirstBoundary.{none_in_nothing}
use Rattle.xet_cut.proofs.chunker.Chunker.clear.Goals as goal

pub invariant_of-self : goal.invariant_of-self
invariant_of-self c =
    let range = c.self.invariant.0 in
    (range, rw c.clear.ensures.items (none_in_nothing c.self.inside.limits range.minimum_from range.minimum_to), rw c.clear.ensures.capacity c.self.invariant.2)
