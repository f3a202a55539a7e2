use Rattle.std.proofs.Common.{arith}
use Rattle.xet_cut.specs.theorems.FirstBoundary.{none_in_nothing}
use Rattle.xet_cut.proofs.chunker.Chunker.new.Goals as goal

pub invariant_of-result : goal.invariant_of-result
invariant_of-result c =
    let range = c.recall_invariant.ensures in
    (range, rw c.in_ok-buffered.ensures.items (none_in_nothing c.args.limits.now range.minimum_from range.minimum_to), omega (arith, c.maximum_chunk.ensures.value, c.in_ok-buffered.ensures.capacity))
