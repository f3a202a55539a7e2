use Rattle.std.proofs.Common.{arith}
use Rattle.xet_xorb_samples.proofs.Boundaries.{no_leaf, one_leaf, rise_next}
use Rattle.xet_xorb_samples.proofs.reference.boundary_leaves.Goals as goal

pub loop-chunk-preserved : goal.loop-chunk-preserved
loop-chunk-preserved c =
    let cs = c.args.chunks.now in
    let i = c.loop-chunk.chunk-index in
    let chunk = c.chunk-item.result in
    let held = c.loop-chunk.invariant.rise in
    record {
      made = one_leaf c.loop-chunk.start cs i chunk _ _ _ (omega arith) c.chunk-item.is c.in_ok-push.ensures.items c.loop-chunk.invariant.made;
      rise = (held.0, (rise_next c.loop-chunk.start held.0 cs i chunk (omega arith) c.chunk-item.is held.1).1);
    }

pub returns-clause-leaves : goal.returns-clause-leaves
returns-clause-leaves c =
    no_leaf c.loop-chunk.start c.args.chunks.now c.loop-chunk.chunk-index c.loop-chunk.leaves.items _ (omega arith) c.loop-chunk.invariant.made
