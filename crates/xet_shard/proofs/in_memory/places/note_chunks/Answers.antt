use Rattle.std.proofs.Common.{◌∙◌, sym, arith, nat_eq}
use Rattle.std.specs.Cmp.Lexicographic.{pointwise}
use Rattle.indexmap.specs.IndexMap.{get}
use Rattle.xet_shard.proofs.Placing.{noted-all, noted-none, noted-step}
use Rattle.xet_shard.proofs.in_memory.places.note_chunks.Goals as goal

pub loop-chunk-init : goal.loop-chunk-init
loop-chunk-init c = record {
  count = omega arith;
  so_far = λ h. sym (noted-none c.args.index h (get (pointwise nat_eq) c.args.places.now h));
  room = omega arith;
}

pub loop-chunk-preserved : goal.loop-chunk-preserved
loop-chunk-preserved c = record {
  count = omega (arith, c.loop-chunk.invariant.count);
  so_far = λ h. noted-step c.args.index c.args.chunks.now c.loop-chunk.chunk-index c.chunk-item.result h _ (get (pointwise nat_eq) c.loop-chunk.places h) _ c.loop-chunk-test.true c.chunk-item.is
      (rw (sym c.loop-chunk.invariant.count) (c.in_ok-insert.ensures.updates.0 h)) (c.loop-chunk.invariant.so_far h);
  room = omega (arith, c.loop-chunk.invariant.room, c.insert.ensures.spare);
}

pub returns-clause-noted : goal.returns-clause-noted
returns-clause-noted c = λ h. c.loop-chunk.invariant.so_far h ∙ noted-all c.args.index c.args.chunks.now c.loop-chunk.chunk-index h (get (pointwise nat_eq) c.args.places.now h) c.loop-chunk-test.false
