use Rattle.std.proofs.Common.{arith}
use Rattle.xet_shard_format.specs.Lookups.{flat_places}
use Rattle.xet_shard_format.specs.theorems.Places.{flat_push}
use Rattle.xet_shard_format.specs.theorems.Steps.{places_end, places_more}
use Rattle.xet_shard_format.proofs.lookup.push_chunks.Goals as goal

pub loop-chunk-preserved : goal.loop-chunk-preserved
loop-chunk-preserved c = record {
  count = omega (arith, c.loop-chunk.invariant.count);
  so_far = rw (c.in_ok-push.ensures.items, c.word.ensures, flat_push c.loop-chunk.found.items (_, (c.args.row, c.loop-chunk.place))) (places_more (flat_places c.loop-chunk.found.items) _ c.args.row c.loop-chunk.place c.args.chunks.now c.loop-chunk.chunk-index c.chunk-item.result c.loop-chunk-test.true c.chunk-item.is c.loop-chunk.invariant.so_far);
}

pub returns : goal.returns
returns c = places_end (flat_places c.loop-chunk.found.items) _ c.args.row c.loop-chunk.place c.args.chunks.now c.loop-chunk.chunk-index c.loop-chunk-test.false c.loop-chunk.invariant.so_far
