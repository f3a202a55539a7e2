use Rattle.std.proofs.Common.{◌≡◌, ◌∙◌, get_or}
use Rattle.xet_shard_format.specs.declared.record.XorbChunkSequenceEntry.{XorbChunkSequenceEntry}
use Rattle.xet_shard.specs.Export.{keyed_chunk}
use Rattle.xet_shard.proofs.Keying.{changed_all, changed_more, changed_none}
use Rattle.xet_shard.proofs.export.key_chunks.Goals as goal

pub loop-chunk-init : goal.loop-chunk-init
loop-chunk-init c = changed_none (keyed_chunk c.args.key) c.args.chunks.now

pub loop-chunk-preserved : goal.loop-chunk-preserved
loop-chunk-preserved c =
    let old = c.chunk-item.result in
    let there = get_or c.loop-chunk.chunks c.loop-chunk.chunk-index old in
    let new : XorbChunkSequenceEntry = record { chunk_hash = c.hmac-chunk.result; chunk_byte_range_start = there.chunk_byte_range_start; unpacked_segment_bytes = there.unpacked_segment_bytes } in
    let made : new ≡ keyed_chunk c.args.key there = λ i. record { chunk_hash = c.hmac-chunk.ensures i; chunk_byte_range_start = there.chunk_byte_range_start; unpacked_segment_bytes = there.unpacked_segment_bytes } in
    changed_more (keyed_chunk c.args.key) c.args.chunks.now c.loop-chunk.chunks c.loop-chunk.chunk-index old new c.loop-chunk-test.true c.loop-chunk.invariant made

pub returns : goal.returns
returns c = c.loop-chunk.invariant ∙ changed_all (keyed_chunk c.args.key) c.args.chunks.now c.loop-chunk.chunk-index c.loop-chunk-test.false
