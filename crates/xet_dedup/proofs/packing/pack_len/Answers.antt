use Rattle.std.proofs.Common.{map, arith}
use Rattle.xet_xorb_chunk.specs.Chunks.{bytes_of_chunk}
use Rattle.xet_dedup.proofs.Fitting.{fitting_end, fitting_start, fitting_step, fitting_stop, total_more}
use Rattle.xet_dedup.proofs.packing.pack_len.Goals as goal

pub chunks-init : goal.chunks-init
chunks-init c = record {
  within = omega arith;
  value = fitting_start c.args.limits.now c.cut_bytes-room.result (map bytes_of_chunk c.args.chunks.now) c.cut_bytes-room.ensures.value;
  bytes = omega arith;
}

pub chunks-preserved : goal.chunks-preserved
chunks-preserved c =
    let k = c.chunks.count in
    let chunks = c.args.chunks.now in
    let chunk = c.index-chunks-count.result in
    let step = fitting_step c.chunks.room c.args.limits.now.cut_chunks k c.len-length.result chunks chunk (omega arith) (omega arith) c.len-length.ensures.value (omega arith) in
    let more = total_more k chunks chunk (omega arith) in
    record {
      within = omega arith;
      value = omega (arith, step, c.chunks.invariant.value);
      bytes = omega (arith, more, c.chunks.invariant.bytes, c.len-length.ensures.value);
    }

pub returns-after-chunks-clause-value : goal.returns-after-chunks-clause-value
returns-after-chunks-clause-value c =
    let none = fitting_end c.chunks.room c.args.limits.now.cut_chunks c.chunks.count c.args.chunks.now (omega arith) in
    omega (arith, none, c.chunks.invariant.value)

pub returns-then-length-room-clause-value : goal.returns-then-length-room-clause-value
returns-then-length-room-clause-value c =
    let none = fitting_stop c.chunks.room c.args.limits.now.cut_chunks c.chunks.count c.args.chunks.now c.index-chunks-count.result (omega arith) (omega arith) in
    omega (arith, none, c.chunks.invariant.value)
