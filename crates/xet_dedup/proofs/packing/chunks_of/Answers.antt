use Rattle.std.proofs.Common.{◌≡◌, ◌≢◌, ◌∙◌, ◌-◌, length, take, ap, arith}
use Rattle.std.proofs.lemmas.List.{length-drop, length-take-le}
use Rattle.std.proofs.lemmas.List.Sums.{sum_by-append}
use Rattle.xet_xorb_chunk.specs.Chunks.{chunk_of, total}
use Rattle.xet_xorb_chunk.specs.declared.chunk.Chunk.{Chunk}
use Rattle.xet_cut.specs.Chunking.{first_chunk_len}
use Rattle.xet_cut.specs.theorems.ChunkEnds.{chunking_end, chunking_step}
use Rattle.xet_dedup.proofs.packing.chunks_of.Goals as goal

pub pieces-preserved : goal.pieces-preserved
pieces-preserved c =
    let s = c.args.limits.now in
    let rest = c.pieces.rest in
    let n = c.first_chunk_len-length.result in
    let same_len : length c.as_slice.result.now ≡ length rest = ap length c.as_slice.ensures in
    let some : length rest ≢ 0 = λ e. absurd (omega arith) in
    let step = chunking_step chunk_of s c.pieces.chunks.items rest n some (c.first_chunk_len-length.ensures.value ∙ ap (first_chunk_len s) c.as_slice.ensures) (λ _. c.first_chunk_len-length.ensures.some (omega arith)) in
    let push = c.in_ok-push.ensures.items in
    let chunk : c.new.result ≡ chunk_of (take n rest) = c.new.ensures ∙ ap chunk_of c.in_ok-split_to.ensures.front in
    let bytes : length c.new.result.bytes ≡ n = ap (λ (x : Chunk). length x.bytes) chunk ∙ length-take-le n rest (omega arith) in
    let left : length c.split_to.new.self ≡ length rest - n = ap length c.in_ok-split_to.ensures.rest ∙ length-drop n rest in
    record {
      chunks = rw (push, chunk, c.in_ok-split_to.ensures.rest) (step ∙ c.pieces.invariant.chunks);
      total = omega (arith, ap total push ∙ sum_by-append (λ (x : Chunk). length x.bytes) c.pieces.chunks.items _, bytes, left, c.pieces.invariant.total);
    }

pub returns-clause-chunks : goal.returns-clause-chunks
returns-clause-chunks c =
    chunking_end chunk_of c.args.limits.now c.pieces.chunks.items c.pieces.rest (omega arith) ∙ c.pieces.invariant.chunks
