use Rattle.std.proofs.Common.{◌≡◌, ◌∙◌, ◌+◌, ◌≤◌, ◌^◌, ◌++◌, ℕ, List, ap, arith, drop, length, length-append, take}
use Rattle.std.specs.List.{flat_map}
use Rattle.std.specs.Prelude.{slice_range}
use Rattle.xet_hash.specs.declared.error.StoreError.{StoreError}
use Rattle.xet_xorb_chunk.specs.ChunkEncoding.{encoded_chunk}
use Rattle.xet_base.specs.theorems.Exits.{exit_with}
use Rattle.xet_base.specs.theorems.Written.{written_both}
use Rattle.xet_xorb_samples.specs.Samples.{parts_from}
use Rattle.xet_xorb_samples.proofs.Boundaries.{prefix_of_next, length-encoded_chunk, rise_next, rise_within, small_next, encoded_bound, encoded_next}
use Rattle.xet_xorb_samples.proofs.reference.write_parts.Goals as goal

pub slice_bounds-serialize_chunk-end : goal.slice_bounds-serialize_chunk-end
slice_bounds-serialize_chunk-end g c =
    let cs = c.args.chunks.now in
    let len = length c.args.bytes.now in
    let rise = rise_next c.loop-chunk.start len cs c.loop-chunk.chunk-index c.chunk-item.result (omega arith) c.chunk-item.is c.loop-chunk.invariant.rise in
    let within : c.chunk-item.result.1 ≤ len = rise_within c.chunk-item.result.1 len (drop (c.loop-chunk.chunk-index + 1) cs) rise.1 in
    omega (arith, rise.0, within)

pub returns-in_err-count-clause-prefix : goal.returns-in_err-count-clause-prefix
returns-in_err-count-clause-prefix g c = λ told.
    let written = g.W.Sink.written in
    let bytes = c.args.bytes.now in
    let cs = c.args.chunks.now in
    let all : List ℕ = flat_map encoded_chunk (parts_from 0 cs bytes) in
    let i = c.loop-chunk.invariant in
    let chunk = c.chunk-item.result in
    let f = c.in_err-count.ensures.prefix (i.tells ∙ told) in
    let split = encoded_next c.loop-chunk.start cs c.loop-chunk.chunk-index chunk bytes i.held.0 all (omega arith) c.chunk-item.is i.held.1 in
    exit_with (λ (e : StoreError). (n : ℕ) × (written c.serialize_chunk.new.w ≡ written c.args.sink.now ++ take n all)) _ _ c.from_residual.ensures.1
    (prefix_of_next i.held.0 _ _ all (written c.args.sink.now) (written c.loop-chunk.sink) _ f.0 split (i.held.3 told) f.1)

pub overflow_add-count : goal.overflow_add-count
overflow_add-count g c =
    let bytes = c.args.bytes.now in
    let cs = c.args.chunks.now in
    let i = c.loop-chunk.invariant in
    let all : List ℕ = flat_map encoded_chunk (parts_from 0 cs bytes) in
    let chunk = c.chunk-item.result in
    let part : List ℕ = slice_range bytes c.loop-chunk.start chunk.1 in
    let split = encoded_next c.loop-chunk.start cs c.loop-chunk.chunk-index chunk bytes i.held.0 all (omega arith) c.chunk-item.is i.held.1 in
    omega (
      arith,
      i.held.2,
      ap length split,
      length-append (i.held.0 ++ encoded_chunk part) (flat_map encoded_chunk (parts_from chunk.1 (drop (c.loop-chunk.chunk-index + 1) cs) bytes)),
      length-append i.held.0 (encoded_chunk part),
      length-encoded_chunk part,
      c.in_ok-count.ensures.count,
      encoded_bound 0 cs bytes c.requires.parts,
    )

pub loop-chunk-preserved : goal.loop-chunk-preserved
loop-chunk-preserved g c =
    let bytes = c.args.bytes.now in
    let cs = c.args.chunks.now in
    let i = c.loop-chunk.invariant in
    let at = c.loop-chunk.chunk-index in
    let chunk = c.chunk-item.result in
    let part : List ℕ = slice_range bytes c.loop-chunk.start chunk.1 in
    let all : List ℕ = flat_map encoded_chunk (parts_from 0 cs bytes) in
    record {
      held = (
        i.held.0 ++ encoded_chunk part,
        encoded_next c.loop-chunk.start cs at chunk bytes i.held.0 all (omega arith) c.chunk-item.is i.held.1,
        omega (arith, i.held.2, length-append i.held.0 (encoded_chunk part), length-encoded_chunk part, c.in_ok-count.ensures.count),
        λ told. written_both _ _ _ i.held.0 (encoded_chunk part) (i.held.3 told) (c.in_ok-count.ensures.whole (i.tells ∙ told)),
      );
      rise = (rise_next c.loop-chunk.start (length bytes) cs at chunk (omega arith) c.chunk-item.is i.rise).1;
      small = (small_next c.loop-chunk.start cs at chunk bytes (2 ^ 24) (omega arith) c.chunk-item.is i.small).1;
      tells = c.in_ok-count.ensures.frame.tells ∙ i.tells;
      later = omega (arith, c.in_ok-count.ensures.frame.later, i.later);
    }
