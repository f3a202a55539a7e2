use Rattle.std.proofs.Common.{◌≡◌, ◌∙◌, ◌+◌, ◌++◌, List, ap, length, rules, take, ℕ}
use Rattle.xet_hash.specs.declared.error.StoreError.{StoreError}
use Rattle.xet_xorb_chunk.specs.Header.{header_bytes}
use Rattle.xet_xorb_chunk.specs.ChunkEncoding.{encoded_chunk}
use Rattle.xet_base.specs.theorems.Exits.{exit_with}
use Rattle.xet_base.specs.theorems.Written.{prefix_of_first, written_both, written_then}
use Rattle.xet_xorb_chunk.specs.theorems.Encoded.{encoded_by}
use Rattle.xet_xorb_chunk.proofs.chunk_stream.serialize_chunk.Goals as goal

pub returns-in_err-write_chunk_header-clause-prefix : goal.returns-in_err-write_chunk_header-clause-prefix
returns-in_err-write_chunk_header-clause-prefix g c = λ told.
    let written = g.W.Sink.written in
    let f = c.in_err-write_chunk_header.ensures.prefix told in
    let m = prefix_of_first (header_bytes c.new-header.result) c.args.chunk.now f.0 in
    let encoded = encoded_by c.new-header.result c.args.chunk.now (search rules) in
    exit_with (λ (e : StoreError). (n : ℕ) × (written c.write_chunk_header.new.w ≡ written c.args.w.now ++ take n (encoded_chunk c.args.chunk.now))) _ _
    c.from_residual-in_err-write_chunk_header.ensures.1
    (m.0, f.1 ∙ ap (λ (x : List ℕ). written c.args.w.now ++ x) (m.1 ∙ ap (take m.0) encoded))

pub returns-in_err-write_piece-clause-prefix : goal.returns-in_err-write_piece-clause-prefix
returns-in_err-write_piece-clause-prefix g c = λ told.
    let written = g.W.Sink.written in
    let whole = c.in_ok-write_chunk_header.ensures.whole told in
    let f = c.in_err-write_piece.ensures.prefix (c.in_ok-write_chunk_header.ensures.frame.tells ∙ told) in
    let xs : List ℕ = header_bytes c.new-header.result in
    let encoded = encoded_by c.new-header.result c.args.chunk.now (search rules) in
    exit_with (λ (e : StoreError). (n : ℕ) × (written c.write_piece.new.sink ≡ written c.args.w.now ++ take n (encoded_chunk c.args.chunk.now))) _ _
    c.from_residual-in_err-write_piece.ensures.1
    (length xs + f.0, written_then _ _ _ xs c.args.chunk.now f.0 whole f.1 ∙ ap (λ (x : List ℕ). written c.args.w.now ++ take (length xs + f.0) x) encoded)

pub returns-clause-whole : goal.returns-clause-whole
returns-clause-whole g c = λ told.
    let written = g.W.Sink.written in
    let whole = c.in_ok-write_chunk_header.ensures.whole told in
    let next = c.in_ok-write_piece.ensures.whole (c.in_ok-write_chunk_header.ensures.frame.tells ∙ told) in
    let encoded = encoded_by c.new-header.result c.args.chunk.now (search rules) in
    written_both _ _ _ (header_bytes c.new-header.result) c.args.chunk.now whole next ∙ ap (λ (x : List ℕ). written c.args.w.now ++ x) encoded
