use Rattle.std.proofs.Common.{◌≡◌, ◌∙◌, ◌⊎◌, Err, ap, arith, inl, length, sym}
use Rattle.xet_hash.specs.declared.error.StoreError.{StoreError}
use Rattle.xet_codec.specs.Stops.{StopsReading}
use Rattle.xet_xorb_chunk.specs.Stream.{chunk_at, chunk_of_prefix}
use Rattle.xet_base.specs.theorems.Exits.{exit_with}
use Rattle.xet_xorb_chunk.proofs.Checks.{left_of}
use Rattle.xet_xorb_chunk.specs.theorems.Prefixes.{chunk_refused, chunk_short, prefix_whole}
use Rattle.xet_xorb_chunk.specs.Taking.{TakesFailedChunk}
use Rattle.xet_xorb_chunk.proofs.Prefixes.{body_left, body_short, by_check_alone, chunk_of_body, chunk_of_header}
use Rattle.xet_xorb_chunk.proofs.chunk_stream.deserialize_chunk.Goals as goal

pub returns-in_err-header-clause-errors : goal.returns-in_err-header-clause-errors
returns-in_err-header-clause-errors g c = λ told.
    let left = g.R.Source.left c.args.r.now in
    exit_with (λ (e : StoreError). (chunk_at c.args.max_chunk left ≡ Err e) ⊎ StopsReading e) _ _ c.from_residual.ensures.1
    (left_of (chunk_refused c.args.max_chunk left c.in_err-header.field-0.0) (c.in_err-header.ensures.errors told))

pub returns-in_err-bytes-clause-errors : goal.returns-in_err-bytes-clause-errors
returns-in_err-bytes-clause-errors g c = λ told.
    let left = g.R.Source.left c.args.r.now in
    exit_with (λ (e : StoreError). (chunk_at c.args.max_chunk left ≡ Err e) ⊎ StopsReading e) _ _ c.from_residual-in_err-bytes.ensures.1
    (left_of
    (λ few. chunk_short c.args.max_chunk left c.in_ok-header.header (c.in_ok-header.ensures.header told) (omega (arith, few.1, ap length (c.in_ok-header.ensures.taken told), c.get_compressed_length.ensures)) ∙ ap (λ (e : StoreError). Err e) (sym few.0))
    (c.in_err-bytes.ensures.errors (c.in_ok-header.ensures.frame.tells ∙ told)))

pub returns-in_err-check_body-clause-errors : goal.returns-in_err-check_body-clause-errors
returns-in_err-check_body-clause-errors g c = λ told.
    let left = g.R.Source.left c.args.r.now in
    let prefix =
    prefix_whole c.args.max_chunk left c.in_ok-bytes.bytes.items _ c.in_ok-header.header (c.in_ok-header.ensures.header told)
    (sym (c.in_ok-header.ensures.taken told) ∙ c.in_ok-bytes.ensures.bytes (c.in_ok-header.ensures.frame.tells ∙ told)) (omega (arith, c.in_ok-bytes.ensures.length, c.get_compressed_length.ensures, c.in_ok-bytes.bytes.ok.0)) in
    exit_with (λ (e : StoreError). (chunk_at c.args.max_chunk left ≡ Err e) ⊎ StopsReading e) _ _ c.from_residual-in_err-check_body.ensures.1
    (inl (ap chunk_of_prefix (prefix ∙ c.in_err-check_body.ensures.body c.in_ok-bytes.bytes.items)))

pub returns-clause-chunk : goal.returns-clause-chunk
returns-clause-chunk g c = λ told.
    let left = g.R.Source.left c.args.r.now in
    let prefix =
    prefix_whole c.args.max_chunk left c.in_ok-bytes.bytes.items _ c.in_ok-header.header (c.in_ok-header.ensures.header told)
    (sym (c.in_ok-header.ensures.taken told) ∙ c.in_ok-bytes.ensures.bytes (c.in_ok-header.ensures.frame.tells ∙ told)) (omega (arith, c.in_ok-bytes.ensures.length, c.get_compressed_length.ensures, c.in_ok-bytes.bytes.ok.0)) in
    ap chunk_of_prefix (prefix ∙ c.in_ok-check_body.ensures.body c.in_ok-bytes.bytes.items)

pub returns-in_err-header-clause-rest : goal.returns-in_err-header-clause-rest
returns-in_err-header-clause-rest g c = λ told.
    let left = g.R.Source.left c.args.r.now in
    exit_with (TakesFailedChunk c.args.max_chunk left (g.R.Source.left c.deserialize_chunk_header.new.r)) _ _ c.from_residual.ensures.1
    (chunk_of_header c.args.max_chunk left _ _ (c.in_err-header.ensures.errors told) (c.in_err-header.ensures.rest told))

pub returns-in_err-bytes-clause-rest : goal.returns-in_err-bytes-clause-rest
returns-in_err-bytes-clause-rest g c = λ told.
    let left = g.R.Source.left c.args.r.now in let header = c.in_ok-header.header in let first = c.in_ok-header.ensures.taken told in let tells = c.in_ok-header.ensures.frame.tells ∙ told in
    exit_with (TakesFailedChunk c.args.max_chunk left (g.R.Source.left c.take_bytes.new.r)) _ _ c.from_residual-in_err-bytes.ensures.1
    (chunk_of_body c.args.max_chunk left (g.R.Source.left c.deserialize_chunk_header.new.r) _ _ header (c.in_ok-header.ensures.header told) first (c.in_err-bytes.ensures.consumed tells)
    (λ check.
    let few = by_check_alone _ (c.in_err-bytes.ensures.errors tells) check in
    body_short left _ _ header.stored first (omega (arith, few.1, c.get_compressed_length.ensures)) (c.in_err-bytes.ensures.ended tells check)))

pub returns-in_err-check_body-clause-rest : goal.returns-in_err-check_body-clause-rest
returns-in_err-check_body-clause-rest g c = λ told.
    let left = g.R.Source.left c.args.r.now in let header = c.in_ok-header.header in let first = c.in_ok-header.ensures.taken told in let tells = c.in_ok-header.ensures.frame.tells ∙ told in
    exit_with (TakesFailedChunk c.args.max_chunk left (g.R.Source.left c.take_bytes.new.r)) _ _ c.from_residual-in_err-check_body.ensures.1
    (chunk_of_body c.args.max_chunk left (g.R.Source.left c.deserialize_chunk_header.new.r) _ _ header (c.in_ok-header.ensures.header told) first (c.in_ok-bytes.ensures.consumed tells)
    (λ _. body_left left _ c.in_ok-bytes.bytes.items _ header.stored first (c.in_ok-bytes.ensures.bytes tells) (omega (arith, c.in_ok-bytes.ensures.length, c.get_compressed_length.ensures, c.in_ok-bytes.bytes.ok.0))))
