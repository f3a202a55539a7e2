use Rattle.std.proofs.lemmas.Result.{err_from_is_err_and}
use Rattle.xet_shard_format.specs.Reading.{chunks_at}
use Rattle.xet_shard_format.proofs.Chunks.{chunk_goes_on, row_ends, chunk_ends, chunks_done}
use Rattle.xet_shard_format.proofs.record_decoding.chunks.Goals as goal

pub returns-in_err-row : goal.returns-in_err-row
returns-in_err-row c =
    let p = err_from_is_err_and c.from_residual-in_err-row.result c.from_residual-in_err-row.ensures.1 in
    rw (p.1, p.2) (row_ends c.in_err-row.field-0.0 c.loop-done.found.items c.args.count c.loop-done._done c.loop-done.at c.loop-done.rows (chunks_at c.args.count 0 c.args.rows.now) c.loop-done-test.true c.in_err-row.ensures c.loop-done.invariant)

pub returns-in_err-chunk : goal.returns-in_err-chunk
returns-in_err-chunk c =
    let p = err_from_is_err_and c.from_residual-in_err-chunk.result c.from_residual-in_err-chunk.ensures.1 in
    rw (p.1, p.2) (chunk_ends c.in_err-chunk.field-0.0 c.loop-done.found.items c.args.count c.loop-done._done c.loop-done.at c.loop-done.rows c.in_ok-row.row c.next.new.self (chunks_at c.args.count 0 c.args.rows.now) c.loop-done-test.true c.in_ok-row.ensures c.in_err-chunk.ensures.gives c.loop-done.invariant)

pub loop-done-preserved : goal.loop-done-preserved
loop-done-preserved c =
    rw c.in_ok-push.ensures.items (chunk_goes_on c.loop-done.found.items c.args.count c.loop-done._done c.loop-done.at c.loop-done.rows c.in_ok-row.row c.in_ok-chunk.chunk _ (chunks_at c.args.count 0 c.args.rows.now) c.loop-done-test.true c.in_ok-row.ensures c.in_ok-chunk.ensures.gives c.loop-done.invariant)

pub returns : goal.returns
returns c = chunks_done c.loop-done.found.items c.args.count c.loop-done._done c.loop-done.at c.loop-done.rows (chunks_at c.args.count 0 c.args.rows.now) c.loop-done-test.false c.loop-done.invariant
