use Rattle.std.proofs.lemmas.Result.{err_from_is_err_and}
use Rattle.xet_shard_format.specs.Reading.{times_rows}
use Rattle.xet_shard_format.proofs.Loops.{goes_on, ends, is_done}
use Rattle.xet_shard_format.proofs.record_decoding.entries.Goals as goal

pub returns-in_err-next : goal.returns-in_err-next
returns-in_err-next g c =
    let p = err_from_is_err_and c.from_residual-in_err-next.result c.from_residual-in_err-next.ensures.1 in
    rw (p.1, p.2) (ends c.in_err-next.field-0.0 g.E.FromRow.read_at c.loop-done.found.items c.args.count c.loop-done._done c.loop-done.rows (times_rows g.E.FromRow.read_at c.args.count c.args.rows.now) c.loop-done-test.true c.in_err-next.ensures c.loop-done.invariant)

pub loop-done-preserved : goal.loop-done-preserved
loop-done-preserved g c =
    rw c.in_ok-push.ensures.items (goes_on g.E.FromRow.read_at c.loop-done.found.items c.args.count c.loop-done._done c.loop-done.rows c.in_ok-next.next c.read.new.rows (times_rows g.E.FromRow.read_at c.args.count c.args.rows.now) c.loop-done-test.true c.in_ok-next.ensures c.loop-done.invariant)

pub returns : goal.returns
returns g c = is_done g.E.FromRow.read_at c.loop-done.found.items c.args.count c.loop-done._done c.loop-done.rows (times_rows g.E.FromRow.read_at c.args.count c.args.rows.now) c.loop-done-test.false c.loop-done.invariant
