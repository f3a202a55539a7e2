use Rattle.std.proofs.Common.{rules}
use Rattle.std.proofs.lemmas.Result.{err_from_is_err_and}
use Rattle.xet_shard_format.proofs.Sections.{end_fails, record_fails}
use Rattle.xet_shard_format.proofs.record_decoding.record_or_end.Goals as goal

pub returns-in_err-end : goal.returns-in_err-end
returns-in_err-end g c =
    let p = err_from_is_err_and c.from_residual-in_err-end.result c.from_residual-in_err-end.ensures.1 in
    rw (p.1, p.2) (end_fails g.R.Record.record_at c.args.last c.args.rows.now c.in_ok-row.row c.next.new.self c.in_err-end.field-0.0 c.in_ok-row.ensures (search rules) c.in_err-end.ensures)

pub returns-in_err-found : goal.returns-in_err-found
returns-in_err-found g c =
    let p = err_from_is_err_and c.from_residual-in_err-found.result c.from_residual-in_err-found.ensures.1 in
    rw (p.1, p.2) (record_fails g.R.Record.record_at c.args.last c.args.rows.now c.in_ok-row.row c.next.new.self c.in_err-found.field-0.0 c.in_ok-row.ensures (search rules) c.in_err-found.ensures)
