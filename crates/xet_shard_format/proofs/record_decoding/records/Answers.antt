use Rattle.std.proofs.Common.{rules, None}
use Rattle.std.proofs.lemmas.Result.{err_from_is_err_and}
use Rattle.xet_shard_format.specs.Reading.{section_at}
use Rattle.xet_shard_format.proofs.Sections.{section_goes_on, section_fails, section_done, section_short}
use Rattle.xet_shard_format.proofs.record_decoding.records.Goals as goal

pub returns-in_err-next : goal.returns-in_err-next
returns-in_err-next g c =
    let p = err_from_is_err_and c.from_residual.result c.from_residual.ensures.1 in
    rw (p.1, p.2) (section_fails g.R.Record.record_at g.R.Record.hash_of c.loop-done.found.items c.args.count c.loop-done._done c.loop-done.last c.loop-done.rows c.in_err-next.field-0.0 (section_at g.R.Record.record_at g.R.Record.hash_of c.args.count None c.args.rows.now) c.loop-done-test.true c.in_err-next.ensures c.loop-done.invariant)

pub returns-in-None : goal.returns-in-None
returns-in-None g c = section_done g.R.Record.record_at g.R.Record.hash_of c.loop-done.found.items c.args.count c.loop-done._done c.loop-done.last c.loop-done.rows c.record_or_end.new.rows (section_at g.R.Record.record_at g.R.Record.hash_of c.args.count None c.args.rows.now) c.loop-done-test.true (search rules) c.loop-done.invariant

pub loop-done-preserved : goal.loop-done-preserved
loop-done-preserved g c = rw (c.in_ok-push-in-Some.ensures.ok, c.hash-hash.ensures) (section_goes_on g.R.Record.record_at g.R.Record.hash_of c.loop-done.found.items c.args.count c.loop-done._done c.loop-done.last c.loop-done.rows c.in-Some.record c.record_or_end.new.rows (section_at g.R.Record.record_at g.R.Record.hash_of c.args.count None c.args.rows.now) c.loop-done-test.true (search rules) c.loop-done.invariant)

pub returns : goal.returns
returns g c = section_short g.R.Record.record_at g.R.Record.hash_of c.loop-done.found.items c.args.count c.loop-done._done c.loop-done.last c.loop-done.rows (section_at g.R.Record.record_at g.R.Record.hash_of c.args.count None c.args.rows.now) c.loop-done-test.false c.loop-done.invariant
