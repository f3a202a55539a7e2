use Rattle.std.specs.Prelude.{Vec}
use Rattle.std.specs.Global.{Global}
use Rattle.std.proofs.lemmas.Result.{err_from_is_err_and}
use Rattle.xet_shard_format.specs.declared.record.MDBFileInfo.{MDBFileInfo}
use Rattle.xet_shard_format.specs.declared.record.MDBXorbInfo.{MDBXorbInfo}
use Rattle.xet_shard.specs.Union.{ShardRecords}
use Rattle.xet_shard.proofs.Uniting.{both_are, both_end, both_fail}
use Rattle.xet_shard.proofs.union.both_records.Goals as goal

abbrev Read : Type 0
Read = Vec MDBXorbInfo Global × Vec MDBFileInfo Global

abbrev records_of : Read → ShardRecords
records_of x = (x.0.items, x.1.items)

abbrev both_of : Read × Read → ShardRecords × ShardRecords
both_of p = (records_of p.0, records_of p.1)

pub returns-in_err-ours-clause-exact : goal.returns-in_err-ours-clause-exact
returns-in_err-ours-clause-exact g c = λ told also.
    let p = err_from_is_err_and c.from_residual.result c.from_residual.ensures.1 in
    rw (p.1, p.2) (both_fail c.args.f.now (g.R.ReadAt.bytes c.args.reader.now) c.args.g.now (g.Q.ReadAt.bytes c.args.other.now) records_of both_of c.in_err-ours.field-0.0 (c.in_err-ours.ensures.exact told))

pub returns-in_err-theirs-clause-exact : goal.returns-in_err-theirs-clause-exact
returns-in_err-theirs-clause-exact g c = λ told also.
    let p = err_from_is_err_and c.from_residual-in_err-theirs.result c.from_residual-in_err-theirs.ensures.1 in
    rw (p.1, p.2)
    (both_end c.args.f.now (g.R.ReadAt.bytes c.args.reader.now) c.args.g.now (g.Q.ReadAt.bytes c.args.other.now) records_of both_of c.in_err-theirs.field-0.0 (records_of c.in_ok-ours.ours) (c.in_ok-ours.ensures.exact told) (c.in_err-theirs.ensures.exact also))

pub returns-clause-exact : goal.returns-clause-exact
returns-clause-exact g c = λ told also.
    both_are c.args.f.now (g.R.ReadAt.bytes c.args.reader.now) c.args.g.now (g.Q.ReadAt.bytes c.args.other.now) (records_of c.in_ok-ours.ours) (records_of c.in_ok-theirs.theirs) (c.in_ok-ours.ensures.exact told) (c.in_ok-theirs.ensures.exact also)
