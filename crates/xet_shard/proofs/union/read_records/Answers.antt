use Rattle.std.specs.Prelude.{Vec}
use Rattle.std.specs.Global.{Global}
use Rattle.std.proofs.Common.{◌∙◌, Err, ap, subst, sym, List, ℕ}
use Rattle.std.proofs.lemmas.Result.{err_from_is_err_and}
use Rattle.xet_shard_format.specs.declared.record.MDBFileInfo.{MDBFileInfo}
use Rattle.xet_shard_format.specs.declared.record.MDBXorbInfo.{MDBXorbInfo}
use Rattle.xet_codec.specs.Parsing.{GivesUnlessFault}
use Rattle.xet_shard.specs.Sections.{blocks_in}
use Rattle.xet_shard.specs.Union.{ShardRecords}
use Rattle.xet_shard.proofs.Uniting.{records_are, records_end, records_fail}
use Rattle.xet_shard.proofs.union.read_records.Goals as goal

abbrev records_of : Vec MDBXorbInfo Global × Vec MDBFileInfo Global → ShardRecords
records_of x = (x.0.items, x.1.items)

pub returns-in_err-found-clause-exact : goal.returns-in_err-found-clause-exact
returns-in_err-found-clause-exact g c = λ told.
    let p = err_from_is_err_and c.from_residual.result c.from_residual.ensures.1 in
    rw (p.1, p.2) (records_fail c.args.f.now (g.R.ReadAt.bytes c.args.reader.now) (λ (v : Vec MDBFileInfo Global). v.items) records_of c.in_err-found.field-0.0 (c.in_err-found.ensures.exact told))

pub returns-in_err-xorbs-clause-exact : goal.returns-in_err-xorbs-clause-exact
returns-in_err-xorbs-clause-exact g c = λ told.
    let p = err_from_is_err_and c.from_residual-in_err-xorbs.result c.from_residual-in_err-xorbs.ensures.1 in
    rw (p.1, p.2)
    (records_end c.args.f.now (g.R.ReadAt.bytes c.args.reader.now) (λ (v : Vec MDBXorbInfo Global). v.items) records_of c.in_err-xorbs.field-0.0 c.in_ok-found.found.items (c.in_ok-found.ensures.exact told)
    (subst (λ (bytes : List ℕ). GivesUnlessFault (λ (v : Vec MDBXorbInfo Global). v.items) (Err c.in_err-xorbs.field-0.0) (blocks_in c.args.f.now bytes)) c.in_ok-found.ensures.frame.same (c.in_err-xorbs.ensures.exact (c.in_ok-found.ensures.frame.tells ∙ told))))

pub returns-clause-exact : goal.returns-clause-exact
returns-clause-exact g c = λ told.
    records_are c.args.f.now (g.R.ReadAt.bytes c.args.reader.now) c.in_ok-found.found.items c.in_ok-xorbs.xorbs.items (c.in_ok-found.ensures.exact told)
    (ap (blocks_in c.args.f.now) (sym c.in_ok-found.ensures.frame.same) ∙ c.in_ok-xorbs.ensures.exact (c.in_ok-found.ensures.frame.tells ∙ told))
