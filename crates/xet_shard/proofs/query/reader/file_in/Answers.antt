use Rattle.std.proofs.lemmas.Result.{err_from_is_err_and}
use Rattle.xet_shard_format.specs.declared.record.MDBFileInfo.{MDBFileInfo}
use Rattle.xet_shard.specs.Queries.{file_after, read_in_row}
use Rattle.xet_shard.proofs.PartLaws.{count_fails, counted}
use Rattle.xet_shard.proofs.query.reader.file_in.Goals as goal

pub returns-in_err-count-clause-exact : goal.returns-in_err-count-clause-exact
returns-in_err-count-clause-exact g c = λ told.
    let p = err_from_is_err_and c.from_residual.result c.from_residual.ensures.1 in
    let at = c.args.f.now.file_info_offset in
    rw (p.1, p.2) (count_fails (λ (x : MDBFileInfo). x) at c.args.f.now.xorb_info_offset c.in_err-count.field-0.0 (λ n. read_in_row file_after at n c.args.row (g.R.ReadAt.bytes c.args.reader.now)) c.in_err-count.ensures.error c.in_err-count.ensures.exact)

pub returns-clause-exact : goal.returns-clause-exact
returns-clause-exact g c = λ told.
    let at = c.args.f.now.file_info_offset in
    counted (λ (x : MDBFileInfo). x) at c.args.f.now.xorb_info_offset c.in_ok-count.count c.file_in_row.result (λ n. read_in_row file_after at n c.args.row (g.R.ReadAt.bytes c.args.reader.now)) c.in_ok-count.ensures.exact (c.file_in_row.ensures.exact told)
