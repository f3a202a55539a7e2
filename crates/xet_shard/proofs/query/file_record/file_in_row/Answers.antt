use Rattle.std.proofs.Common.{◌∙◌, ◌+◌, ◌-◌, ◌*◌, Err, ap, arith, length, subst, Result, ℕ}
use Rattle.std.proofs.lemmas.Result.{err_from_is_err_and}
use Rattle.xet_hash.specs.declared.error.StoreError.{StoreError}
use Rattle.xet_shard_format.specs.declared.record.MDBFileInfo.{MDBFileInfo}
use Rattle.xet_shard.specs.Queries.{file_after, read_in_row, rows_from}
use Rattle.xet_codec.specs.Parsing.{GivesUnlessFault}
use Rattle.xet_shard.proofs.OneRecord.{from_row, in_row_fails}
use Rattle.xet_shard.proofs.query.file_record.file_in_row.Goals as goal

pub returns-in_err-left-clause-exact : goal.returns-in_err-left-clause-exact
returns-in_err-left-clause-exact g c = λ told.
    let p = err_from_is_err_and c.from_residual.result c.from_residual.ensures.1 in
    let whole = g.R.ReadAt.bytes c.args.reader.now in
    let e = c.in_err-left.field-0.0 in
    rw (p.1, p.2) (in_row_fails file_after (λ x. x) c.args.at c.args.count c.args.row e whole
    (subst (λ (row : ℕ). GivesUnlessFault {X = ℕ} (λ n. n) (Err e) (rows_from c.args.at c.args.count row whole)) c.from-row.ensures (c.in_err-left.ensures.exact told)))

pub returns-clause-exact : goal.returns-clause-exact
returns-clause-exact g c = λ told.
    let whole = g.R.ReadAt.bytes c.args.reader.now in
    let rows = c.in_ok-left.ensures in
    let there = rows.reached told in
    let row = c.from-row.ensures in
    let left = rows.left ∙ ap (λ (r : ℕ). c.args.count - r) row in
    subst (λ (r : Result MDBFileInfo StoreError). GivesUnlessFault (λ x. x) c.file_from.result r)
    ((λ i. read_in_row file_after (c.args.at + 48 * row i) (left i) 0 (rows.frame.same i)) ∙ from_row file_after whole c.args.at c.args.count c.args.row rows.few (omega (arith, rows.some, row)) there)
    (c.file_from.ensures.exact (rows.frame.tells ∙ told) (omega (arith, there, ap length rows.frame.same, rows.left, row, rows.some)))
