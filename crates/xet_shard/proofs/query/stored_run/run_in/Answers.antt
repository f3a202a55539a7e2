use Rattle.std.proofs.Common.{◌∙◌, ◌+◌, ◌-◌, ◌*◌, Err, ap, arith, length, map, subst, Option, Result, ℕ}
use Rattle.std.proofs.lemmas.Result.{err_from_is_err_and}
use Rattle.xet_hash.specs.declared.error.StoreError.{StoreError}
use Rattle.xet_shard_format.specs.declared.record.FileDataSequenceEntry.{FileDataSequenceEntry}
use Rattle.xet_shard.specs.Queries.{kept_hash, read_in_row, rows_from}
use Rattle.xet_codec.specs.Parsing.{GivesUnlessFault}
use Rattle.xet_shard.specs.Runs.{run_after}
use Rattle.xet_shard.proofs.OneRecord.{from_row, in_row_fails}
use Rattle.xet_shard.proofs.PartLaws.{count_fails, counted}
use Rattle.xet_shard.proofs.query.stored_run.run_in.Goals as goal

abbrev Run : Type 0
Run = Option (ℕ × FileDataSequenceEntry)

pub returns-in_err-count-clause-exact : goal.returns-in_err-count-clause-exact
returns-in_err-count-clause-exact g c = λ told.
    let p = err_from_is_err_and c.from_residual.result c.from_residual.ensures.1 in
    let f = c.args.f.now in
    let whole = g.R.ReadAt.bytes c.args.reader.now in
    let read = run_after (map (kept_hash f.chunk_hash_hmac_key) c.args.query.now) c.args.place in
    rw (p.1, p.2) (count_fails {B = Run} (λ x. x) f.xorb_info_offset f.file_lookup_offset c.in_err-count.field-0.0 (λ n. read_in_row read f.xorb_info_offset n c.args.row whole) c.in_err-count.ensures.error c.in_err-count.ensures.exact)

pub returns-in_err-left-clause-exact : goal.returns-in_err-left-clause-exact
returns-in_err-left-clause-exact g c = λ told.
    let p = err_from_is_err_and c.from_residual-in_err-left.result c.from_residual-in_err-left.ensures.1 in
    let f = c.args.f.now in
    let at = f.xorb_info_offset in
    let whole = g.R.ReadAt.bytes c.args.reader.now in
    let read = run_after (map (kept_hash f.chunk_hash_hmac_key) c.args.query.now) c.args.place in
    let e = c.in_err-left.field-0.0 in
    rw (p.1, p.2) (counted {B = Run} (λ x. x) at f.file_lookup_offset c.in_ok-count.count (Err e) (λ n. read_in_row read at n c.args.row whole) c.in_ok-count.ensures.exact
    (in_row_fails read (λ x. x) at c.in_ok-count.count c.args.row e whole
    (subst (λ (row : ℕ). GivesUnlessFault {X = ℕ} (λ n. n) (Err e) (rows_from at c.in_ok-count.count row whole)) c.from-row.ensures (c.in_err-left.ensures.exact told))))

pub returns-clause-exact : goal.returns-clause-exact
returns-clause-exact g c = λ told.
    let f = c.args.f.now in
    let at = f.xorb_info_offset in
    let whole = g.R.ReadAt.bytes c.args.reader.now in
    let read = run_after (map (kept_hash f.chunk_hash_hmac_key) c.args.query.now) c.args.place in
    let count = c.in_ok-count.count in
    let rows = c.in_ok-left.ensures in
    let there = rows.reached told in
    let row = c.from-row.ensures in
    let left = rows.left ∙ ap (λ (r : ℕ). count - r) row in
    counted {B = Run} (λ x. x) at f.file_lookup_offset count c.run_from.result (λ n. read_in_row read at n c.args.row whole) c.in_ok-count.ensures.exact
    (subst (λ (r : Result Run StoreError). GivesUnlessFault (λ x. x) c.run_from.result r)
    ((λ i. read_in_row read (at + 48 * row i) (left i) 0 (rows.frame.same i)) ∙ from_row read whole at count c.args.row rows.few (omega (arith, rows.some, row)) there)
    (c.run_from.ensures.exact (rows.frame.tells ∙ told) (omega (arith, there, ap length rows.frame.same, rows.left, row, rows.some))))
