use Rattle.std.proofs.Common.{◌∙◌, ◌+◌, ◌*◌, ◌≤◌, arith, length, subst, sym, ap, take, drop, List, Result, ℕ}
use Rattle.std.specs.Prelude.{Vec}
use Rattle.std.specs.Global.{Global}
use Rattle.std.proofs.lemmas.Result.{err_from_is_err_and}
use Rattle.xet_hash.specs.declared.error.StoreError.{StoreError}
use Rattle.xet_shard_format.specs.declared.record.MDBFileInfo.{MDBFileInfo}
use Rattle.xet_shard.specs.internal.ReaderBytes.{piece_at}
use Rattle.xet_codec.specs.Parsing.{GivesUnlessFault}
use Rattle.xet_shard.proofs.Faulting.{piece_there}
use Rattle.xet_shard.proofs.OneRecord.{by_piece, stops}
use Rattle.xet_shard_format.specs.theorems.RowLaws.{ok_is}
use Rattle.xet_shard.proofs.query.file_record.file_from.Goals as goal

pub returns-in_err-bytes-clause-exact : goal.returns-in_err-bytes-clause-exact
returns-in_err-bytes-clause-exact g c = λ told le.
    let p = err_from_is_err_and c.from_residual-in_err-bytes.result c.from_residual-in_err-bytes.ensures.1 in
    let head = c.in_ok-head.ensures in
    let now = g.R.ReadAt.bytes c.row_there.new.reader in
    let there : c.args.at + 48 + 48 * c.min-rest.result ≤ length now = omega (arith, le, ap length head.frame.same, c.min-rest.ensures, c.requires.some) in
    rw (p.1, p.2) (stops (λ (v : Vec ℕ Global). v.items) (λ x. x) c.in_err-bytes.field-0.0 (take (48 * c.min-rest.result) (drop (c.args.at + 48) now)) (piece_at (c.args.at + 48) (48 * c.min-rest.result) now) _
    (piece_there (c.args.at + 48) (48 * c.min-rest.result) now there) (c.in_err-bytes.ensures.told (head.frame.tells ∙ told) there))

pub returns-clause-exact : goal.returns-clause-exact
returns-clause-exact g c = λ told le.
    let head = c.in_ok-head.ensures in
    let now = g.R.ReadAt.bytes c.row_there.new.reader in
    let whole = g.R.ReadAt.bytes c.args.reader.now in
    let there : c.args.at + 48 + 48 * c.min-rest.result ≤ length now = omega (arith, le, ap length head.frame.same, c.min-rest.ensures, c.requires.some) in
    subst (λ (r : Result MDBFileInfo StoreError). GivesUnlessFault (λ x. x) c.file_of.result r)
    (by_piece whole c.args.at c.args.count c.rows_after_file.result c.min-rest.result c.in_ok-head.head c.deref.result.now c.requires.some c.requires.few le (head.told told (omega (arith, le, c.requires.some))) c.rows_after_file.ensures c.min-rest.ensures
    (c.deref.ensures.value ∙ sym (ok_is _ _ (sym (piece_there (c.args.at + 48) (48 * c.min-rest.result) now there) ∙ c.in_ok-bytes.ensures.told (head.frame.tells ∙ told) there)) ∙ ap (λ (b : List ℕ). take (48 * c.min-rest.result) (drop (c.args.at + 48) b)) head.frame.same))
    c.file_of.ensures.gives
