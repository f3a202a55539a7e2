use Rattle.std.specs.Prelude.{Vec}
use Rattle.std.specs.Global.{Global}
use Rattle.std.proofs.Common.{◌∙◌, ◌+◌, ◌*◌, ◌≤◌, ap, arith, drop, length, sym, take, List, ℕ}
use Rattle.std.proofs.lemmas.Result.{err_from_is_err_and}
use Rattle.xet_shard.specs.internal.ReaderBytes.{piece_at}
use Rattle.xet_shard.specs.Queries.{file_items_from}
use Rattle.xet_shard.proofs.Faulting.{piece_there}
use Rattle.xet_shard.proofs.OneRecord.{stops}
use Rattle.xet_shard_format.specs.theorems.RowLaws.{ok_is}
use Rattle.xet_shard.proofs.Tables.{files_from, files_index, files_refused}
use Rattle.xet_shard.proofs.query.lookup_search.kept_file_items.Goals as goal

pub returns-in_err-index-clause-exact : goal.returns-in_err-index-clause-exact
returns-in_err-index-clause-exact g c = λ told.
    let p = err_from_is_err_and c.from_residual.result c.from_residual.ensures.1 in
    rw (p.1, p.2) (files_refused c.args.f.now (g.R.ReadAt.bytes c.args.reader.now) (λ (v : Vec (ℕ × ℕ) Global). v.items) c.args.first c.in_err-index.field-0.0 c.requires (c.in_err-index.ensures.exact told))

pub returns-in_err-bytes-clause-exact : goal.returns-in_err-bytes-clause-exact
returns-in_err-bytes-clause-exact g c = λ told.
    let p = err_from_is_err_and c.from_residual-in_err-bytes.result c.from_residual-in_err-bytes.ensures.1 in
    let f = c.args.f.now in
    let whole = g.R.ReadAt.bytes c.args.reader.now in
    let now = g.R.ReadAt.bytes c.bisecting_index.new.reader in
    let index = c.in_ok-index.index in
    let few = c.min-few.result in
    let found = files_index f whole c.args.first index (c.in_ok-index.ensures.exact told) in
    let there : f.file_lookup_offset + 12 * index + 12 * few ≤ length now = omega (arith, found.1, c.in_ok-index.ensures.within, c.min-few.ensures, ap length c.in_ok-index.ensures.frame.same) in (
      index,
      found.0,
      rw (p.1, p.2) (stops (λ (v : Vec ℕ Global). v.items) (λ (v : Vec (ℕ × ℕ) Global). v.items) c.in_err-bytes.field-0.0 (take (12 * few) (drop (f.file_lookup_offset + 12 * index) now)) (piece_at (f.file_lookup_offset + 12 * index) (12 * few) now) (file_items_from f index whole)
          (piece_there (f.file_lookup_offset + 12 * index) (12 * few) now there) (c.in_err-bytes.ensures.told (c.in_ok-index.ensures.frame.tells ∙ told) there)),
    )

pub returns-in_err-items-clause-exact : goal.returns-in_err-items-clause-exact
returns-in_err-items-clause-exact g c = λ told.
    let p = err_from_is_err_and c.from_residual-in_err-items.result c.from_residual-in_err-items.ensures.1 in
    let found = files_index c.args.f.now (g.R.ReadAt.bytes c.args.reader.now) c.args.first c.in_ok-index.index (c.in_ok-index.ensures.exact told) in
    (c.in_ok-index.index, found.0, rw (p.1, p.2) tt)

pub returns-clause-exact : goal.returns-clause-exact
returns-clause-exact g c = λ told.
    let f = c.args.f.now in
    let whole = g.R.ReadAt.bytes c.args.reader.now in
    let now = g.R.ReadAt.bytes c.bisecting_index.new.reader in
    let index = c.in_ok-index.index in
    let few = c.min-few.result in
    let at = f.file_lookup_offset + 12 * index in
    let found = files_index f whole c.args.first index (c.in_ok-index.ensures.exact told) in
    let there : at + 12 * few ≤ length now = omega (arith, found.1, c.in_ok-index.ensures.within, c.min-few.ensures, ap length c.in_ok-index.ensures.frame.same) in
    let read = c.deref.ensures.value ∙ sym (ok_is _ _ (sym (piece_there at (12 * few) now there) ∙ c.in_ok-bytes.ensures.told (c.in_ok-index.ensures.frame.tells ∙ told) there)) ∙ ap (λ (b : List ℕ). take (12 * few) (drop at b)) c.in_ok-index.ensures.frame.same in
    (index, found.0, files_from f whole index few c.deref.result.now c.in_ok-items.items.items c.requires found.1 c.in_ok-index.ensures.within c.min-few.ensures read c.in_ok-items.ensures)
