use Rattle.std.specs.Prelude.{Vec}
use Rattle.std.specs.Global.{Global}
use Rattle.std.proofs.Common.{◌≡◌, ◌∙◌, ◌<◌, ◌≤◌, nat_lt, List, Option, arith, length, subst, ℕ}
use Rattle.std.proofs.lemmas.Result.{err_from_is_err_and}
use Rattle.xet_shard_format.specs.declared.record.MDBFileInfo.{MDBFileInfo}
use Rattle.xet_shard.specs.Bisection.{Bisects}
use Rattle.xet_shard.specs.Queries.{file_table, first_file, rows_of}
use Rattle.xet_codec.specs.Parsing.{GivesUnlessFault}
use Rattle.xet_shard_format.specs.Records.{first_word}
use Rattle.xet_shard.proofs.Asking.{found_by, found_fails, found_many, rows_count}
use Rattle.xet_shard.proofs.info.MDBShardInfo.get_file_reconstruction_info.Goals as goal

pub returns-in_err-items-clause-exact : goal.returns-in_err-items-clause-exact
returns-in_err-items-clause-exact g c = λ told.
    let p = err_from_is_err_and c.from_residual.result c.from_residual.ensures.1 in
    let f = c.args.self.now.metadata in
    let whole = g.R.ReadAt.bytes c.args.reader.now in
    let found = c.in_err-items.ensures.exact told in
    (found.0, subst (λ (w : ℕ). Bisects (λ i. nat_lt i.0 w) (file_table f whole) found.0) c.word.ensures found.1, rw (p.1, p.2) (found_fails (λ (v : Vec (ℕ × ℕ) Global). v.items) f c.args.hash.now whole found.0 c.in_err-items.field-0.0 found.2))

pub returns-then-count_of-ge8-clause-exact : goal.returns-then-count_of-ge8-clause-exact
returns-then-count_of-ge8-clause-exact g c = λ told.
    let f = c.args.self.now.metadata in
    let h = c.args.hash.now in
    let whole = g.R.ReadAt.bytes c.args.reader.now in
    let items = c.in_ok-items.items.items in
    let found = c.in_ok-items.ensures.exact told in
    let count : c.count_of.result ≡ length (rows_of (first_word h) items) = rows_count h items c.deref.result.now c.word-2.result c.count_of.result c.deref.ensures.value c.word-2.ensures c.count_of.ensures in
    let many : 8 ≤ length (rows_of (first_word h) items) = omega (arith, count, c.if-count_of-ge8.true) in
    (found.0, subst (λ (w : ℕ). Bisects (λ i. nat_lt i.0 w) (file_table f whole) found.0) c.word.ensures found.1, found_many f h whole found.0 items found.2 many)

pub returns-clause-exact : goal.returns-clause-exact
returns-clause-exact g c = λ told.
    let f = c.args.self.now.metadata in
    let h = c.args.hash.now in
    let whole = g.R.ReadAt.bytes c.args.reader.now in
    let items = c.in_ok-items.items.items in
    let before = c.in_ok-items.ensures in
    let found = before.exact told in
    let count : c.count_of.result ≡ length (rows_of (first_word h) items) = rows_count h items c.deref.result.now c.word-2.result c.count_of.result c.deref.ensures.value c.word-2.ensures c.count_of.ensures in
    let few : length (rows_of (first_word h) items) < 8 = omega (arith, count, c.if-count_of-ge8.false) in (
      found.0,
      subst (λ (w : ℕ). Bisects (λ i. nat_lt i.0 w) (file_table f whole) found.0) c.word.ensures found.1,
      found_by f h whole found.0 items c.first_file.result found.2 few
          (subst (λ (p : List (ℕ × ℕ) × List ℕ). GivesUnlessFault {X = Option MDBFileInfo} (λ x. x) c.first_file.result (first_file f h (rows_of (first_word h) p.0) p.1)) (λ i. (c.deref-2.ensures.value i, before.frame.same i))
          (c.first_file.ensures.exact (before.frame.tells ∙ told))),
    )
