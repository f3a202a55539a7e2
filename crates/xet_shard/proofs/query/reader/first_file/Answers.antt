use Rattle.std.proofs.Common.{◌∙◌, [], ◌∷◌, ℕ, List, Option, Ok, Err, ap, arith, get_or, subst, sym, rules}
use Rattle.std.proofs.lemmas.Result.{err_from_is_err_and}
use Rattle.xet_shard_format.specs.declared.record.MDBFileInfo.{MDBFileInfo}
use Rattle.xet_shard.specs.Queries.{first_file, rows_of}
use Rattle.xet_codec.specs.Parsing.{GivesUnlessFault}
use Rattle.xet_shard_format.specs.Records.{first_word}
use Rattle.xet_shard.proofs.Asking.{item_fails, item_none, item_some, items_done}
use Rattle.xet_shard.proofs.query.reader.first_file.Goals as goal

pub returns-in_err-file-clause-exact : goal.returns-in_err-file-clause-exact
returns-in_err-file-clause-exact g c = λ told.
    let p = err_from_is_err_and c.from_residual.result c.from_residual.ensures.1 in
    let h = c.args.hash.now in
    let i : ℕ × ℕ = get_or c.args.items.now c.loop-item.item-index (0, 0) in
    let whole = g.R.ReadAt.bytes c.args.reader.now in
    let e = c.in_err-file.field-0.0 in
    rw (p.1, p.2) (item_fails c.args.f.now h (first_word h) whole c.args.items.now c.loop-item.item-index (0, 0) e _ c.loop-item-test.true
    (subst (λ (b : List ℕ). GivesUnlessFault {X = Option MDBFileInfo} (λ x. x) (Err e) (first_file c.args.f.now h (rows_of (first_word h) (i ∷ [])) b)) c.loop-item.invariant.frame.same (c.in_err-file.ensures.exact (c.loop-item.invariant.frame.tells ∙ told)))
    (c.loop-item.invariant.so_far told))

pub returns-in-Some-clause-exact : goal.returns-in-Some-clause-exact
returns-in-Some-clause-exact g c = λ told.
    let h = c.args.hash.now in
    let i : ℕ × ℕ = get_or c.args.items.now c.loop-item.item-index (0, 0) in
    let whole = g.R.ReadAt.bytes c.args.reader.now in
    item_some c.args.f.now h (first_word h) whole c.args.items.now c.loop-item.item-index (0, 0) c.in-Some.file _ c.loop-item-test.true
    (ap (λ (b : List ℕ). first_file c.args.f.now h (rows_of (first_word h) (i ∷ [])) b) (sym c.loop-item.invariant.frame.same) ∙ c.in_ok-file.ensures.exact (c.loop-item.invariant.frame.tells ∙ told) ∙ ap (λ (x : Option MDBFileInfo). Ok x) c.in-Some.is)
    (c.loop-item.invariant.so_far told)

pub loop-item-preserved : goal.loop-item-preserved
loop-item-preserved g c =
    let h = c.args.hash.now in
    let i : ℕ × ℕ = get_or c.args.items.now c.loop-item.item-index (0, 0) in
    let whole = g.R.ReadAt.bytes c.args.reader.now in
    record {
      frame = record {
        same = c.in_ok-file.ensures.frame.same ∙ c.loop-item.invariant.frame.same;
        tells = c.in_ok-file.ensures.frame.tells ∙ c.loop-item.invariant.frame.tells;
        later = omega (arith, c.in_ok-file.ensures.frame.later, c.loop-item.invariant.frame.later);
      };
      lent = search rules;
      so_far = λ told.
          item_none c.args.f.now h (first_word h) whole c.args.items.now c.loop-item.item-index (0, 0) _ c.loop-item-test.true
          (ap (λ (b : List ℕ). first_file c.args.f.now h (rows_of (first_word h) (i ∷ [])) b) (sym c.loop-item.invariant.frame.same) ∙ c.in_ok-file.ensures.exact (c.loop-item.invariant.frame.tells ∙ told) ∙ ap (λ (x : Option MDBFileInfo). Ok x) c.in-None.is)
          (c.loop-item.invariant.so_far told);
    }

pub returns-clause-exact : goal.returns-clause-exact
returns-clause-exact g c = λ told.
    let h = c.args.hash.now in
    items_done c.args.f.now h (first_word h) (g.R.ReadAt.bytes c.args.reader.now) c.args.items.now c.loop-item.item-index _ c.loop-item-test.false (c.loop-item.invariant.so_far told)
