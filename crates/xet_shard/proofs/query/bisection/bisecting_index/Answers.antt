use Rattle.std.proofs.Common.{◌∙◌, ◌+◌, ◌*◌, ◌≤◌, ap, arith, length, rules, drop, List, ℕ, subst}
use Rattle.std.proofs.lemmas.Result.{err_from_is_err_and}
use Rattle.xet_shard.specs.Bisection.{AnswersAt, in_table, passes}
use Rattle.xet_shard.specs.internal.Bisection.{slots}
use Rattle.xet_shard.proofs.Bisecting.{index_fails, index_found, index_past, some_index}
use Rattle.xet_shard.proofs.query.bisection.bisecting_index.Goals as goal

pub returns-in_err-end-clause-exact : goal.returns-in_err-end-clause-exact
returns-in_err-end-clause-exact g c = λ told.
    let p = err_from_is_err_and c.from_residual.result c.from_residual.ensures.1 in
    rw (p.1, p.2) (index_fails c.args.probe c.args.at c.args.size c.args.count (g.R.ReadAt.bytes c.args.reader.now) c.in_err-end.field-0.0 c.in_err-end.ensures.fault)

pub returns-in-Some-clause-exact : goal.returns-in-Some-clause-exact
returns-in-Some-clause-exact g c = λ told.
    let at = c.args.at in
    let size = c.args.size in
    let n = c.args.count in
    let now = g.R.ReadAt.bytes c.reader_length.new.reader in
    let same = c.in_ok-end.ensures.frame.same in
    let tells = c.in_ok-end.ensures.frame.tells ∙ told in
    let there : at + size * n ≤ length now = omega (arith, c.in_ok-end.ensures.told told, c.in-Some.ensures.some, ap length same) in
    subst (λ (b : List ℕ). AnswersAt (passes c.args.probe) (slots size n (drop at b)) (λ x. x) c.bisect.result (λ index. in_table at (size * n) b index)) same
    (index_found c.args.probe at size n now c.bisect.result there (c.bisect.ensures.found tells there) (c.bisect.ensures.fault tells there))

pub returns-in-None-clause-exact : goal.returns-in-None-clause-exact
returns-in-None-clause-exact g c = λ told.
    let whole = g.R.ReadAt.bytes c.args.reader.now in
    let some = some_index (passes c.args.probe) (slots c.args.size c.args.count (drop c.args.at whole)) in
    (some.0, some.1, index_past c.args.probe c.args.at c.args.size c.args.count whole some.0 (omega (arith, c.in_ok-end.ensures.told told, c.in-None.ensures.none (search rules))))
