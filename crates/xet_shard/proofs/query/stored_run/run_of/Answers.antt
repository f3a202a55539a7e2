use Rattle.std.proofs.Common.{◌≡◌, ◌∙◌, ◌+◌, ◌-◌, Err, List, Ok, Some, Option, ap, arith, drop, false, length, map, nat_eq, rules, subst, sym, true, ℕ}
use Rattle.std.proofs.lemmas.List.{length-map}
use Rattle.std.proofs.lemmas.Result.{err_from_is_err_and}
use Rattle.std.specs.Cmp.Lexicographic.{pointwise}
use Rattle.xet_shard_format.specs.declared.record.FileDataSequenceEntry.{FileDataSequenceEntry}
use Rattle.xet_shard.specs.Queries.{kept_hash}
use Rattle.xet_codec.specs.Parsing.{GivesUnlessFault}
use Rattle.xet_shard_format.specs.Rows.{rows_in}
use Rattle.xet_shard.specs.Runs.{agreed}
use Rattle.xet_shard.proofs.Agreeing.{is_given}
use Rattle.xet_shard.proofs.RunsRead.{first_differs, first_refused, no_query, rest_agrees, rest_fails}
use Rattle.xet_shard.proofs.query.stored_run.run_of.Goals as goal

pub returns-in_default-clause-exact : goal.returns-in_default-clause-exact
returns-in_default-clause-exact g c = λ told le.
    no_query c.args.place c.args.head.now (map (kept_hash c.args.key.now) c.args.query.now) _ (omega (arith, length-map c.args.query.now (kept_hash c.args.key.now), c.in_default.ensures.cases))

pub returns-then-ne-clause-exact : goal.returns-then-ne-clause-exact
returns-then-ne-clause-exact g c = λ told le.
    let other : pointwise nat_eq c.kept_hash.result c.in_ok-row.row.hash ≡ false = search rules in
    first_differs c.args.place c.args.head.now (kept_hash c.args.key.now) c.args.query.now c.in-Some.rest.now c.in-Some.first.now c.kept_hash.result (c.args.head.now.b - c.args.place) c.args.at (g.R.ReadAt.bytes c.args.reader.now) c.in_ok-row.row
    c.in-Some.ensures.cases.0 c.kept_hash.ensures (omega (arith, c.requires.some)) (c.in_ok-row.ensures.told told (omega (arith, le, c.requires.some))) other

pub returns-in_err-to-clause-exact : goal.returns-in_err-to-clause-exact
returns-in_err-to-clause-exact g c = λ told le.
    let p = err_from_is_err_and c.from_residual-in_err-to.result c.from_residual-in_err-to.ensures.1 in
    let same : pointwise nat_eq c.kept_hash.result c.in_ok-row.row.hash ≡ true = search rules in
    let refused = first_refused c.args.place c.args.head.now (kept_hash c.args.key.now) c.args.query.now c.in-Some.rest.now c.in-Some.first.now c.kept_hash.result (c.args.head.now.b - c.args.place) c.args.at (g.R.ReadAt.bytes c.args.reader.now) c.in_ok-row.row
    c.in-Some.ensures.cases.0 c.kept_hash.ensures (omega (arith, c.requires.some)) (c.in_ok-row.ensures.told told (omega (arith, le, c.requires.some))) c.in_err-to.field-0.0 same (sym c.in_err-to.ensures.exact) in
    rw (p.1, p.2) (is_given {X = Option (ℕ × FileDataSequenceEntry)} (Err c.in_err-to.field-0.0) _ (sym refused) c.in_err-to.ensures.refused)

pub returns-in_err-more-clause-exact : goal.returns-in_err-more-clause-exact
returns-in_err-more-clause-exact g c = λ told le.
    let p = err_from_is_err_and c.from_residual-in_err-more.result c.from_residual-in_err-more.ensures.1 in
    let row = c.in_ok-row.ensures in
    let same : pointwise nat_eq c.kept_hash.result c.in_ok-row.row.hash ≡ true = search rules in
    let e = c.in_err-more.field-0.0 in
    rw (p.1, p.2) (rest_fails c.args.place c.args.head.now (kept_hash c.args.key.now) c.args.query.now c.in-Some.rest.now c.in-Some.first.now c.kept_hash.result (c.args.head.now.b - c.args.place) c.args.at (g.R.ReadAt.bytes c.args.reader.now) c.in_ok-row.row
    c.in-Some.ensures.cases.0 c.kept_hash.ensures (omega (arith, c.requires.some)) (c.in_ok-row.ensures.told told (omega (arith, le, c.requires.some))) c.in_ok-to.to e same (sym c.in_ok-to.ensures.exact)
    (subst (λ (b : List ℕ). GivesUnlessFault {X = ℕ × ℕ} (λ x. x) (Err e) (agreed (map (kept_hash c.args.key.now) c.in-Some.rest.now) c.args.head.now.c c.in_ok-to.to (rows_in (c.args.head.now.b - c.args.place - 1) (drop (c.args.at + 48) b)))) row.frame.same
    (c.in_err-more.ensures.exact (row.frame.tells ∙ told) (omega (arith, le, ap length row.frame.same, c.requires.some)))))

pub returns-clause-exact : goal.returns-clause-exact
returns-clause-exact g c = λ told le.
    let row = c.in_ok-row.ensures in
    let same : pointwise nat_eq c.kept_hash.result c.in_ok-row.row.hash ≡ true = search rules in
    let more = c.in_ok-more in
    rest_agrees c.args.place c.args.head.now (kept_hash c.args.key.now) c.args.query.now c.in-Some.rest.now c.in-Some.first.now c.kept_hash.result (c.args.head.now.b - c.args.place) c.args.at (g.R.ReadAt.bytes c.args.reader.now) c.in_ok-row.row
    c.in-Some.ensures.cases.0 c.kept_hash.ensures (omega (arith, c.requires.some)) (c.in_ok-row.ensures.told told (omega (arith, le, c.requires.some))) c.in_ok-to.to more.more more.end same (sym c.in_ok-to.ensures.exact)
    (ap (λ (b : List ℕ). agreed (map (kept_hash c.args.key.now) c.in-Some.rest.now) c.args.head.now.c c.in_ok-to.to (rows_in (c.args.head.now.b - c.args.place - 1) (drop (c.args.at + 48) b))) (sym row.frame.same) ∙ more.ensures.exact (row.frame.tells ∙ told) (omega (arith, le, ap length row.frame.same, c.requires.some)))
    ∙ ap (λ (s : FileDataSequenceEntry). Ok (Some (more.more + 1, s))) (sym c.new-segment.ensures)
