use Rattle.std.proofs.Common.{◌≡◌, ◌∙◌, ◌<◌, ◌≤◌, ◌+◌, ◌-◌, ◌*◌, ◌/◌, ℕ, List, ap, arith, drop, length, sym, rules}
use Rattle.std.proofs.lemmas.Result.{err_from_is_err_and}
use Rattle.xet_shard.specs.Bisection.{passes}
use Rattle.xet_shard.proofs.Bisecting.{halved, slot_within}
use Rattle.xet_shard.proofs.query.bisection.bisect.Goals as goal

pub returns-in_err-passes_at-clause-fault : goal.returns-in_err-passes_at-clause-fault
returns-in_err-passes_at-clause-fault g c = λ told le.
    let p = err_from_is_err_and c.from_residual.result c.from_residual.ensures.1 in
    let i = c.halves.invariant in
    let m = c.halves.low + (c.halves.high - c.halves.low) / 2 in
    let lt : m < c.args.count = omega (arith, i.bound, c.halves-test.true) in
    let there : c.args.at + c.args.size * m + 12 ≤ length (g.R.ReadAt.bytes c.halves.reader) = omega (arith, slot_within c.args.size m c.args.count lt, le, c.requires.item, ap length i.same) in
    rw (p.1, p.2) (c.in_err-passes_at.ensures.fault (i.tells ∙ told) there)

pub halves-preserved-then-branch : goal.halves-preserved-then-branch
halves-preserved-then-branch g c =
    let i = c.halves.invariant in
    let whole = g.R.ReadAt.bytes c.args.reader.now in
    let m = c.halves.low + (c.halves.high - c.halves.low) / 2 in
    let lt : m < c.args.count = omega (arith, i.bound, c.halves-test.true) in
    let back : m + 1 - 1 ≡ m = omega arith in
    record {
      order = omega (arith, i.order, c.halves-test.true);
      bound = i.bound;
      before = λ told le some.
          let there : c.args.at + c.args.size * m + 12 ≤ length (g.R.ReadAt.bytes c.halves.reader) = omega (arith, slot_within c.args.size m c.args.count lt, le, c.requires.item, ap length i.same) in
          ap (λ (n : ℕ). passes c.args.probe (drop (c.args.at + c.args.size * n) whole)) back ∙ ap (λ (b : List ℕ). passes c.args.probe (drop (c.args.at + c.args.size * m) b)) (sym i.same)
          ∙ sym (c.in_ok-passes_at.ensures.told (i.tells ∙ told) there) ∙ c.if-branch.true;
      after = i.after;
      same = c.in_ok-passes_at.ensures.frame.same ∙ i.same;
      tells = c.in_ok-passes_at.ensures.frame.tells ∙ i.tells;
      later = omega (arith, c.in_ok-passes_at.ensures.frame.later, i.later);
      lent = search rules;
    }

pub halves-preserved : goal.halves-preserved
halves-preserved g c =
    let i = c.halves.invariant in
    let whole = g.R.ReadAt.bytes c.args.reader.now in
    let m = c.halves.low + (c.halves.high - c.halves.low) / 2 in
    let lt : m < c.args.count = omega (arith, i.bound, c.halves-test.true) in
    record {
      order = omega (arith, i.order, c.halves-test.true);
      bound = omega (arith, i.bound, c.halves-test.true);
      before = i.before;
      after = λ told le below.
          let there : c.args.at + c.args.size * m + 12 ≤ length (g.R.ReadAt.bytes c.halves.reader) = omega (arith, slot_within c.args.size m c.args.count lt, le, c.requires.item, ap length i.same) in
          ap (λ (b : List ℕ). passes c.args.probe (drop (c.args.at + c.args.size * m) b)) (sym i.same) ∙ sym (c.in_ok-passes_at.ensures.told (i.tells ∙ told) there) ∙ c.if-branch.false;
      same = c.in_ok-passes_at.ensures.frame.same ∙ i.same;
      tells = c.in_ok-passes_at.ensures.frame.tells ∙ i.tells;
      later = omega (arith, c.in_ok-passes_at.ensures.frame.later, i.later);
      lent = search rules;
    }

pub returns-clause-found : goal.returns-clause-found
returns-clause-found g c = λ told le.
    let i = c.halves.invariant in
    halved c.args.probe c.args.at c.args.size c.args.count (g.R.ReadAt.bytes c.args.reader.now) c.halves.low c.halves.high (omega (arith, i.order, c.halves-test.false)) i.bound (i.before told le) (i.after told le)
