use Rattle.std.proofs.Common.{◌≡◌, ◌∙◌, ◌+◌, ℕ, true, length, ap, sym, arith, refl, inl, inr, Some, take, List, [], ◌∷◌, eqb}
use Rattle.std.proofs.lemmas.Bool.{cases_lt}
use Rattle.std.proofs.lemmas.Bool.Decides.{nat_tests}
use Rattle.std.proofs.lemmas.List.{take_all}
use Rattle.std.specs.Str.Lines.{lines}
use Rattle.std.specs.Option.{option_map}
use Rattle.xet_program.specs.Lines.{good_lines}
use Rattle.xet_program.specs.internal.Parsing.{parted}
use Rattle.xet_program.proofs.Said.{good_none, good_more, good_here, bad_here, bad_nowhere, drop_next}
use Rattle.xet_program.proofs.lines.parse.Goals as goal

nothing_left : (bs : List ℕ) → eqb (length bs) 0 ≡ true → bs ≡ []
nothing_left [] e = refl
nothing_left (b ∷ bs) e = absurd (grind (arith, nat_tests))

pub lines-init : goal.lines-init
lines-init c = record {
  few = omega arith;
  count = omega arith;
  rest = refl;
  said = good_none ∙ ap Some (sym c.new-said.ensures);
  before = λ j low high. absurd (omega arith);
}

pub returns-then-not-branch-clause-stop : goal.returns-then-not-branch-clause-stop
returns-then-not-branch-clause-stop c =
    let all = lines c.args.input.now in
    let i = c.lines.invariant in
    let next = sym i.rest ∙ c.first_line.ensures.line in
    let bad = rw c.if-not-branch.true at c.in_ok-push.ensures.good in
    let count = ap length c.first_line.ensures.line in
    bad_here all (c.lines.number + 1) (omega arith) (omega (arith, count)) (λ j low high. i.before j low (omega arith))
    (good_more all c.lines.number _ _ c.lines.said next i.said ∙ bad)

pub lines-preserved : goal.lines-preserved
lines-preserved c =
    let all = lines c.args.input.now in
    let i = c.lines.invariant in
    let next = sym i.rest ∙ c.first_line.ensures.line in
    let good = rw c.if-not-branch.false at c.in_ok-push.ensures.good in
    let count = ap length c.first_line.ensures.line in
    let said = good_more all c.lines.number _ _ c.lines.said next i.said ∙ good in
    record {
      few = omega arith;
      count = omega (arith, count);
      rest = drop_next all c.lines.number _ _ next;
      said = said;
      before = λ j low high. elim (cases_lt j (c.lines.number + 1)) [
        | inl earlier ↦ i.before j low (omega arith)
        | inr here ↦
            let e : j ≡ c.lines.number + 1 = omega arith in rw e (good_here all (c.lines.number + 1) _ said)
      ];
    }

pub returns-clause-good : goal.returns-clause-good
returns-clause-good c =
    let i = c.lines.invariant in
    let none : c.lines.rest.now ≡ [] = nothing_left c.lines.rest.now (sym c.is_empty.ensures ∙ c.lines-test.false) in
    let count : length (lines c.lines.rest.now) ≡ 0 = ap (λ (bs : List ℕ). length (lines bs)) none in
    bad_nowhere (lines c.args.input.now) (λ j low high. i.before j low (omega (arith, count)))

pub returns-clause-said : goal.returns-clause-said
returns-clause-said c =
    let all = lines c.args.input.now in
    let i = c.lines.invariant in
    let none : c.lines.rest.now ≡ [] = nothing_left c.lines.rest.now (sym c.is_empty.ensures ∙ c.lines-test.false) in
    let count : length (lines c.lines.rest.now) ≡ 0 = ap (λ (bs : List ℕ). length (lines bs)) none in
    let whole : take c.lines.number all ≡ all = take_all c.lines.number all (omega (arith, count)) in
    ap (λ (ls : List (List ℕ)). option_map parted (good_lines ls)) (sym whole) ∙ i.said
