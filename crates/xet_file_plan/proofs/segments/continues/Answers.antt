use Rattle.std.proofs.Common.{◌≡◌, ◌∙◌, ◌+◌, ◌-◌, length, sym, arith}
use Rattle.xet_file_plan.proofs.LastSegment.{continues_last, continues_none}
use Rattle.xet_file_plan.proofs.segments.continues.Goals as goal

pub returns-in-Some : goal.returns-in-Some
returns-in-Some c =
    let item = c.in-Some.ensures.item in
    let len : length c.args.segments.now ≡ length c.args.segments.now - 1 + 1 = omega (arith, item.3.0) in
    c.goes_on.ensures ∙ sym (continues_last c.args.segments.now c.in-Some.last.now c.args.run.now (length c.args.segments.now - 1) len item.1)

pub returns-in-None : goal.returns-in-None
returns-in-None c = sym (continues_none c.args.segments.now c.args.run.now c.in-None.ensures.item.3)
