use Rattle.std.proofs.Common.{◌≡◌, ◌∙◌, ◌+◌, ◌-◌, length, sym, arith}
use Rattle.xet_file_plan.proofs.LastSegment.{continues_last, continues_none, joined_bytes_last, with_run_last}
use Rattle.xet_file_plan.proofs.segments.extend_last.Goals as goal

pub returns-in_default-clause-value : goal.returns-in_default-clause-value
returns-in_default-clause-value c = sym (continues_none c.args.segments.now c.args.run.now c.in_default.ensures.item.3)

pub returns-then-not-goes_on-clause-value : goal.returns-then-not-goes_on-clause-value
returns-then-not-goes_on-clause-value c =
    let item = c.in-Some.ensures.item in
    let len : length c.args.segments.now ≡ length c.args.segments.now - 1 + 1 = omega (arith, item.3.0) in
    sym c.if-not-goes_on.true ∙ c.goes_on.ensures ∙ sym (continues_last c.args.segments.now c.in-Some.last.now c.args.run.now (length c.args.segments.now - 1) len item.1)

pub overflow_add-last : goal.overflow_add-last
overflow_add-last c =
    let item = c.in-Some.ensures.item in
    let len : length c.args.segments.now ≡ length c.args.segments.now - 1 + 1 = omega (arith, item.3.0) in
    omega (arith, c.requires.bytes, joined_bytes_last c.args.segments.now c.in-Some.last.now c.args.run.now (length c.args.segments.now - 1) len item.1 (sym c.goes_on.ensures ∙ c.if-not-goes_on.false))

pub returns-clause-value : goal.returns-clause-value
returns-clause-value c =
    let item = c.in-Some.ensures.item in
    let len : length c.args.segments.now ≡ length c.args.segments.now - 1 + 1 = omega (arith, item.3.0) in
    sym c.if-not-goes_on.false ∙ c.goes_on.ensures ∙ sym (continues_last c.args.segments.now c.in-Some.last.now c.args.run.now (length c.args.segments.now - 1) len item.1)

pub returns-clause-longer : goal.returns-clause-longer
returns-clause-longer c =
    let item = c.in-Some.ensures.item in
    let len : length c.args.segments.now ≡ length c.args.segments.now - 1 + 1 = omega (arith, item.3.0) in
    λ is. with_run_last c.args.segments.now c.in-Some.last.now c.args.run.now (length c.args.segments.now - 1) len item.1 (sym c.goes_on.ensures ∙ c.if-not-goes_on.false)
