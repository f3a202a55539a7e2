use Rattle.std.proofs.Common.{◌∙◌, ◌+◌, drop, inl, length, sym, false, true}
use Rattle.std.proofs.lemmas.Bool.{not-false, not-true}
use Rattle.xet_codec.specs.Blocks.{RefusedBy}
use Rattle.xet_xorb_footer.specs.internal.Places.{checked_at}
use Rattle.xet_xorb_footer.proofs.Endings.{field_then}
use Rattle.xet_base.specs.theorems.Exits.{exit_with}
use Rattle.xet_xorb_footer.proofs.Placing.{checked_is, checked_short, short_refused}
use Rattle.xet_xorb_footer.proofs.boundaries.expect_bytes.Goals as goal

pub returns-in_err-load-clause-refused : goal.returns-in_err-load-clause-refused
returns-in_err-load-clause-refused g c = λ bytes tells.
    let n = length c.args.wanted.now in
    let e = c.in_err-load.field-0.0 in
    exit_with (RefusedBy (checked_at n c.args.wanted.now c.args.reason (drop c.args.at bytes))) _ _ c.from_residual.ensures.1
    (short_refused (checked_at n c.args.wanted.now c.args.reason) bytes c.args.at n e (checked_short n c.args.wanted.now c.args.reason) (c.in_err-load.ensures.refused bytes tells))

pub returns-then-ne-clause-refused : goal.returns-then-ne-clause-refused
returns-then-ne-clause-refused g c = λ bytes tells.
    let w = c.args.wanted.now in
    let at = c.args.at in
    let field = c.part.result.now in
    inl (checked_is (length w) w c.args.reason (drop at bytes) field (drop (at + length w) bytes) false (field_then (length w) at field bytes (c.part.ensures.value bytes (c.in_ok-load.ensures.part bytes tells)))
    c.part.ensures.len (not-true _ (sym c.ne.ensures ∙ c.if-ne.true)))

pub returns-clause-read : goal.returns-clause-read
returns-clause-read g c = λ bytes tells.
    let w = c.args.wanted.now in
    let at = c.args.at in
    let field = c.part.result.now in
    checked_is (length w) w c.args.reason (drop at bytes) field (drop (at + length w) bytes) true (field_then (length w) at field bytes (c.part.ensures.value bytes (c.in_ok-load.ensures.part bytes tells)))
    c.part.ensures.len (not-false _ (sym c.ne.ensures ∙ c.if-ne.false))
