use Rattle.std.proofs.Common.{◌+◌, ◌-◌, ◌≤◌, ap, arith, inl, inr, length}
use Rattle.xet_xorb_footer.specs.Ends.{last_boundaries}
use Rattle.xet_codec.specs.Blocks.{RefusedBy}
use Rattle.xet_base.specs.theorems.Exits.{exit_with}
use Rattle.xet_xorb_footer.proofs.Sections.{begins_at, begins_before, last_few, number_told, start_is}
use Rattle.xet_xorb_footer.proofs.boundaries.boundaries_start.Goals as goal

pub returns-then-end-lt24-clause-refused : goal.returns-then-end-lt24-clause-refused
returns-then-end-lt24-clause-refused g c = λ bytes tells. inl (last_few c.args.end bytes tells.all c.if-end-lt24.true)

pub returns-in_err-read_exact-clause-refused : goal.returns-in_err-read_exact-clause-refused
returns-in_err-read_exact-clause-refused g c = λ bytes tells.
    let there : c.args.end - 24 + 4 ≤ length (g.R.ReadAt.bytes c.args.reader.now) = omega (arith, c.if-end-lt24.false, tells.all, ap length tells.same) in
    exit_with (RefusedBy (last_boundaries bytes)) _ _ c.from_residual.ensures.1 (inr (inl (c.in_err-read_exact.ensures.fault tells.told there)))

pub returns-then-end-size-clause-refused : goal.returns-then-end-size-clause-refused
returns-then-end-size-clause-refused g c = λ bytes tells.
    let told = number_told _ _ tells c.if-end-lt24.false c.from_le_bytes.ensures c.in_ok-read_exact.ensures.told in
    inl (begins_before c.args.end c.from_le_bytes.result bytes tells.all c.if-end-lt24.false told c.if-end-size.true)

pub returns-clause-read : goal.returns-clause-read
returns-clause-read g c = λ bytes tells.
    let told = number_told _ _ tells c.if-end-lt24.false c.from_le_bytes.ensures c.in_ok-read_exact.ensures.told in
    begins_at c.args.end c.from_le_bytes.result bytes tells.all c.if-end-lt24.false told c.if-end-size.false

pub returns-clause-place : goal.returns-clause-place
returns-clause-place g c = λ bytes tells. start_is c.args.end c.from_le_bytes.result bytes tells.all (number_told _ _ tells c.if-end-lt24.false c.from_le_bytes.ensures c.in_ok-read_exact.ensures.told)
