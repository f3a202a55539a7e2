use Rattle.std.proofs.Common.{drop, inl}
use Rattle.xet_codec.specs.Blocks.{RefusedBy}
use Rattle.xet_xorb_footer.specs.Reading.{number_is}
use Rattle.xet_base.specs.theorems.Exits.{exit_with}
use Rattle.xet_xorb_footer.proofs.Placing.{number_differs, number_fits, number_unread}
use Rattle.xet_xorb_footer.proofs.boundaries.expect_number.Goals as goal

pub returns-in_err-read_number-clause-refused : goal.returns-in_err-read_number-clause-refused
returns-in_err-read_number-clause-refused g c = λ bytes tells.
    exit_with (RefusedBy (number_is c.args.wanted c.args.reason (drop c.args.at bytes))) _ _ c.from_residual.ensures.1
    (number_unread c.args.wanted c.args.reason (drop c.args.at bytes) c.in_err-read_number.field-0.0 (c.in_err-read_number.ensures.refused bytes tells))

pub returns-then-branch-wanted-clause-refused : goal.returns-then-branch-wanted-clause-refused
returns-then-branch-wanted-clause-refused g c = λ bytes tells. inl (number_differs c.args.wanted _ c.args.reason (drop c.args.at bytes) _ (c.in_ok-read_number.ensures.read bytes tells) c.if-branch-wanted.true)

pub returns-clause-read : goal.returns-clause-read
returns-clause-read g c = λ bytes tells. number_fits c.args.wanted _ c.args.reason (drop c.args.at bytes) _ (c.in_ok-read_number.ensures.read bytes tells) c.if-branch-wanted.false
