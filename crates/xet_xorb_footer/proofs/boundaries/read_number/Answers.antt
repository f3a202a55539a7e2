use Rattle.std.proofs.Common.{◌+◌, drop}
use Rattle.xet_codec.specs.Blocks.{RefusedBy}
use Rattle.xet_codec.specs.Parsing.{number_at}
use Rattle.xet_xorb_footer.proofs.Endings.{field_then}
use Rattle.xet_base.specs.theorems.Exits.{exit_with}
use Rattle.xet_xorb_footer.specs.theorems.Prefixes.{number_short}
use Rattle.xet_xorb_footer.proofs.Placing.{number_there, short_refused}
use Rattle.xet_xorb_footer.proofs.boundaries.read_number.Goals as goal

pub returns-in_err-load-clause-refused : goal.returns-in_err-load-clause-refused
returns-in_err-load-clause-refused g c = λ bytes tells.
    exit_with (RefusedBy (number_at (drop c.args.at bytes))) _ _ c.from_residual.ensures.1 (short_refused number_at bytes c.args.at 4 c.in_err-load.field-0.0 number_short (c.in_err-load.ensures.refused bytes tells))

pub returns-clause-read : goal.returns-clause-read
returns-clause-read g c = λ bytes tells.
    let at = c.args.at in
    let field = c.part.result.now in
    number_there (drop at bytes) field (drop (at + 4) bytes) c.number_of.result (field_then 4 at field bytes (c.part.ensures.value bytes (c.in_ok-load.ensures.part bytes tells))) c.part.ensures.len (c.number_of.ensures.whole c.part.ensures.len)
