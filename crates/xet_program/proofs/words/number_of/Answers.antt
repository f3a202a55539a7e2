use Rattle.std.proofs.Common.{◌∙◌, sym}
use Rattle.xet_program.proofs.Commands.{number_read, number_refused}
use Rattle.xet_program.proofs.words.number_of.Goals as goal

pub returns-then-is_digits : goal.returns-then-is_digits
returns-then-is_digits c =
    c.ok.ensures.value ∙ number_read c.args.word.now c.parse.result c.parse.ensures.value.0 (sym c.is_digits.ensures ∙ c.if-is_digits.true)

pub returns-else-is_digits : goal.returns-else-is_digits
returns-else-is_digits c = sym (number_refused c.args.word.now (sym c.is_digits.ensures ∙ c.if-is_digits.false))
