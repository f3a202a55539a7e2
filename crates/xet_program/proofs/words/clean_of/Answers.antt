use Rattle.std.proofs.Common.{◌∙◌, string_bytes, sym}
use Rattle.xet_program.proofs.Commands.{clean_none, clean_some}
use Rattle.xet_program.proofs.words.clean_of.Goals as goal

pub clean_by-requires : goal.clean_by-requires
clean_by-requires c = clean_some c.args.names.now (sym c.in_ok-some.ensures ∙ c.if-some.true)

pub returns-else-some : goal.returns-else-some
returns-else-some c = clean_none string_bytes c.args.names.now (sym c.in_ok-some.ensures ∙ c.if-some.false)
