use Rattle.std.proofs.Common.{◌∙◌}
use Rattle.xet_arguments.proofs.Two.{two_read}
use Rattle.xet_arguments.proofs.Make.{make_reads}
use Rattle.xet_arguments.proofs.arguments.make_arguments.Goals as goal

pub returns : goal.returns
returns c = c.make_values.ensures ∙ two_read make_reads _ c.in_ok-found.found _ c.in_ok-make_command.ensures c.requires c.in_ok-found.ensures
