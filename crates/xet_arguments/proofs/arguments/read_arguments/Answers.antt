use Rattle.std.proofs.Common.{◌∙◌}
use Rattle.xet_arguments.proofs.Read.{read_read}
use Rattle.xet_arguments.proofs.arguments.read_arguments.Goals as goal

pub returns : goal.returns
returns c = c.read_values.ensures ∙ read_read _ c.in_ok-found.found _ c.in_ok-read_command.ensures c.requires c.in_ok-found.ensures
