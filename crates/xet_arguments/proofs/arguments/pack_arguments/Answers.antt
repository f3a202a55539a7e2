use Rattle.std.proofs.Common.{◌∙◌}
use Rattle.xet_arguments.proofs.Pack.{pack_read}
use Rattle.xet_arguments.proofs.arguments.pack_arguments.Goals as goal

pub returns : goal.returns
returns c = c.pack_values.ensures ∙ pack_read _ c.in_ok-found.found _ c.in_ok-pack_command.ensures c.requires c.in_ok-found.ensures
