use Rattle.std.proofs.Common.{string_bytes}
use Rattle.xet_program.specs.declared.words.Command.TheVariants.{Group}
use Rattle.xet_program.proofs.Commands.{alone_by}
use Rattle.xet_program.proofs.words.group_of.Goals as goal

pub returns : goal.returns
returns c = alone_by string_bytes c.args.arguments.now c.in_ok-empty.empty Group c.then_some.result c.in_ok-empty.ensures c.then_some.ensures
