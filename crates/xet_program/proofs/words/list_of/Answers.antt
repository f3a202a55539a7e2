use Rattle.std.proofs.Common.{string_bytes}
use Rattle.xet_program.specs.declared.words.Command.TheVariants.{ListFiles}
use Rattle.xet_program.proofs.Commands.{alone_by}
use Rattle.xet_program.proofs.words.list_of.Goals as goal

pub returns : goal.returns
returns c = alone_by string_bytes c.args.arguments.now c.in_ok-empty.empty ListFiles c.then_some.result c.in_ok-empty.ensures c.then_some.ensures
