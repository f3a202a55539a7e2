use Rattle.std.proofs.Common.{sym}
use Rattle.xet_program.proofs.Commands.{number_not_text}
use Rattle.xet_program.proofs.words.number_in.Goals as goal

pub returns-in-Err : goal.returns-in-Err
returns-in-Err c = sym (number_not_text c.args.bytes.now c.in-Err.ensures.cases.0)
