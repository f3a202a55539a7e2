use Rattle.std.proofs.Common.{◌∙◌, map, string_bytes}
use Rattle.xet_program.proofs.Commands.{read_none, read_some}
use Rattle.xet_program.proofs.words.read_of.Goals as goal

pub returns-in-Some : goal.returns-in-Some
returns-in-Some c =
    let given = rw c.in-Some.is at c.in_ok-found.ensures in
    c.read_by.ensures ∙ read_some c.in-Some.texts.hash.now c.in-Some.texts.from.now c.in-Some.texts.to.now (map string_bytes c.args.arguments.now) given

pub returns-in-None : goal.returns-in-None
returns-in-None c =
    let given = rw c.in-None.is at c.in_ok-found.ensures in
    read_none (map string_bytes c.args.arguments.now) given
