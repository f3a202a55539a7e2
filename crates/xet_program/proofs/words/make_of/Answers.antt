use Rattle.std.proofs.Common.{◌∙◌, map, string_bytes}
use Rattle.xet_program.proofs.Commands.{make_none, make_some}
use Rattle.xet_program.proofs.words.make_of.Goals as goal

pub returns-in-Some : goal.returns-in-Some
returns-in-Some c =
    let given = rw c.in-Some.is at c.in_ok-found.ensures in
    c.make_by.ensures ∙ make_some c.in-Some.texts.seed.now c.in-Some.texts.bytes.now (map string_bytes c.args.arguments.now) given

pub returns-in-None : goal.returns-in-None
returns-in-None c =
    let given = rw c.in-None.is at c.in_ok-found.ensures in
    make_none (map string_bytes c.args.arguments.now) given
