use Rattle.std.proofs.Common.{◌∙◌, map, string_bytes}
use Rattle.xet_program.proofs.Commands.{pack_none, pack_some}
use Rattle.xet_program.proofs.words.pack_of.Goals as goal

pub returns-in-Some : goal.returns-in-Some
returns-in-Some c =
    let given = rw c.in-Some.is at c.in_ok-found.ensures in
    c.pack_by.ensures ∙ pack_some _ _ _ (map string_bytes c.args.arguments.now) given

pub returns-in-None : goal.returns-in-None
returns-in-None c =
    let given = rw c.in-None.is at c.in_ok-found.ensures in
    pack_none (map string_bytes c.args.arguments.now) given
