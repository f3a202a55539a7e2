use Rattle.std.proofs.Common.{◌∙◌, ◌==◌, ap, string_bytes}
use Rattle.std.proofs.lemmas.List.{length-map}
use Rattle.clap.specs.Words.{found_of}
use Rattle.xet_arguments.proofs.Alone.{alone_reads}
use Rattle.xet_arguments.proofs.Parses.{accepted_of, rejected_of}
use Rattle.xet_arguments.proofs.arguments.no_arguments.Goals as goal

pub returns-in-Some : goal.returns-in-Some
returns-in-Some c =
    let given = rw c.in-Some.is at c.in_ok-found.ensures in
    accepted_of (alone_reads _) _ c.bare_command-command.ensures c.requires (found_of c.in-Some._matches) given.0 given.1 ∙ ap (λ n. n == 0) (length-map c.args.words.now string_bytes)

pub returns-in-None : goal.returns-in-None
returns-in-None c =
    let given = rw c.in-None.is at c.in_ok-found.ensures in
    rejected_of (alone_reads _) _ c.bare_command-command.ensures c.requires given ∙ ap (λ n. n == 0) (length-map c.args.words.now string_bytes)
