use Rattle.std.proofs.Common.{◌∙◌, ◌≤◌, ℕ, List, ap, length, map, nat_lt, string_bytes}
use Rattle.std.proofs.lemmas.List.{length-map}
use Rattle.clap.specs.Words.{found_of}
use Rattle.clap.specs.Lexer.{usize_max}
use Rattle.xet_arguments.proofs.Clean.{clean_reads}
use Rattle.xet_arguments.proofs.Parses.{accepted_of, rejected_of}
use Rattle.xet_arguments.proofs.arguments.some_arguments.Goals as goal

few : {X : Type 0} (f : X → List ℕ) (words : List X) → length words ≤ usize_max → length (map f words) ≤ usize_max
few f words most = rw length-map most

pub returns-in-Some : goal.returns-in-Some
returns-in-Some c =
    let given = rw c.in-Some.is at c.in_ok-found.ensures in
    accepted_of (clean_reads _ (few string_bytes _ c.note_count.ensures)) _ c.in_ok-command.ensures c.requires (found_of c.in-Some._matches) given.0 given.1 ∙ ap (nat_lt 0) (length-map c.args.words.now string_bytes)

pub returns-in-None : goal.returns-in-None
returns-in-None c =
    let given = rw c.in-None.is at c.in_ok-found.ensures in
    rejected_of (clean_reads _ (few string_bytes _ c.note_count.ensures)) _ c.in_ok-command.ensures c.requires given ∙ ap (nat_lt 0) (length-map c.args.words.now string_bytes)
