-- What a parse of words without a hyphen at their beginning gives for a command without arguments.
use Rattle.std.proofs.Common.{◌≡◌, ◌==◌, sym, true, false, refl, List, [], ◌∷◌, length, codes, arith}
use Rattle.std.proofs.lemmas.Bool.Decides.{nat_tests}
use Rattle.clap.specs.Words.{App, Text, IsAmong}
use Rattle.clap.specs.Simple.{Shape}
use Rattle.clap.specs.Faults.{defaults_fault}
use Rattle.clap.specs.declared.error.kind.ErrorKind.{ErrorKind}
use Rattle.xet_arguments.specs.internal.Commands.{bare}
use Rattle.xet_arguments.proofs.Plain.{plain_level}
use Rattle.xet_arguments.proofs.Parses.{Reads, shape_of}

abbrev list_app : App
list_app = bare (codes "list")

abbrev list_shape : Shape
list_shape = shape_of list_app

accepted : (words : List Text) → plain_level list_shape words ≡ [] → true ≡ (length words == 0)
unfolding defaults_fault
accepted [] e = refl
accepted (word ∷ words) e = cc

rejected : (words : List Text) (k : ErrorKind) → IsAmong k (plain_level list_shape words) → false ≡ (length words == 0)
unfolding defaults_fault
rejected [] k h = absurd h
rejected (word ∷ words) k h =
    let some : (length (word ∷ words) == 0) ≡ false = grind (arith, nat_tests) in sym some

pub alone_reads : (words : List Text) → Reads list_app words (λ _. true) false (length words == 0)
alone_reads words = record { alone_is = refl; all_are_arguments = refl; accepted = accepted words; rejected = rejected words }
