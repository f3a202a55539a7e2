-- The two arguments that a parse of words without a hyphen at their beginning gives.
use Rattle.std.proofs.Common.{◌≡◌, ◌∙◌, ap₂, false, List, Option, None}
use Rattle.std.specs.List.{list_any}
use Rattle.clap.specs.Words.{App, Row, Text, first_of}
use Rattle.clap.specs.declared.parser.matches.ArgMatches.{ArgMatches}
use Rattle.xet_arguments.specs.Arguments.{is_option, two_of}
use Rattle.xet_arguments.specs.internal.Commands.{both, value_of}
use Rattle.xet_arguments.proofs.Parses.{Parses, Reads, read_of, value_of-rows}

-- the values of two arguments
abbrev pub values_in : Text → Text → List Row → Option (Text × Text)
values_in first second rows = both (first_of first rows) (first_of second rows)

-- A command reads two words as these arguments.
abbrev pub ReadsTwo : App → Text → Text → Type 0
ReadsTwo app first second = (words : List Text) → Reads app words (values_in first second) None (two_of words)

pub two_read : {app : App} {first second : Text} → ReadsTwo app first second
    → (a : App) (found : Option ArgMatches) (words : List Text) → a ≡ app → list_any is_option words ≡ false → Parses a words found
    → both (value_of found first) (value_of found second) ≡ two_of words
two_read {first = first} {second = second} reads a found words is plain parses =
    ap₂ both (value_of-rows found first) (value_of-rows found second) ∙ read_of (reads words) a found is plain parses
