-- The arguments of `pack` that a parse of words without a hyphen at their beginning gives.
use Rattle.std.proofs.Common.{◌≡◌, refl, false, List, [], ◌∷◌, Option, None, codes}
use Rattle.std.specs.List.{list_any}
use Rattle.clap.specs.Words.{App, Row, Text, first_of, IsAmong}
use Rattle.clap.specs.Walk.{finished}
use Rattle.clap.specs.Faults.{defaults_fault}
use Rattle.clap.specs.declared.parser.matches.ArgMatches.{ArgMatches}
use Rattle.clap.specs.declared.error.kind.ErrorKind.{ErrorKind}
use Rattle.xet_arguments.specs.Arguments.{is_option, two_or_three_of}
use Rattle.xet_arguments.specs.internal.Commands.{both_with, pack_app, value_of}
use Rattle.xet_arguments.proofs.Plain.{plain_end, plain_level}
use Rattle.xet_arguments.proofs.Parses.{Parses, Reads, read_of, shape_of, value_of-rows}

abbrev values_in : List Row → Option (Text × Text × Option Text)
values_in rows = both_with (first_of (codes "target") rows) (first_of (codes "gear") rows) (first_of (codes "workers") rows)

accepted : (words : List Text) → plain_level (shape_of pack_app) words ≡ [] → values_in (finished (shape_of pack_app).rules (plain_end (shape_of pack_app) words)) ≡ two_or_three_of words
unfolding defaults_fault
accepted [] e = refl
accepted (a ∷ []) e = refl
accepted (a ∷ b ∷ []) e = refl
accepted (a ∷ b ∷ c ∷ []) e = refl
accepted (a ∷ b ∷ c ∷ d ∷ rest) e = cc

rejected : (words : List Text) (k : ErrorKind) → IsAmong k (plain_level (shape_of pack_app) words) → None ≡ two_or_three_of words
unfolding defaults_fault
rejected [] k h = refl
rejected (a ∷ []) k h = refl
rejected (a ∷ b ∷ []) k h = absurd h
rejected (a ∷ b ∷ c ∷ []) k h = absurd h
rejected (a ∷ b ∷ c ∷ d ∷ rest) k h = refl

reads : (words : List Text) → Reads pack_app words values_in None (two_or_three_of words)
reads words = record { alone_is = refl; all_are_arguments = refl; accepted = accepted words; rejected = rejected words }

pub pack_read : (a : App) (found : Option ArgMatches) (words : List Text) → a ≡ pack_app → list_any is_option words ≡ false → Parses a words found
    → both_with (value_of found (codes "target")) (value_of found (codes "gear")) (value_of found (codes "workers")) ≡ two_or_three_of words
pack_read a found words is plain parses =
    simp (value_of-rows found) (read_of (reads words) a found is plain parses)
