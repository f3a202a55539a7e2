-- What a command without subcommands reads of words without a hyphen at their beginning.
use Rattle.std.proofs.Common.{◌≡◌, ◌∙◌, ap, ap₂, subst, sym, refl, false, List, [], Option, Some, None}
use Rattle.std.specs.Prelude.{MatchOption}
use Rattle.std.specs.List.{list_any}
use Rattle.clap.specs.Words.{App, Row, Text, first_of, fault_of, found_of, matches_of, rows_of, IsAmong}
use Rattle.clap.specs.Simple.{Shape, argument_words, built, names_of}
use Rattle.clap.specs.Walk.{finished, nothing_held, rows_after}
use Rattle.clap.specs.Faults.{built_fault}
use Rattle.clap.proofs.WalkLemmas.{first_value-rows}
use Rattle.clap.specs.declared.parser.matches.ArgMatches.{ArgMatches}
use Rattle.clap.specs.declared.parser.matches.Found.{Found}
use Rattle.clap.specs.declared.error.kind.ErrorKind.{ErrorKind}
use Rattle.xet_arguments.specs.Arguments.{is_option}
use Rattle.xet_arguments.specs.internal.Commands.{HasFault, value_of}
use Rattle.xet_arguments.proofs.Plain.{alone, plain_end, plain_fault_of, plain_level, plain_rows}

abbrev pub shape_of : App → Shape
shape_of app = (built app).top

-- the matches of accepted words give the value that is wanted, and rejected words want the value `none`
pub record Reads {A : Type 0} (app : App) (words : List Text) (value : List Row → A) (none wanted : A) : Type 0 where
  pub alone_is : built app ≡ alone (shape_of app)
  pub all_are_arguments : argument_words app words ≡ words
  pub accepted : plain_level (shape_of app) words ≡ [] → value (finished (shape_of app).rules (plain_end (shape_of app) words)) ≡ wanted
  pub rejected : (kind : ErrorKind) → IsAmong kind (plain_level (shape_of app) words) → none ≡ wanted

-- what a parse says of the words
abbrev pub Parses : App → List Text → Option ArgMatches → Type 0
Parses a words found = MatchOption found (HasFault (fault_of a words)) (λ m. (fault_of a words ≡ []) × (rows_of (found_of m) ≡ matches_of a words))

abbrev pub rows_in : Option ArgMatches → List Row
rows_in None = []
rows_in (Some m) = rows_of (found_of m)

pub value_of-rows : (found : Option ArgMatches) (id : Text) → value_of found id ≡ first_of id (rows_in found)
value_of-rows None id = refl
value_of-rows (Some m) id = first_value-rows (found_of m) id

module _ {A : Type 0} {app : App} {words : List Text} {value : List Row → A} {none wanted : A} (reads : Reads app words value none wanted) (a : App) (is : a ≡ app) (plain : list_any is_option words ≡ false) where
  faults : fault_of a words ≡ plain_level (shape_of app) words
  faults = ap (λ x. fault_of x words) is ∙ ap₂ (λ x ws. built_fault x nothing_held ws) reads.alone_is reads.all_are_arguments ∙ plain_fault_of (shape_of app) words plain

  rows : matches_of a words ≡ finished (shape_of app).rules (plain_end (shape_of app) words)
  rows = ap (λ x. matches_of x words) is ∙ ap₂ (λ x ws. rows_after x.top.rules (names_of x) ws) reads.alone_is reads.all_are_arguments ∙ plain_rows (shape_of app) words plain

  -- the matches of a parse that succeeds give what is wanted
  pub accepted_of : (f : Found) → fault_of a words ≡ [] → rows_of f ≡ matches_of a words → value (rows_of f) ≡ wanted
  accepted_of f fits r = ap value (r ∙ rows) ∙ reads.accepted (sym faults ∙ fits)

  -- a parse fails only if nothing is wanted
  pub rejected_of : HasFault (fault_of a words) → none ≡ wanted
  rejected_of h = reads.rejected h.0 (subst (IsAmong h.0) faults h.1)

-- so what is read of the matches, if there are any, is what is wanted
pub read_of : {A : Type 0} {app : App} {words : List Text} {value : List Row → A} {wanted : A} → Reads app words value (value []) wanted
    → (a : App) (found : Option ArgMatches) → a ≡ app → list_any is_option words ≡ false → Parses a words found → value (rows_in found) ≡ wanted
read_of reads a None is plain h = rejected_of reads a is plain h
read_of reads a (Some m) is plain h = accepted_of reads a is plain (found_of m) h.0 h.1
