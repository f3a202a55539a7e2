-- The outcome of a run, and what is due before a store is opened.
use Rattle.std.specs.Prelude.{◌≡◌, ◌⊎◌, ℕ, ◌^◌, nat_lt, true, false, List, [], ◌∷◌, ◌++◌, length, codes, Option, Some, None, unwrap_or, if◌then◌else◌}
use Rattle.std.specs.Str.Lines.{lines}
use Rattle.std.specs.Fmt.{decimal}
use Rattle.xet_group.specs.Groups.{grouped}
use Rattle.xet_program.specs.Words.{Command}
use Rattle.xet_program.specs.Words.Command.{Pack, Group}
use Rattle.xet_program.specs.Lines.{Line, are_ranges, first_bad, good_lines}

-- the status, and the text that is printed
pub record Outcome : Type 0 where
  pub status : ℕ
  pub text : List ℕ

abbrev pub outcome : ℕ → List ℕ → Outcome
outcome status text = record { status = status; text = text }

-- the maximum length of an input, in bytes
abbrev pub max_input : ℕ
max_input = 2 ^ 31

abbrev pub bad_line_text : ℕ → List ℕ
bad_line_text n = codes "bad line " ++ decimal n ++ 10 ∷ []

-- what the lines say, if they are good
abbrev pub lines_said : List (List ℕ) → List Line
lines_said ls = unwrap_or (good_lines ls) []

abbrev pub by_ranges : List Line → Option Outcome
by_ranges lines = if are_ranges lines then None else Some (outcome 8 [])

abbrev pub by_lines : Option ℕ → List Line → Option Outcome
by_lines None lines = by_ranges lines
by_lines (Some n) lines = Some (outcome 3 (bad_line_text n))

-- What is due for `pack` before the store is opened, if anything: the input is too long, has a bad line, or has a
-- range line that names no bytes of the file lines.
unfoldable pub pack_early : List ℕ → Option Outcome
pack_early input =
    elim (nat_lt max_input (length input)) [ true ↦ Some (outcome 9 []) | false ↦ by_lines (first_bad (lines input)) (lines_said (lines input)) ]

-- What is due for `group`, which opens no store: the bytes of the input in four groups, unless it is too long.
unfoldable pub group_outcome : List ℕ → Outcome
group_outcome input = if nat_lt max_input (length input) then outcome 9 [] else outcome 0 (grouped input)

-- what is due before the store is opened, if anything
abbrev pub early_outcome : Option Command → List ℕ → Option Outcome
early_outcome None input = Some (outcome 2 [])
early_outcome (Some (Pack s workers)) input = pack_early input
early_outcome (Some Group) input = Some (group_outcome input)
early_outcome (Some _) input = None

-- how a run of a command may end before its store is opened, whatever its input
abbrev pub IsEarly : Option Command → Outcome → Type 0
IsEarly None o = o ≡ outcome 2 []
IsEarly (Some (Pack s workers)) o = (o ≡ outcome 8 []) ⊎ (o ≡ outcome 9 []) ⊎ ((n : ℕ) × (o ≡ outcome 3 (bad_line_text n)))
IsEarly (Some Group) o = (input : List ℕ) × (o ≡ group_outcome input)
IsEarly (Some _) o = ⊥
