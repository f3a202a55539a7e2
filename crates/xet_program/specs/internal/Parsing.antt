-- What lines say, also one more at a time: the files and the ranges, each in order, for private functions.
use Rattle.std.specs.Prelude.{◌≡◌, ℕ, nat_lt, Bool, List, [], ◌∷◌, ◌++◌, length, Option, Some, None, is_some, if◌then◌else◌}
use Rattle.std.specs.List.{list_all}
use Rattle.std.specs.Str.Lines.{lines}
use Rattle.xet_program.specs.declared.lines.FileRange.{FileRange}
use Rattle.xet_program.specs.Lines.{Line, files_of, good_lines, line_of, max_files, range_bytes, ranges_of}
use Rattle.xet_program.specs.Lines.Line.{FileLine, RangeLine}
use Rattle.xet_program.specs.Early.{lines_said, pack_early}

pub record Said : Type 0 where
  pub files : List (List ℕ)
  pub ranges : List FileRange

abbrev pub parted : List Line → Said
parted lines = record { files = files_of lines; ranges = ranges_of lines }

-- P holds of all lists of lines that say this
abbrev pub ForLines : Said → (List Line → Type 0) → Type 0
ForLines said P = (lines : List Line) → parted lines ≡ said → P lines

-- whether each range names bytes of the files
abbrev pub are_good : Said → Bool
are_good said = list_all (λ r. is_some (range_bytes said.files r)) said.ranges

-- What an input says whose lines and ranges are good.
pub record IsSaid (input : List ℕ) (said : Said) : Type 0 where
  pub fine : pack_early input ≡ None
  pub good : good_lines (lines input) ≡ Some (lines_said (lines input))
  pub parts : parted (lines_said (lines input)) ≡ said

abbrev pub and_file : Said → List ℕ → Option Said
and_file said bytes =
    if nat_lt (length said.files) max_files then Some (record { files = said.files ++ bytes ∷ []; ranges = said.ranges }) else None

abbrev pub and_line : Said → Option Line → Option Said
and_line said None = None
and_line said (Some (FileLine bytes)) = and_file said bytes
and_line said (Some (RangeLine range)) = Some (record { files = said.files; ranges = said.ranges ++ range ∷ [] })

-- what good lines say with one line more; none if that is bad
abbrev pub with_next : Said → List ℕ → Option Said
with_next said [] = Some said
with_next said (b ∷ bs) = and_line said (line_of (b ∷ bs))
