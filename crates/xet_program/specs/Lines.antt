-- The lines of an input, and what they say. A line ends with LF or CR LF; the last LF may be missing.
use Rattle.std.specs.Prelude.{ℕ, zero, suc, ◌^◌, ◌==◌, ◌&&◌, nat_le, Bool, List, [], ◌∷◌, length, take, drop, codes, Option, Some, None, Result, Ok, Err, is_none, is_some, if◌then◌else◌, option_and_then}
use Rattle.std.specs.List.{list_all}
use Rattle.std.specs.Option.{option_map}
use Rattle.std.specs.Str.{bytes_eq}
use Rattle.hex.specs.Hex.{decode_of}
use Rattle.hex.specs.declared.error.FromHexError.{FromHexError}
use Rattle.xet_base.specs.Pieces.{first_of}
use Rattle.xet_folder.specs.Plan.{range}
use Rattle.xet_program.specs.declared.lines.FileRange.{FileRange}
use Rattle.xet_program.specs.Words.{number_of}

pub data Line : Type 0 where
  -- a file with these bytes
  FileLine : (bytes : List ℕ) → Line
  -- a range of the bytes of one of the files
  RangeLine : (range : FileRange) → Line

abbrev pub decoded : Result (List ℕ) FromHexError → Option (List ℕ)
decoded (Ok bytes) = Some bytes
decoded (Err e) = None

-- a file line: `file` followed by nothing, by a space, or by a space and an even number of hexadecimal digits
-- of either case
unfoldable pub file_bytes : List ℕ → Option (List ℕ)
file_bytes line =
    if bytes_eq line (codes "file") then Some []
    else if bytes_eq (take 5 line) (codes "file ") then decoded (decode_of (drop 5 line))
    else None

abbrev pub range_by : Option ℕ → Option ℕ → Option ℕ → Option FileRange
range_by (Some file) (Some from) (Some to) = Some (record { file = file; from = from; to = to })
range_by _ _ _ = None

-- a range line: `range` and three numbers: of the file, of the first byte, and of the byte after the last
abbrev pub range_of : List (List ℕ) → Option FileRange
range_of (name ∷ file ∷ from ∷ to ∷ []) =
    if bytes_eq name (codes "range") then range_by (number_of file) (number_of from) (number_of to) else None
range_of _ = None

-- the words, with one more byte at the start of the first
abbrev pub and_byte : ℕ → List (List ℕ) → List (List ℕ)
and_byte b [] = (b ∷ []) ∷ []
and_byte b (word ∷ words) = (b ∷ word) ∷ words

-- the words of a line, separated by single spaces
unfoldable pub words_of : List ℕ → List (List ℕ)
words_of [] = [] ∷ []
words_of (b ∷ bs) = if b == 32 then [] ∷ words_of bs else and_byte b (words_of bs)

-- what a file line or a range line says; none for other lines
abbrev pub line_of : List ℕ → Option Line
line_of line = elim (file_bytes line) [ Some bytes ↦ Some (FileLine bytes) | None ↦ option_map RangeLine (range_of (words_of line)) ]

abbrev pub with_line : Option Line → Option (List Line) → Option (List Line)
with_line None more = None
with_line (Some line) None = None
with_line (Some line) (Some more) = Some (line ∷ more)

-- what the lines that are not empty say; none if one of them is neither a file line nor a range line
unfoldable pub said : List (List ℕ) → Option (List Line)
said [] = Some []
said ([] ∷ lines) = said lines
said ((b ∷ bs) ∷ lines) = with_line (line_of (b ∷ bs)) (said lines)

-- the bytes of each file line, in order
abbrev pub files_of : List Line → List (List ℕ)
files_of [] = []
files_of (FileLine bytes ∷ lines) = bytes ∷ files_of lines
files_of (RangeLine range ∷ lines) = files_of lines

-- the range of each range line, in order
abbrev pub ranges_of : List Line → List FileRange
ranges_of [] = []
ranges_of (FileLine bytes ∷ lines) = ranges_of lines
ranges_of (RangeLine range ∷ lines) = range ∷ ranges_of lines

-- the maximum number of file lines
abbrev pub max_files : ℕ
max_files = 2 ^ 20

abbrev pub limited : List Line → Option (List Line)
limited lines = if nat_le (length (files_of lines)) max_files then Some lines else None

-- what the lines of an input say, if all are good: each that is not empty is a file line or a range line, and
-- there are not too many file lines
abbrev pub good_lines : List (List ℕ) → Option (List Line)
good_lines lines = option_and_then limited (said lines)

-- whether the first n lines are not all good
abbrev pub is_bad_at : List (List ℕ) → ℕ → Bool
is_bad_at lines n = is_none (good_lines (take n lines))

-- the number, from 1, of the first bad line: the minimum number of first lines that are not all good
unfoldable pub first_bad : List (List ℕ) → Option ℕ
first_bad lines = first_of (is_bad_at lines) 1 (length lines)

-- the file with this number, counted from 1
abbrev pub numbered : List (List ℕ) → ℕ → Option (List ℕ)
numbered [] n = None
numbered (file ∷ files) zero = None
numbered (file ∷ files) (suc zero) = Some file
numbered (file ∷ files) (suc (suc n)) = numbered files (suc n)

abbrev pub bytes_in : ℕ → ℕ → List ℕ → Option (List ℕ)
bytes_in from to bytes = if nat_le from to && nat_le to (length bytes) then Some (range bytes from to) else None

-- The bytes of a range of these files; none if no file has its number, if it is reversed, or if it passes the
-- file's end.
unfoldable pub range_bytes : List (List ℕ) → FileRange → Option (List ℕ)
range_bytes files r = option_and_then (bytes_in r.from r.to) (numbered files r.file)

-- whether each range line names bytes of the file lines
abbrev pub are_ranges : List Line → Bool
are_ranges lines = list_all (λ r. is_some (range_bytes (files_of lines) r)) (ranges_of lines)
