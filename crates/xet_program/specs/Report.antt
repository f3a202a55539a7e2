-- The report of files that were stored: a line for each, and the bytes of ranges of them.
use Rattle.std.specs.Prelude.{◌≡◌, ℕ, List, [], ◌∷◌, ◌++◌, length, unwrap_or}
use Rattle.std.specs.List.{flat_map}
use Rattle.std.specs.Fmt.{decimal}
use Rattle.hex.specs.Hex.{encode_lower}
use Rattle.sha2.specs.Sha256.{sha256}
use Rattle.xet_hash.specs.Hash.{hash_text}
use Rattle.xet_hash.specs.Merkle.{file_hash, leaves_of}
use Rattle.xet_cut.specs.declared.limits.LimitSettings.{LimitSettings}
use Rattle.xet_cut.specs.Chunking.{chunking}
use Rattle.xet_program.specs.Lines.{Line, files_of, range_bytes, ranges_of}

-- the file hash of these bytes, which is that of their chunks
abbrev pub hash_of_file : LimitSettings → List ℕ → List ℕ
hash_of_file s bytes = file_hash (leaves_of (chunking s bytes))

-- the line of a file: the text form of its hash, its length in decimal and its SHA-256 (FIPS 180-4) in
-- hexadecimal, separated by spaces, and LF
unfoldable pub file_line : LimitSettings → List ℕ → List ℕ
file_line s bytes =
    hash_text (hash_of_file s bytes) ++ 32 ∷ decimal (length bytes) ++ 32 ∷ encode_lower (sha256 bytes) ++ 10 ∷ []

-- the line of each file line, in order
unfoldable pub file_report : LimitSettings → List Line → List ℕ
file_report s lines = flat_map (file_line s) (files_of lines)

-- the line of some bytes: hexadecimal, and LF
abbrev pub bytes_line : List ℕ → List ℕ
bytes_line bytes = encode_lower bytes ++ 10 ∷ []

-- the line of the bytes of each range line, in order
unfoldable pub range_report : List Line → List ℕ
range_report lines = flat_map (λ r. bytes_line (unwrap_or (range_bytes (files_of lines) r) [])) (ranges_of lines)

-- The report: the line of each file line, then a line for each range line. The bytes of ranges are read from
-- the store. They are the file's if there are no collisions among the data seen (Separates).
pub record IsReport (Separates : Type 0) (s : LimitSettings) (lines : List Line) (text : List ℕ) : Type 0 where
  pub ranges : List ℕ
  pub is : text ≡ file_report s lines ++ ranges
  pub exact : Separates → ranges ≡ range_report lines
  pub none : ranges_of lines ≡ [] → ranges ≡ []
