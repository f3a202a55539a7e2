-- `make`: a generated file and the same file with one byte inserted, and what is printed of them.
use Rattle.std.specs.Prelude.{◌≡◌, ℕ, ◌+◌, ◌/◌, ◌≤◌, Bool, true, List, [], ◌∷◌, ◌++◌, length, take, drop, codes, IsSome}
use Rattle.std.specs.Fmt.{decimal}
use Rattle.std.specs.List.{AllByRecursion, sum_by}
use Rattle.xet_io.specs.Disk.{Files}
use Rattle.xet_hash.specs.Merkle.{file_hash, leaves_of}
use Rattle.xet_cut.specs.Chunking.{chunking}
use Rattle.xet_cut.specs.Generator.{generated}
use Rattle.xet_folder.specs.Stored.{IsStored}
use Rattle.xet_folder.specs.Xorbs.{AreBacked, Xorbs, found}
use Rattle.xet_folder.specs.declared.contents.Contents.{Contents}
use Rattle.xet_store_disk.specs.Separate.{Among}
use Rattle.xet_store_disk.specs.Store.{Differ}
use Rattle.xet_program.specs.Report.{hash_of_file}
use Rattle.xet_program.specs.Tasks.{default_limits, store_folder}

-- the bytes with one zero byte inserted at half their length
abbrev pub with_byte_inserted : List ℕ → List ℕ
with_byte_inserted bytes = take (length bytes / 2) bytes ++ 0 ∷ drop (length bytes / 2) bytes

-- the files that are stored, in order
abbrev pub both_files : List ℕ → List (List ℕ)
both_files bytes = bytes ∷ with_byte_inserted bytes ∷ []

-- those of a seed and a length
abbrev pub made_files : ℕ → ℕ → List (List ℕ)
made_files seed bytes = both_files (generated seed bytes)

-- ---- what is printed

-- the line of a file: the number of its chunks, the number of those that were new, and LF
abbrev pub chunks_line : ℕ → ℕ → List ℕ
chunks_line chunks new = decimal chunks ++ 32 ∷ decimal new ++ 10 ∷ []

-- the number of chunks of a file
abbrev pub chunk_count : List ℕ → ℕ
chunk_count bytes = length (chunking default_limits bytes)

-- the line of the number of xorbs
abbrev pub xorbs_line : ℕ → List ℕ
xorbs_line xorbs = codes "xorbs " ++ decimal xorbs ++ 10 ∷ []

-- the lines of both files, so many chunks of each new, and of the number of xorbs
unfoldable pub made_text : List ℕ → ℕ → ℕ → ℕ → List ℕ
made_text bytes first second xorbs =
    chunks_line (chunk_count bytes) first ++ chunks_line (chunk_count (with_byte_inserted bytes)) second ++ xorbs_line xorbs

-- ---- what is stored

-- One of these xorbs is stored in the folder and has the chunk.
abbrev pub HasChunk : Files → Xorbs → List ℕ → Type 0
HasChunk disk xorbs b =
    (h : List ℕ) × (chunks : List (List ℕ)) × IsSome (found xorbs h) × IsStored disk store_folder h chunks × Among chunks b

-- Chunks of these xorbs have the hash of the file. If that is no collision, each chunk of the file is stored.
pub record HasChunks (disk : Files) (xorbs : Xorbs) (bytes : List ℕ) : Type 0 where
  pub chunks : List (List ℕ)
  pub stored : AllByRecursion (HasChunk disk xorbs) chunks
  pub hash : file_hash (leaves_of chunks) ≡ hash_of_file default_limits bytes
  pub each : (file_hash (leaves_of chunks) ≡ hash_of_file default_limits bytes → chunks ≡ chunking default_limits bytes)
      → AllByRecursion (HasChunk disk xorbs) (chunking default_limits bytes)

-- The xorbs that the valid shards of the folder name, by these contents, and others that were added, which have so many
-- chunks at most. No two have the same hash. If the disk is observable, each is stored with its chunks.
pub record AreXorbs (tells : Bool) (contents : Contents) (disk : Files) (new : ℕ) (xorbs : Xorbs) : Type 0 where
  pub added : Xorbs
  pub is : xorbs ≡ contents.xorbs ++ added
  pub few : sum_by (λ xorb. length xorb.1) added ≤ new
  pub differ : Differ xorbs
  pub backed : tells ≡ true → AreBacked disk store_folder xorbs

-- The text for a file of these bytes, with a number of new chunks for it and one for the other file, each no greater than that
-- of all its chunks. The xorbs that were added have together no more chunks than were new. If the disk is observable, the chunks
-- of both files are in the xorbs that are counted.
pub record IsMadeText (tells : Bool) (contents : Contents) (disk : Files) (bytes : List ℕ) (text : List ℕ) : Type 0 where
  pub first : ℕ
  pub second : ℕ
  pub xorbs : Xorbs
  pub is : text ≡ made_text bytes first second (length xorbs)
  pub few : (first ≤ chunk_count bytes) × (second ≤ chunk_count (with_byte_inserted bytes))
  pub listed : AreXorbs tells contents disk (first + second) xorbs
  pub stored : tells ≡ true → AllByRecursion (HasChunks disk xorbs) (both_files bytes)
