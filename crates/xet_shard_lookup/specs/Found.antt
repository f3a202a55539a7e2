-- The run of a query in what is pending and in the registered shards.
use Rattle.std.specs.Prelude.{◌≡◌, ◌⊎◌, Ok, ℕ, List, [], ◌∷◌, map, Option, Some, None, All, is_some, option_and_then, if◌then◌else◌}
use Rattle.std.specs.List.{slice_get}
use Rattle.xet_io.specs.Disk.{Files, bytes_at, file_at}
use Rattle.xet_shard.specs.Held.{Held}
use Rattle.xet_shard.specs.Queries.{kept_hash, run_in, shard_run_at}
use Rattle.xet_shard.specs.Runs.{held_run}
use Rattle.xet_shard_format.specs.Encoding.{IsShardEncoding, Shard, footer_of, header, shard}
use Rattle.xet_shard_format.specs.Lookups.{chunk_items}
use Rattle.xet_shard_format.specs.Records.{first_word}
use Rattle.xet_shard_directory.specs.declared.shard_file.MDBShardFile.{MDBShardFile}
use Rattle.xet_shard_format.specs.declared.record.FileDataSequenceEntry.{FileDataSequenceEntry}
use Rattle.xet_shard_index.specs.declared.word_place.WordPlace.{WordPlace}
use Rattle.xet_shard_registry.specs.Registered.{Registered, key_of, keys_of, place_among}

abbrev pub Run : Type 0
Run = ℕ × FileDataSequenceEntry

-- ---- the files of registered shards

-- the shard that a registered one is
abbrev pub shard_of : Registered → Shard
shard_of s = shard s.records.0 s.records.1 (key_of s) s.file.shard.metadata.shard_creation_timestamp s.file.shard.metadata.shard_key_expiry

-- The bytes are a well-formed encoding of the registered shard, its value has their header and footer, and it was
-- registered with the chunk lookup table of its xorbs.
pub record IsEncodingOf (s : Registered) (bytes : List ℕ) : Type 0 where
  pub encoding : IsShardEncoding bytes (shard_of s)
  pub info : s.file.shard ≡ record { header = header; metadata = footer_of encoding.lookups (shard_of s) }
  pub items : s.items ≡ chunk_items s.records.0

-- the file of a registered shard is gone, or encodes it
abbrev pub HoldsFile : Files → Registered → Type 0
HoldsFile files s = (bytes : List ℕ) → bytes_at files s.file.path ≡ Some bytes → IsEncodingOf s bytes

abbrev pub HoldsFiles : Files → List Registered → Type 0
HoldsFiles files shards = All (HoldsFile files) shards

-- ---- the run

-- the run of a query at a place in a shard; none if its file is gone
abbrev pub run_in_file : Files → List (List ℕ) → WordPlace → Registered → Option Run
run_in_file files query p s = if is_some (file_at files s.file.path) then shard_run_at (shard_of s) query p.row p.chunk else None

abbrev pub run_at_place : Files → List Registered → List (List ℕ) → WordPlace → Option Run
run_at_place files shards query p = option_and_then (run_in_file files query p) (slice_get shards p.shard)

-- the run of a query in the shards of a key: at the place of the first word of its first hash
abbrev pub keyed_run : Files → List Registered → List ℕ → List (List ℕ) → List ℕ → Option Run
keyed_run files shards first query key = option_and_then (run_at_place files shards query) (place_among key (first_word (kept_hash key first)) shards)

-- the first that is there
unfoldable pub first_some : {X : Type 0} → List (Option X) → Option X
first_some [] = None
first_some (None ∷ os) = first_some os
first_some (Some x ∷ os) = Some x

-- What is pending is asked first, and then the shards of each key. None for an empty query.
unfoldable pub found : Files → Held → List Registered → List (List ℕ) → Option Run
found files pending shards [] = None
found files pending shards (h ∷ hs) = first_some (held_run pending.blocks (h ∷ hs) ∷ map (keyed_run files shards h (h ∷ hs)) (keys_of shards))

-- A shard file has this run at some place.
pub record IsRunOfFile (files : Files) (ss : List MDBShardFile) (query : List (List ℕ)) (run : Run) : Type 0 where
  pub number : ℕ
  pub file : MDBShardFile
  pub is_file : slice_get ss number ≡ Some file
  pub bytes : List ℕ
  pub there : bytes_at files file.path ≡ Some bytes
  pub row : ℕ
  pub place : ℕ
  pub read : run_in file.shard.metadata query row place bytes ≡ Ok (Some run)

-- The run is one of what is pending, or of one of these shard files.
abbrev pub IsThere : Files → Held → List MDBShardFile → List (List ℕ) → Option Run → Type 0
IsThere files pending ss query None = Unit {0}
IsThere files pending ss query (Some run) = (held_run pending.blocks query ≡ Some run) ⊎ IsRunOfFile files ss query run
