-- The file record of a hash in what is pending and in the registered shards.
use Rattle.std.specs.Prelude.{◌≡◌, ℕ, List, [], ◌∷◌, map, flat_map, Option, Some, None, is_some, option_map, Result, Ok, if◌then◌else◌}
use Rattle.std.specs.Cmp.Lexicographic.{pointwise}
use Rattle.std.specs.Prelude.{nat_eq}
use Rattle.std.specs.List.{slice_get}
use Rattle.xet_codec.specs.Parsing.{◌>>=◌}
use Rattle.xet_hash.specs.Hash.{zero_hash}
use Rattle.xet_hash.specs.declared.error.StoreError.{StoreError}
use Rattle.xet_io.specs.Disk.{Files, bytes_at, file_at}
use Rattle.xet_shard.specs.Held.{Held, record_of}
use Rattle.xet_shard.specs.Queries.{file_in_shard, found_file}
use Rattle.xet_shard_directory.specs.declared.shard_file.MDBShardFile.{MDBShardFile}
use Rattle.xet_shard_format.specs.Records.{file_record_hash}
use Rattle.xet_shard_format.specs.declared.record.MDBFileInfo.{MDBFileInfo}
use Rattle.xet_shard_lookup.specs.Found.{shard_of}
use Rattle.xet_shard_registry.specs.Registered.{Registered, collection, keys_of}

-- a record, and the hash of the registered shard that has it, if it is one
abbrev pub Answer : Type 0
Answer = MDBFileInfo × Option (List ℕ)

-- the record of a zero hash: it has no segments
abbrev pub no_record : MDBFileInfo
no_record = record { metadata = record { file_hash = zero_hash; file_flags = 0; num_entries = 0 }; segments = []; verification = []; metadata_ext = None }

-- the record of a hash in a registered shard; none if its file is gone
abbrev pub record_in : Files → List ℕ → Registered → Result (Option MDBFileInfo) StoreError
record_in files h s = if is_some (file_at files s.file.path) then file_in_shard (shard_of s) h else Ok None

-- the same with the hash of the shard
abbrev pub answer_of : Files → List ℕ → Registered → Result (Option Answer) StoreError
answer_of files h s = record_in files h s >>= λ found. Ok (option_map (λ f. (f, Some s.file.shard_hash)) found)

-- the first that is an error or a record
unfoldable pub first_answer : List (Result (Option Answer) StoreError) → Result (Option Answer) StoreError
first_answer [] = Ok None
first_answer (Ok None ∷ rs) = first_answer rs
first_answer (r ∷ rs) = r

-- What is pending is asked first, and then the registered shards in order of registration, those of one key after those
-- of another. A zero hash is not looked up.
abbrev pub found_record : Files → Held → List Registered → List ℕ → Result (Option Answer) StoreError
found_record files pending shards h =
    if pointwise nat_eq h zero_hash then Ok (Some (no_record, None))
    else first_answer (Ok (option_map (λ f. (f, None)) (record_of file_record_hash h pending.files)) ∷ flat_map (λ key. map (answer_of files h) (collection key shards)) (keys_of shards))

-- ---- a record is never one that is not there

-- One of these shard files has this hash and the record.
pub record IsRecordOfFile (files : Files) (ss : List MDBShardFile) (h hash : List ℕ) (found : MDBFileInfo) : Type 0 where
  pub number : ℕ
  pub file : MDBShardFile
  pub is_file : slice_get ss number ≡ Some file
  pub hash_is : file.shard_hash ≡ hash
  pub bytes : List ℕ
  pub there : bytes_at files file.path ≡ Some bytes
  pub index : ℕ
  pub read : found_file file.shard.metadata h index bytes ≡ Ok (Some found)

-- Where it came from has the record: what is pending, or one of these shard files.
abbrev pub IsRecorded : Files → Held → List MDBShardFile → List ℕ → Option Answer → Type 0
IsRecorded files pending ss h None = Unit {0}
IsRecorded files pending ss h (Some (found, None)) = (if pointwise nat_eq h zero_hash then Some no_record else record_of file_record_hash h pending.files) ≡ Some found
IsRecorded files pending ss h (Some (found, Some hash)) = IsRecordOfFile files ss h hash found
