-- What a command does to the files of its disk.
use Rattle.std.specs.Prelude.{◌≡◌, ◌≢◌, ◌⊎◌, ℕ, ◌<◌, ◌≤◌, ◌^◌, true, false, List, [], map, Any, Option, Some, None, IfSome}
use Rattle.xet_io.specs.Disk.{entry_at as get}
use Rattle.std.specs.List.{AllByRecursion, IsAmong}
use Rattle.xet_io.specs.Disk.{Files}
use Rattle.sha2.specs.Sha256.{sha256}
use Rattle.xet_hash.specs.Merkle.{leaves_of}
use Rattle.xet_cut.specs.declared.limits.LimitSettings.{LimitSettings}
use Rattle.xet_cut.specs.Chunking.{chunking}
use Rattle.xet_store_disk.specs.Cleaning.{HasShard, HasXorb, IsDurable, SameEntry}
use Rattle.xet_store_disk.specs.Separate.{IsNamed, SeparateIn}
use Rattle.xet_dedup.specs.Records.{file_record}
use Rattle.xet_folder.specs.Admission.{Admits}
use Rattle.xet_folder.specs.Contents.{HasTooMany}
use Rattle.xet_folder.specs.Listed.{ResolvesTo, Lists}
use Rattle.xet_shard_file.specs.Names.{IsHash, shard_path, temp_name}
use Rattle.xet_folder.specs.Names.{IsForeign, xorb_path}
use Rattle.xet_shard_file.specs.Shards.{IsThere, ShardFile, is_expired}
use Rattle.xet_shard_format.specs.declared.record.FileDataSequenceEntry.{FileDataSequenceEntry as Segment}
use Rattle.xet_shard_format.specs.declared.record.MDBFileInfo.{MDBFileInfo}
use Rattle.xet_shard_format.specs.Records.{file_record_hash}
use Rattle.xet_program.specs.Words.{Command}
use Rattle.xet_program.specs.Start.{LacksName, Observes, Start}
use Rattle.xet_program.specs.Early.{early_outcome}
use Rattle.xet_program.specs.Tasks.{IsIdle, files_to_store, limits_of, store_folder}
use Rattle.xet_program.specs.Reasons.{IsMalformed}
use Rattle.xet_program.specs.Report.{hash_of_file}

-- The folder lists a record of the file of these bytes, under its hash, and the plan resolves to its chunks.
pub record IsRecorded (s : LimitSettings) (files : Files) (now : ℕ) (bytes : List ℕ) : Type 0 where
  pub record_of_it : MDBFileInfo
  pub lists : Lists files store_folder now record_of_it
  pub hash : file_record_hash record_of_it ≡ hash_of_file s bytes
  pub resolves : ResolvesTo files store_folder record_of_it (chunking s bytes)

-- If there are no collisions among the data seen in the folder and in these files, each file that is not
-- empty is recorded.
abbrev pub Records : LimitSettings → List (List ℕ) → ℕ → Files → Type 0
Records s stored now files =
    SeparateIn files store_folder now (map (chunking s) stored)
    → AllByRecursion (λ bytes. bytes ≢ [] → IsRecorded s files now bytes) stored

-- At a time the folder lists a record with this hash.
abbrev pub ListsHash : Files → ℕ → List ℕ → Type 0
ListsHash files now h = (f : MDBFileInfo) × Lists files store_folder now f × (file_record_hash f ≡ h)

-- At every time below 2 ^ 64 the folder lists a record that is made of the file of these bytes: over some plan, its
-- range hashes and its SHA-256.
abbrev pub ListsMade : LimitSettings → Files → List ℕ → Type 0
ListsMade s files bytes =
    (segments : List Segment) × ((time : ℕ) → time < 2 ^ 64 → Lists files store_folder time (file_record (leaves_of (chunking s bytes)) segments (Some (sha256 bytes))))

-- Each of these files that is not empty, and whose hash had no record listed at `now`, has one that is listed
-- at every time below 2 ^ 64, and that was made of it or of one of these files with the same hash.
abbrev pub Makes : LimitSettings → List (List ℕ) → ℕ → Files → Files → Type 0
Makes s stored now old new =
    AllByRecursion (λ bytes. bytes ≢ [] → (ListsHash old now (hash_of_file s bytes) → ⊥)
    → (made : List ℕ) × IsAmong stored made × (hash_of_file s made ≡ hash_of_file s bytes) × ListsMade s new made) stored

-- What the folder lists newly at a time is of these files: each hash that it lists was listed before, or is that of one of them that
-- is not empty.
abbrev pub ListsOnly : LimitSettings → List (List ℕ) → ℕ → Files → Files → Type 0
ListsOnly s stored now old new =
    (h : List ℕ) → ListsHash new now h → ListsHash old now h ⊎ Any (λ bytes. (bytes ≢ []) × (h ≡ hash_of_file s bytes)) stored

-- No temporary file is left: under each temporary name is what was there before, or nothing.
abbrev pub LeavesNone : Files → Files → Type 0
LeavesNone old new = (name : List ℕ) → SameEntry old new (temp_name name) ⊎ (get new (temp_name name) ≡ None)

-- Files were stored in the folder of a disk: each is recorded, and the records of those that were new to the folder are
-- made of them. No other file is listed newly, and no temporary file is left.
pub record AreStored (s : LimitSettings) (stored : List (List ℕ)) (now : ℕ) (old new : Files) : Type 0 where
  pub recorded : Records s stored now new
  pub made : Makes s stored now old new
  pub only : ListsOnly s stored now old new
  pub tidy : LeavesNone old new

-- Each file that is listed before, at `now` or later, is listed after for that time, with the same chunks.
pub record KeepsListed (now : ℕ) (old new : Files) : Type 0 where
  pub listed : (later : ℕ) → now ≤ later → (f : MDBFileInfo) → Lists old store_folder later f → Lists new store_folder later f
  pub resolves : (later : ℕ) → now ≤ later → (f : MDBFileInfo) → Lists old store_folder later f → (chunks : List (List ℕ)) → ResolvesTo old store_folder f chunks → ResolvesTo new store_folder f chunks

-- The store's folder on a disk with these files is valid at a time.
abbrev pub IsAdmittedAt : ℕ → Files → Type 0
IsAdmittedAt now files = (shards : List ShardFile) × Admits files store_folder now shards

-- The file under the name of a xorb or of a shard is as it was; or it is a xorb of that hash, or a
-- well-formed shard with that digest, and durable. The files of shards that are unexpired at a time, and of
-- the xorbs that they name, are as they were, and each xorb that is named newly is durable. A folder that was
-- valid then still is.
pub record KeepsFolder (now : ℕ) (old new : Files) : Type 0 where
  pub xorbs : (h : List ℕ) → IsHash h → SameEntry old new (xorb_path store_folder h) ⊎ HasXorb new store_folder h
  pub shards : (h : List ℕ) → IsHash h → SameEntry old new (shard_path store_folder h) ⊎ HasShard new store_folder h
  pub valid : (shard : ShardFile) → IsThere old store_folder shard → is_expired now shard.file.bytes ≡ false → SameEntry old new (shard_path store_folder shard.hash)
  pub named : (h : List ℕ) → IsNamed old store_folder now h → SameEntry old new (xorb_path store_folder h)
  pub newly : (h : List ℕ) → IsNamed new store_folder now h → IsNamed old store_folder now h ⊎ IsDurable new (xorb_path store_folder h)
  pub admitted : IsAdmittedAt now old → IsAdmittedAt now new

-- What the run of a command does to the files of its disk, by the status with which it ends: what status 0
-- promises, what is kept whatever the status, and when no file has changed: if an outcome is due before the store is
-- opened, if the folder is not valid or has too many shards, if a name is absent, and by the status.
pub record Works (command : Option Command) (start : Start) (new : Files) (status : ℕ) : Type 0 where
  pub stored : Observes start command → start.tells ≡ true → status ≡ 0 → IfSome command (λ c. AreStored (limits_of c) (files_to_store c start) start.now start.files new)
  pub listed : start.tells ≡ true → KeepsListed start.now start.files new
  pub keeps : start.tells ≡ true → KeepsFolder start.now start.files new
  pub untouched : Observes start command → start.tells ≡ true → early_outcome command start.input ≢ None → new ≡ start.files
  pub refused : start.tells ≡ true → (IsAdmittedAt start.now start.files → ⊥) → new ≡ start.files
  pub overfull : start.tells ≡ true → HasTooMany start.files store_folder start.now → new ≡ start.files
  pub absent : start.inputs_tell ≡ true → start.tells ≡ true → LacksName command start → new ≡ start.files
  pub kept : start.tells ≡ true → IsIdle command status → new ≡ start.files
  pub foreign : start.tells ≡ true → (name : List ℕ) → IsForeign store_folder name → get new name ≡ get start.files name
  pub malformed : status ≡ 10 → IsMalformed command start new
