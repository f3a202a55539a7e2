-- Cleaning: what it returns, what it adds to a session, and what it keeps.
use Rattle.std.specs.Prelude.{◌≡◌, ◌⊎◌, ℕ, zero, suc, ◌<◌, ◌≤◌, Bool, true, List, [], ◌∷◌, ◌++◌, drop, length, map, Some, None, IsSome}
use Rattle.xet_io.specs.Disk.{entry_at as get}
use Rattle.std.specs.List.{AllByRecursion}
use Rattle.std.specs.Option.{option_map}
use Rattle.sha2.specs.Sha256.{sha256}
use Rattle.xet_io.specs.Disk.{File, Files, file_at}
use Rattle.xet_io.specs.Entries.{Entries}
use Rattle.xet_io.specs.Images.{Passes}
use Rattle.xet_io.specs.Faults.{Rose}
use Rattle.xet_hash.specs.declared.error.StoreError.{StoreError}
use Rattle.xet_hash.specs.declared.error.StoreError.TheVariants.{Io, TooLarge}
use Rattle.xet_hash.specs.declared.error.Place.TheVariants.{Source}
use Rattle.xet_hash.specs.declared.error.What.TheVariants as what
use Rattle.xet_hash.specs.Merkle.{file_hash, leaves_of}
use Rattle.xet_cut.specs.declared.limits.LimitSettings.{LimitSettings}
use Rattle.xet_shard_format.specs.declared.record.FileDataSequenceEntry.{FileDataSequenceEntry as Segment}
use Rattle.xet_store_disk.specs.declared.info.XetFileInfo.{XetFileInfo}
use Rattle.xet_cut.specs.Chunking.{chunking}
use Rattle.xet_folder.specs.Admission.{ShardHolds}
use Rattle.xet_folder.specs.Checks.{OfBytes}
use Rattle.xet_folder.specs.Names.{IsForeign, xorb_path}
use Rattle.xet_shard_file.specs.Names.{IsHash, shard_path}
use Rattle.xet_folder.specs.Plan.{Resolves}
use Rattle.xet_folder.specs.Stored.{IsStored}
use Rattle.xet_folder.specs.Xorbs.{IsListed, FileRecords, found}
use Rattle.xet_store_disk.specs.Store.{Differ, State, plan_of}

-- the pointer record of a file: hash, length and SHA-256 (FIPS 180-4)
abbrev pub info_of : LimitSettings → List ℕ → XetFileInfo
info_of s bytes = record { hash = file_hash (leaves_of (chunking s bytes)); file_size = length bytes; sha256 = Some (sha256 bytes) }

-- The lists are equally long, and P holds of what each observable source has left and the element at its
-- index.
abbrev pub EachTold : {S X : Type 0} → (S → Bool) → (S → List ℕ) → (List ℕ → X → Type 0) → List S → List X → Type 0
EachTold tells left P [] [] = Unit {0}
EachTold tells left P [] (x ∷ xs) = ⊥
EachTold tells left P (s ∷ ss) [] = ⊥
EachTold tells left P (s ∷ ss) (x ∷ xs) = (tells s ≡ true → P (left s) x) × EachTold tells left P ss xs

-- the count of failures of each source has not fallen
abbrev pub Later : {S : Type 0} → (S → ℕ) → List S → List S → Type 0
Later faults [] [] = Unit {0}
Later faults [] (t ∷ ts) = ⊥
Later faults (s ∷ ss) [] = ⊥
Later faults (s ∷ ss) (t ∷ ts) = (faults s ≤ faults t) × Later faults ss ts

-- of each observable source, a prefix of what it had left was taken
abbrev pub AreTaken : {S : Type 0} → (S → Bool) → (S → List ℕ) → List S → List S → Type 0
AreTaken tells left [] [] = Unit {0}
AreTaken tells left [] (t ∷ ts) = ⊥
AreTaken tells left (s ∷ ss) [] = ⊥
AreTaken tells left (s ∷ ss) (t ∷ ts) = (tells s ≡ true → (n : ℕ) × (left t ≡ drop n (left s))) × AreTaken tells left ss ts

-- the chunks of each source
abbrev pub chunkings : {S : Type 0} → (S → List ℕ) → LimitSettings → List S → List (List (List ℕ))
chunkings left s sources = map (λ source. chunking s (left source)) sources

-- The session has a plan for the file of these chunks, and it resolves to these chunks as they are stored.
abbrev pub HasFile : State → List (List ℕ) → Type 0
HasFile s chunks =
    (plan : List Segment) × (plan_of s.records (file_hash (leaves_of chunks)) ≡ Some plan) × Resolves (IsStored s.files s.folder) length plan chunks

-- The file under a name is as it was: its bytes, its modification time and its durability.
abbrev pub SameEntry : Files → Files → List ℕ → Type 0
SameEntry old new name = get new name ≡ get old name

-- The file under a name is durable: a crash keeps it.
abbrev pub IsDurable : Files → List ℕ → Type 0
IsDurable files name = option_map (λ e. e.durable) (get files name) ≡ Some true

-- The xorb h is stored in a folder, durable.
pub record HasXorb (files : Files) (folder h : List ℕ) : Type 0 where
  pub chunks : List (List ℕ)
  pub stored : IsStored files folder h chunks
  pub durable : IsDurable files (xorb_path folder h)

-- A well-formed shard is stored in a folder, under the name of its digest and durable; what it names is
-- stored.
pub record HasShard (files : Files) (folder h : List ℕ) : Type 0 where
  pub file : File
  pub there : file_at files (shard_path folder h) ≡ Some file
  pub durable : IsDurable files (shard_path folder h)
  pub holds : ShardHolds files folder (record { hash = h; file = file })

-- The same in the folder of a session, which lists the xorbs that the shard names.
pub record HasWholeShard (s : State) (h : List ℕ) : Type 0 where
  pub shard : HasShard s.files s.folder h
  pub listed : (x : List ℕ) → OfBytes shard.file.bytes x → IsSome (found s.xorbs x)

-- the files of a disk at a moment
abbrev pub files_at : Entries → Files
files_at entries = record { entries = entries; past = [] }

-- A well-formed shard is stored at a moment, durable. What it names is stored then, and is listed in the session or durable.
pub record HasShardAt (s : State) (entries : Entries) (h : List ℕ) : Type 0 where
  pub shard : HasShard (files_at entries) s.folder h
  pub named : (x : List ℕ) → OfBytes shard.file.bytes x → IsSome (found s.xorbs x) ⊎ IsDurable (files_at entries) (xorb_path s.folder x)

-- What a session has put on its disk is there at a moment. Under another name of a xorb or a shard there is what there was, or
-- a xorb of that hash, or a well-formed shard, which a crash then keeps.
pub record KeepsAt (s : State) (entries : Entries) : Type 0 where
  pub xorb_files : (h : List ℕ) → IsSome (found s.xorbs h) → SameEntry s.files (files_at entries) (xorb_path s.folder h)
  pub shard_files : AllByRecursion (λ h. SameEntry s.files (files_at entries) (shard_path s.folder h)) s.shards
  pub xorb_names : (h : List ℕ) → IsHash h → SameEntry s.files (files_at entries) (xorb_path s.folder h) ⊎ HasXorb (files_at entries) s.folder h
  pub shard_names : (h : List ℕ) → IsHash h → SameEntry s.files (files_at entries) (shard_path s.folder h) ⊎ HasShardAt s entries h

-- What no call takes away: folder, limits and time of opening, listed xorbs and registered shards with their
-- files, earlier records in their order, and foreign files. Under a xorb's name a file changes only to a xorb
-- of that hash, under a shard's only to a well-formed shard, and these are durable. So are the files of each
-- newly listed xorb and of each newly registered shard, even if they existed before. The same of the files is
-- true at each moment since.
pub record Keeps (old new : State) : Type 0 where
  pub tells : new.tells ≡ old.tells
  pub folder : new.folder ≡ old.folder
  pub limits : new.limits ≡ old.limits
  pub opened : new.opened ≡ old.opened
  pub later : old.faults ≤ new.faults
  pub xorbs : (h : List ℕ) (leaves : List (List ℕ × ℕ)) → IsListed old.xorbs h leaves → IsListed new.xorbs h leaves
  pub records : (added : FileRecords) × (new.records ≡ old.records ++ added)
  pub shards : (added : List (List ℕ)) × (new.shards ≡ old.shards ++ added)
  pub xorb_files : old.tells ≡ true → (h : List ℕ) → IsSome (found old.xorbs h) → SameEntry old.files new.files (xorb_path old.folder h)
  pub shard_files : old.tells ≡ true → AllByRecursion (λ h. SameEntry old.files new.files (shard_path old.folder h)) old.shards
  pub listed_files : old.tells ≡ true → (h : List ℕ) → found old.xorbs h ≡ None → IsSome (found new.xorbs h) → IsDurable new.files (xorb_path old.folder h)
  pub registered_files : old.tells ≡ true → AllByRecursion (λ h. IsDurable new.files (shard_path old.folder h)) shards.0
  pub xorb_names : old.tells ≡ true → (h : List ℕ) → IsHash h
      → SameEntry old.files new.files (xorb_path old.folder h) ⊎ HasXorb new.files new.folder h
  pub shard_names : old.tells ≡ true → (h : List ℕ) → IsHash h → SameEntry old.files new.files (shard_path old.folder h) ⊎ HasWholeShard new h
  pub foreign : old.tells ≡ true → (name : List ℕ) → IsForeign old.folder name → SameEntry old.files new.files name
  pub passes : old.tells ≡ true → Passes old.files new.files (KeepsAt old)

-- New records follow the earlier ones, each under one of these hashes that had no record before. No two have
-- the same hash.
abbrev pub Adds : FileRecords → FileRecords → List (List ℕ) → Type 0
Adds old new hashes =
    (added : FileRecords) × (new ≡ old ++ added) × Differ added
    × AllByRecursion (λ r. (found old r.0 ≡ None) × IsSome (found (map (λ h. (h, r.1)) hashes) r.0)) added

-- an error that names a source names this one
abbrev pub FailedAt : StoreError → ℕ → Type 0
FailedAt (Io (Source i)) done = i ≡ done
FailedAt (TooLarge (what.Source i)) done = i ≡ done
FailedAt _ done = Unit {0}

-- the count of failures of source i rose
abbrev pub RoseAt : {S : Type 0} → (S → ℕ) → List S → List S → ℕ → Type 0
RoseAt faults [] new i = ⊥
RoseAt faults (s ∷ ss) [] i = ⊥
RoseAt faults (s ∷ ss) (t ∷ ts) zero = Rose (faults s) (faults t)
RoseAt faults (s ∷ ss) (t ∷ ts) (suc i) = RoseAt faults ss ts i

-- source i has more than `max_len` bytes left, if it is observable
abbrev pub IsLongAt : {S : Type 0} → (S → Bool) → (S → List ℕ) → List S → ℕ → ℕ → Type 0
IsLongAt tells left [] max_len i = ⊥
IsLongAt tells left (s ∷ ss) max_len zero = tells s ≡ true → max_len < length (left s)
IsLongAt tells left (s ∷ ss) max_len (suc i) = IsLongAt tells left ss max_len i
