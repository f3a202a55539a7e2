-- The model of a manager, and what its calls leave.
use Rattle.std.specs.Prelude.{◌≡◌, ◌≢◌, ◌⊎◌, ◌++◌, ◌∷◌, [], ◌≤◌, ℕ, Bool, false, true, List, Err, IfErr, IfOk, IsOkUnless, None, Option, Result, Ok, Some}
use Rattle.std.specs.List.{flat_map}
use Rattle.xet_hash.specs.Hash.{zero_hash}
use Rattle.xet_io.specs.Disk.{Files, file_at}
use Rattle.xet_manager.specs.declared.settings.ManagerSettings.{ManagerSettings}
use Rattle.xet_shard.specs.Held.{Held, by_hash, nothing, record_of}
use Rattle.xet_shard.specs.Sections.{files_in}
use Rattle.xet_shard_directory.specs.Answers.{GivesUnlessDisk, IsFileQueryError, in_file}
use Rattle.xet_shard_directory.specs.Directories.{IsUnloaded}
use Rattle.xet_shard_directory.specs.declared.shard_file.MDBShardFile.{MDBShardFile}
use Rattle.xet_shard_format.specs.Records.{file_record_hash}
use Rattle.xet_shard_format.specs.declared.record.MDBFileInfo.{MDBFileInfo}
use Rattle.xet_hash.specs.declared.error.StoreError.{StoreError}
use Rattle.xet_hash.specs.declared.error.StoreError.TheVariants.{OutOfMemory}
use Rattle.xet_shard_lookup.specs.Found.{HoldsFiles}
use Rattle.xet_shard_lookup.specs.Records.{Answer, IsRecorded, found_record, no_record}
use Rattle.xet_shard_registry.specs.Registered.{Registered}
use Rattle.xet_shard_registration.specs.Refreshing.{IsLoadingError, IsUnloadedDirectory, LoadsValid, RegistersDirectory, StopsInDirectory}
use Rattle.xet_shard_registry.specs.Collections.{IsRegistryOf, Tables}

-- A manager: whether the disk is observable, its files and its count of failures; the folder, the settings, and the time
-- that was last passed; the registered shards, what is pending, and whether the folder was cleaned. The room is the length
-- of the longest record for which memory was taken.
pub record ManagerState : Type 0 where
  pub tells : Bool
  pub files : Files
  pub faults : ℕ
  pub folder : List ℕ
  pub settings : ManagerSettings
  pub moment : ℕ
  pub registry : Tables
  pub pending : Held
  pub cleaned : Bool
  pub room : ℕ

abbrev pub manager_state : Bool → Files → ℕ → List ℕ → ManagerSettings → ℕ → Tables → Held → Bool → ℕ → ManagerState
manager_state t f n d s m r p c b = record { tells = t; files = f; faults = n; folder = d; settings = s; moment = m; registry = r; pending = p; cleaned = c; room = b }

-- The state is the first, with other tables of the same shards, and with another room.
pub record HasSameShards (old new : ManagerState) : Type 0 where
  pub rest : new ≡ record old { registry = new.registry; room = new.room }
  pub shards : (shards : List Registered) → IsRegistryOf shards old.registry → IsRegistryOf shards new.registry
  pub files : new.registry.files ≡ old.registry.files
  pub hashes : new.registry.hashes ≡ old.registry.hashes

-- ---- opening

-- The manager is new: nothing is pending, and no memory was taken ahead.
pub record IsOpened (tells : Bool) (faults : ℕ) (folder : List ℕ) (settings : ManagerSettings) (now : ℕ) (m : ManagerState) : Type 0 where
  pub state : m ≡ manager_state tells m.files m.faults folder settings now m.registry nothing false 0
  pub later : faults ≤ m.faults

-- The valid shards of the folder are registered, and no others.
pub record ScansFolder (old : Files) (prune_expired : Bool) (prune_to : ℕ) (m : ManagerState) : Type 0 where
  pub empty : Tables
  pub none : IsRegistryOf [] empty
  pub registers : RegistersDirectory m.settings.index_cap old m.files m.folder prune_expired prune_to m.settings.buffer m.moment empty m.registry

-- The folder was not loaded, and some of the files may have been removed that would have been; or it was, and one of its
-- shards was not registered.
pub record IsUnscanned (cap : ℕ) (old new : Files) (folder : List ℕ) (prune_expired : Bool) (prune_to buffer now : ℕ) (e : StoreError) : Type 0 where
  pub empty : Tables
  pub none : IsRegistryOf [] empty
  pub last : Tables
  pub refused : IsUnloadedDirectory old new folder prune_expired prune_to buffer now empty last e ⊎ StopsInDirectory cap old new folder prune_expired prune_to buffer now empty last e

-- memory was out before the folder was looked at, or it was not scanned
abbrev pub IsUnopened : ℕ → Files → Files → List ℕ → Bool → ℕ → ℕ → ℕ → StoreError → Type 0
IsUnopened cap old new folder prune_expired prune_to buffer now e =
    ((e ≡ OutOfMemory) × (new ≡ old)) ⊎ IsUnscanned cap old new folder prune_expired prune_to buffer now e

-- ---- the records of all files

-- the files of each shard file
unfoldable pub ReadsEach : Files → List MDBShardFile → List (List MDBFileInfo) → Type 0
ReadsEach files [] [] = Unit {0}
ReadsEach files (s ∷ ss) (l ∷ ls) = (in_file (file_at files s.path) (λ f. files_in s.shard.metadata f.bytes) ≡ Ok l) × ReadsEach files ss ls
ReadsEach files ss ls = ⊥

-- The section of files of one of these shard files is malformed or can't be read; those before it were read.
pub record FailsAt (files : Files) (ss : List MDBShardFile) (e : StoreError) : Type 0 where
  pub before : List MDBShardFile
  pub at : MDBShardFile
  pub after : List MDBShardFile
  pub parts : ss ≡ before ++ at ∷ after
  pub lists : List (List MDBFileInfo)
  pub reads : ReadsEach files before lists
  pub failed : GivesUnlessDisk (λ (l : List MDBFileInfo). l) (Err e) (in_file (file_at files at.path) (λ f. files_in at.shard.metadata f.bytes))

-- Why the files are not listed: the folder was not loaded, or a section of its valid shard files was not read, or memory
-- was out.
abbrev pub IsUnlisted : Files → List ℕ → ℕ → StoreError → Type 0
IsUnlisted files folder now e =
    (e ≡ OutOfMemory) ⊎ (IsUnloaded files folder true e × IsLoadingError e) ⊎ ((valid : List MDBShardFile) × LoadsValid files now folder valid × FailsAt files valid e)

-- The files that are pending in ascending order of hash, and then those of the valid shards of a folder.
pub record ListsFolder (files : Files) (folder : List ℕ) (now : ℕ) (pending : Held) (infos : List MDBFileInfo) : Type 0 where
  pub valid : List MDBShardFile
  pub loads : LoadsValid files now folder valid
  pub lists : List (List MDBFileInfo)
  pub reads : ReadsEach files valid lists
  pub all : infos ≡ by_hash file_record_hash pending.files ++ flat_map (λ l. l) lists

abbrev pub ListsFiles : ManagerState → ℕ → List MDBFileInfo → Type 0
ListsFiles m now infos = ListsFolder m.files m.folder now m.pending infos

-- What a look-up of a file returns and leaves.
pub record IsFileAnswer (old new : ManagerState) (h : List ℕ) (result : Result (Option Answer) StoreError) : Type 0 where
  pub found : old.tells ≡ true → (shards : List Registered) → IsRegistryOf shards old.registry → HoldsFiles old.files shards → GivesUnlessDisk (λ (a : Option Answer). a) result (found_record old.files old.pending shards h)
  pub zero : h ≡ zero_hash → (result ≡ Ok (Some (no_record, None))) × (new ≡ old)
  pub pending : h ≢ zero_hash → (f : MDBFileInfo) → record_of file_record_hash h old.pending.files ≡ Some f → IfOk result (λ a. a ≡ Some (f, None)) × IsOkUnless result OutOfMemory × (new ≡ old)
  pub there : old.tells ≡ true → IfOk result (IsRecorded old.files old.pending old.registry.files h)
  pub rest : new ≡ record old { faults = new.faults }
  pub later : old.faults ≤ new.faults
  pub reason : IfErr result (IsFileQueryError old.faults new.faults)
