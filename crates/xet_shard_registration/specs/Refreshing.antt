-- Registration of the shard files of a folder, and of those of paths.
use Rattle.std.specs.Prelude.{◌≡◌, ◌++◌, ◌∷◌, [], ℕ, Bool, false, true, List, filter}
use Rattle.std.specs.List.{flat_map}
use Rattle.xet_hash.specs.declared.error.Place.TheVariants.{Disk}
use Rattle.xet_hash.specs.declared.error.StoreError.{StoreError}
use Rattle.xet_hash.specs.declared.error.StoreError.TheVariants.{FileNotFound, Io, OutOfMemory}
use Rattle.xet_io.specs.Disk.{Files}
use Rattle.xet_shard.specs.Union.{ShardRecords}
use Rattle.xet_shard_directory.specs.Directories.{IsUnloaded, KeptOrRemoved, Loads, ReadsPath, is_valid}
use Rattle.xet_shard_directory.specs.declared.shard_file.MDBShardFile.{MDBShardFile}
use Rattle.xet_shard_registration.specs.Registering.{RegistersAll, Stops, newest_first}
use Rattle.xet_shard_registry.specs.Collections.{IsRegistryOf, Tables}
use Rattle.xet_shard_registry.specs.Registered.{Registered}

-- All shard files of a list were registered, the newest first, whichever records they have.
abbrev pub RegistersNewest : ℕ → Files → List MDBShardFile → Tables → Tables → Type 0
RegistersNewest cap files loaded old new =
    (shards : List Registered) (records : MDBShardFile → ShardRecords) → IsRegistryOf shards old → RegistersAll cap files records shards (newest_first loaded) new

-- their registration stopped with an error
abbrev pub StopsAmong : ℕ → Files → List MDBShardFile → Tables → Tables → StoreError → Type 0
StopsAmong cap files loaded old new e =
    (shards : List Registered) (records : MDBShardFile → ShardRecords) → IsRegistryOf shards old → Stops cap files records shards (newest_first loaded) new e

-- the errors of loading, with malformed files passed over
abbrev pub IsLoadingError : StoreError → Type 0
IsLoadingError FileNotFound = Unit {0}
IsLoadingError (Io Disk) = Unit {0}
IsLoadingError OutOfMemory = Unit {0}
IsLoadingError e = ⊥

-- ---- a folder

-- The valid shards of a folder were loaded, and then all of them were registered.
pub record RegistersDirectory (cap : ℕ) (old new : Files) (directory : List ℕ) (prune_expired : Bool) (prune_to buffer now : ℕ) (before after : Tables) : Type 0 where
  pub loaded : List MDBShardFile
  pub loads : Loads old new directory false prune_expired prune_to buffer now loaded
  pub registers : RegistersNewest cap new loaded before after

-- The folder was not loaded, and some of the files may have been removed that would have been.
pub record IsUnloadedDirectory (old new : Files) (directory : List ℕ) (prune_expired : Bool) (prune_to buffer now : ℕ) (before after : Tables) (e : StoreError) : Type 0 where
  pub files : KeptOrRemoved old new directory false prune_expired prune_to buffer now
  pub refused : IsUnloaded old directory true e
  pub kind : IsLoadingError e
  pub same : after ≡ before

-- The folder was loaded, and then registration stopped.
pub record StopsInDirectory (cap : ℕ) (old new : Files) (directory : List ℕ) (prune_expired : Bool) (prune_to buffer now : ℕ) (before after : Tables) (e : StoreError) : Type 0 where
  pub loaded : List MDBShardFile
  pub loads : Loads old new directory false prune_expired prune_to buffer now loaded
  pub stops : StopsAmong cap new loaded before after e

-- ---- paths

-- the valid shards of a path, in ascending order of path
abbrev pub LoadsValid : Files → ℕ → List ℕ → List MDBShardFile → Type 0
LoadsValid files now path shards = (read : List MDBShardFile) × ReadsPath files path read × (shards ≡ filter (is_valid now) read)

-- a list for each path
unfoldable pub LoadsEach : Files → ℕ → List (List ℕ) → List (List MDBShardFile) → Type 0
LoadsEach files now [] [] = Unit {0}
LoadsEach files now (p ∷ ps) (l ∷ ls) = LoadsValid files now p l × LoadsEach files now ps ls
LoadsEach files now ps ls = ⊥

-- the shards of all paths, in the order of the paths
abbrev pub all_of : List (List MDBShardFile) → List MDBShardFile
all_of lists = flat_map (λ l. l) lists

-- The valid shards of each path were loaded, and then all of them were registered.
pub record RegistersPaths (cap : ℕ) (files : Files) (now : ℕ) (paths : List (List ℕ)) (before after : Tables) : Type 0 where
  pub lists : List (List MDBShardFile)
  pub loads : LoadsEach files now paths lists
  pub registers : RegistersNewest cap files (all_of lists) before after

-- The first paths were loaded, and the next was not.
pub record IsUnloadedAmong (files : Files) (now : ℕ) (paths : List (List ℕ)) (e : StoreError) : Type 0 where
  pub before : List (List ℕ)
  pub path : List ℕ
  pub after : List (List ℕ)
  pub parts : paths ≡ before ++ path ∷ after
  pub lists : List (List MDBShardFile)
  pub loads : LoadsEach files now before lists
  pub refused : IsUnloaded files path true e
  pub kind : IsLoadingError e

-- All paths were loaded, and then registration stopped.
pub record StopsInPaths (cap : ℕ) (files : Files) (now : ℕ) (paths : List (List ℕ)) (before after : Tables) (e : StoreError) : Type 0 where
  pub lists : List (List MDBShardFile)
  pub loads : LoadsEach files now paths lists
  pub stops : StopsAmong cap files (all_of lists) before after e
