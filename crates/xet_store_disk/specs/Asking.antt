-- Queries over registered shards, which are first registered in an index from their files.
use Rattle.std.specs.Prelude.{◌≡◌, ℕ, Bool, true, false, List, [], ◌∷◌, ◌++◌, Some, All}
use Rattle.std.specs.List.{IsAmong, slice_get}
use Rattle.xet_hash.specs.declared.error.StoreError.{StoreError}
use Rattle.xet_hash.specs.declared.error.StoreError.TheVariants.{Io, MalformedData, OutOfMemory}
use Rattle.xet_hash.specs.declared.error.Place.TheVariants.{Disk}
use Rattle.xet_io.specs.Disk.{bytes_at}
use Rattle.xet_io.specs.Faults.{Rose}
use Rattle.xet_shard_file.specs.Names.{shard_path}
use Rattle.xet_shard_lookup.specs.Found.{IsEncodingOf}
use Rattle.xet_shard_registry.specs.Collections.{IsRegistryOf, Tables}
use Rattle.xet_shard_registry.specs.Registered.{Registered, with_shard}
use Rattle.xet_store_disk.specs.Store.{State}

-- A shard of an index is one of the store's registered shards, as its file has it.
pub record IsOwnShard (s : State) (r : Registered) : Type 0 where
  pub among : IsAmong s.shards r.file.shard_hash
  pub path : r.file.path ≡ shard_path s.folder r.file.shard_hash
  pub bytes : List ℕ
  pub there : bytes_at s.files r.file.path ≡ Some bytes
  pub encoding : IsEncodingOf r bytes

abbrev pub AreOwnShards : State → List Registered → Type 0
AreOwnShards s shards = All (IsOwnShard s) shards

-- The registered shard with this number, counted from 0, was added to an index after the others: if the disk is
-- observable, as its file has it.
pub record RegistersShard (s : State) (number : ℕ) (old new : Tables) : Type 0 where
  pub registered : Registered
  pub is : slice_get s.shards number ≡ Some registered.file.shard_hash
  pub own : s.tells ≡ true → IsOwnShard s registered
  pub registers : (shards : List Registered) → IsRegistryOf shards old → IsRegistryOf (with_shard s.limits.index_cap shards registered.file registered.items registered.records) new
  pub files : new.files ≡ old.files ++ registered.file ∷ []
  pub hashes : new.hashes ≡ old.hashes ++ registered.file.shard_hash ∷ []

-- the errors of registering a shard in an index and of a query, with the disk's count of failures before and after
abbrev pub IsAskingError : Bool → ℕ → ℕ → StoreError → Type 0
IsAskingError tells before now (Io Disk) = Rose before now
IsAskingError tells before now (MalformedData reason) = tells ≡ false
IsAskingError tells before now OutOfMemory = Unit {0}
IsAskingError tells before now e = ⊥
