-- What a flush changes.
use Rattle.std.specs.Prelude.{◌≡◌, ◌≢◌, ℕ, ◌<◌, ◌≤◌, ◌^◌, true, List, [], ◌∷◌, ◌++◌, length, Some, None}
use Rattle.xet_io.specs.Disk.{entry_at as get}
use Rattle.std.specs.List.{AllByRecursion, IsAmong}
use Rattle.xet_codec.specs.Stops.{HasDiskReason}
use Rattle.xet_hash.specs.declared.error.StoreError.{StoreError}
use Rattle.xet_hash.specs.declared.error.StoreError.TheVariants.{TooLarge}
use Rattle.xet_hash.specs.declared.error.What.TheVariants.{Shards}
use Rattle.xet_io.specs.Disk.{Files, bytes_at}
use Rattle.xet_shard_format.specs.declared.record.MDBFileInfo.{MDBFileInfo}
use Rattle.xet_shard.specs.Held.{held_shard, nothing}
use Rattle.xet_shard_format.specs.Encoding.{Fits, IsShard, Shard, full_shard_bytes}
use Rattle.xet_folder.specs.Admission.{shard_hash}
use Rattle.xet_folder.specs.Contents.{max_shards}
use Rattle.xet_folder.specs.Changes.{Change}
use Rattle.xet_folder.specs.Changes.Change.{Puts}
use Rattle.xet_folder.specs.Listed.{Lists}
use Rattle.xet_shard_file.specs.Names.{shard_path, temp_name}
use Rattle.xet_shard_file.specs.Puts.{IsKeptOrDone}
use Rattle.xet_store_disk.specs.Cleaning.{IsDurable, SameEntry}
use Rattle.xet_store_disk.specs.Store.{State}

-- the shard of what is pending, created at the time of opening and without expiry
abbrev pub pending_shard : State → Shard
pending_shard s = held_shard s.pending s.opened None

-- its bytes
abbrev pub pending_bytes : State → List ℕ
pending_bytes s = full_shard_bytes (pending_shard s)

-- what a flush changes, where something is pending
abbrev pub flush_changes : State → List Change
flush_changes s = Puts (shard_path s.folder (shard_hash (pending_bytes s))) (pending_bytes s) ∷ []

-- The shard is well formed, and its contents fit in its bytes.
pub record IsFormed (s : Shard) : Type 0 where
  pub shard : IsShard s
  pub fits : Fits s

-- no name has changed but this one and its temporary one
abbrev pub KeepsOtherNames : Files → Files → List ℕ → Type 0
KeepsOtherNames old new name = (other : List ℕ) → other ≢ name → other ≢ temp_name name → SameEntry old new other

-- What was pending is in the shard of this hash, which is well formed and durable, and is now the last registered one. Before,
-- no shard of this hash was registered, and there were fewer than the maximum. Each file that was pending is listed at every
-- time below 2 ^ 64. Nothing else changes.
pub record IsFlushed (old : State) (h : List ℕ) (new : State) : Type 0 where
  pub form : IsFormed (pending_shard old)
  pub hash : h ≡ shard_hash (pending_bytes old)
  pub fresh : AllByRecursion (λ k. k ≢ h) old.shards
  pub few : length old.shards < max_shards
  pub there : old.tells ≡ true → bytes_at new.files (shard_path old.folder h) ≡ Some (pending_bytes old)
  pub durable : old.tells ≡ true → IsDurable new.files (shard_path old.folder h)
  pub temp : old.tells ≡ true → get new.files (temp_name (shard_path old.folder h)) ≡ None
  pub others : old.tells ≡ true → KeepsOtherNames old.files new.files (shard_path old.folder h)
  pub lasts : old.tells ≡ true → (f : MDBFileInfo) → IsAmong old.pending.files f → (time : ℕ) → time < 2 ^ 64 → Lists new.files new.folder time f
  pub registered : new.shards ≡ old.shards ++ h ∷ []
  pub nothing_pending : new.pending ≡ nothing
  pub xorbs : new.xorbs ≡ old.xorbs
  pub records : new.records ≡ old.records

-- After an error nothing has changed but the disk: there the shard's file is as it was, or it is the shard of
-- what is pending, durable.
pub record IsUnflushed (old new : State) : Type 0 where
  pub pending : new.pending ≡ old.pending
  pub registered : new.shards ≡ old.shards
  pub xorbs : new.xorbs ≡ old.xorbs
  pub records : new.records ≡ old.records
  pub others : old.tells ≡ true → KeepsOtherNames old.files new.files (shard_path old.folder (shard_hash (pending_bytes old)))
  pub whole : old.tells ≡ true → IsKeptOrDone old.files new.files (shard_path old.folder (shard_hash (pending_bytes old))) (pending_bytes old)

-- Something is pending, and no further shard can be registered.
pub record IsFull (s : State) : Type 0 where
  pub some : s.pending ≢ nothing
  pub full : max_shards ≤ length s.shards

-- the errors of a flush, with the disk's count of failures after it
abbrev pub IsFlushError : State → ℕ → StoreError → Type 0
IsFlushError s after (TooLarge Shards) = IsFull s
IsFlushError s after e = HasDiskReason s.faults after e
