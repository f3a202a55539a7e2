-- What is pending, and when it is written.
use Rattle.std.specs.Prelude.{◌≡◌, ◌+◌, ◌==◌, ℕ, nat_lt, Bool, true, false, List, [], length, None, Ok, Err, if◌then◌else◌}
use Rattle.xet_hash.specs.declared.error.StoreError.{StoreError}
use Rattle.xet_manager.specs.Manager.{ManagerState}
use Rattle.xet_shard.specs.Held.{Held, held_shard, held_size}
use Rattle.xet_shard_directory.specs.Answers.{GivesUnlessDisk}
use Rattle.xet_shard_directory.specs.Writing.{MayAddShard}
use Rattle.xet_shard_flush.specs.Importing.{Imports, flush_check, flushed_bytes}
use Rattle.xet_shard_format.specs.Encoding.{Fits, IsShard}
use Rattle.xet_shard_format.specs.declared.record.MDBFileInfo.{MDBFileInfo}
use Rattle.xet_shard_format.specs.declared.record.MDBXorbInfo.{MDBXorbInfo}
use Rattle.xet_shard_registry.specs.Collections.{IsRegistryOf}
use Rattle.xet_shard_registry.specs.Registered.{Registered}

-- whether there are no records
abbrev pub is_empty : Held → Bool
is_empty h = length h.blocks + length h.files == 0

-- Whether what is pending is written before a record of this many bytes is added: something is pending, and the shard
-- would pass the target.
abbrev pub cut_due : ManagerState → ℕ → Bool
cut_due m bytes = if is_empty m.pending then false else nat_lt m.settings.target (held_size m.pending + bytes)

-- the pending xorbs to which a record of this many bytes is added
abbrev pub blocks_before : ManagerState → ℕ → List MDBXorbInfo
blocks_before m bytes = if cut_due m bytes then [] else m.pending.blocks

-- the same of files
abbrev pub files_before : ManagerState → ℕ → List MDBFileInfo
files_before m bytes = if cut_due m bytes then [] else m.pending.files

-- What was pending was written as a shard of this path and registered, and these records are pending now. There is this
-- room.
pub record Cuts (old new : ManagerState) (pending : Held) (room : ℕ) (path : List ℕ) : Type 0 where
  pub imports : Imports old.tells old.settings.index_cap old.files new.files old.folder (flushed_bytes old.pending old.moment) old.registry new.registry path
  pub checked : flush_check (flushed_bytes old.pending old.moment) old.registry ≡ Ok tt
  pub form : IsShard (held_shard old.pending old.moment None)
  pub fits : Fits (held_shard old.pending old.moment None)
  pub rest : new ≡ record old { files = new.files; faults = new.faults; registry = new.registry; pending = pending; room = room }

-- The same for some path, and no room is left.
abbrev pub IsCut : ManagerState → ManagerState → Held → Type 0
IsCut old new pending = (path : List ℕ) × Cuts old new pending 0 path

-- A cut failed: the same is pending, the same shards are registered, and no room is left. The error is that of the check,
-- unless the disk failed or memory was out. Nothing is written where the check fails; else the file is as it was, or the
-- write has completed.
pub record IsUncut (old new : ManagerState) (e : StoreError) : Type 0 where
  pub rest : new ≡ record old { files = new.files; faults = new.faults; registry = new.registry; room = 0 }
  pub kept : (shards : List Registered) → IsRegistryOf shards old.registry → IsRegistryOf shards new.registry
  pub file : old.tells ≡ true → MayAddShard old.files new.files old.folder (flushed_bytes old.pending old.moment)
  pub checked : GivesUnlessDisk (λ (u : Unit {0}). u) (Err e) (flush_check (flushed_bytes old.pending old.moment) old.registry)
  pub unwritten : old.tells ≡ true → (failed : StoreError) → flush_check (flushed_bytes old.pending old.moment) old.registry ≡ Err failed → new.files ≡ old.files
