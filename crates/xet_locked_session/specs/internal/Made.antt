-- What the steps of the store of a session make of it.
use Rattle.std.specs.Prelude.{◌≡◌, ◌≢◌, ◌≤◌, ℕ, Bool, true, List, [], length, Option, Result, Some, IfSome, OnOk}
use Rattle.std.specs.List.{AllByRecursion}
use Rattle.xet_completion.specs.Completing.{Completes}
use Rattle.xet_folder.specs.Xorbs.{IsListed}
use Rattle.xet_hash.specs.Hash.{sentinel}
use Rattle.xet_hash.specs.Merkle.{xorb_hash}
use Rattle.xet_hash.specs.declared.error.StoreError.{StoreError}
use Rattle.xet_history.specs.Core.{is_new}
use Rattle.xet_history.specs.Found.{found_run}
use Rattle.xet_history.specs.History.{complete_entries, flush_entries, pass_of, query_entries, register_entries}
use Rattle.xet_history.specs.Sound.{IsUsableRun}
use Rattle.xet_history.specs.declared.entry.Entry.{Entry}
use Rattle.xet_shard.specs.Runs.{held_run}
use Rattle.xet_shard_format.specs.Records.{file_record_hash}
use Rattle.xet_shard_format.specs.declared.record.FileDataSequenceEntry.{FileDataSequenceEntry as Segment}
use Rattle.xet_shard_format.specs.declared.record.MDBFileInfo.{MDBFileInfo}
use Rattle.xet_store.specs.Changes.{ChangesFiles}
use Rattle.xet_store.specs.Recorded.{RecordedState, core_of}
use Rattle.xet_store.specs.Steps.{Steps}
use Rattle.xet_locked_session.specs.Passes.{flushed_hash}
use Rattle.xet_locked_session.specs.Session.{HasRisenBy, fault_count}

-- A query of a pass had this reply.
pub record Queried (pass : ℕ) (hashes : List (List ℕ)) (old new : RecordedState) (reply : Option (ℕ × Segment)) : Type 0 where
  pub steps : Steps old new (query_entries pass hashes reply)
  pub changes : ChangesFiles [] old new (query_entries pass hashes reply)
  pub usable : IfSome reply (IsUsableRun old.store.xorbs hashes)
  pub pending : (run : ℕ × Segment) → held_run old.store.pending.blocks hashes ≡ Some run → reply ≡ Some run
  pub found : old.store.tells ≡ true → reply ≡ found_run (core_of old) hashes

-- A xorb of these chunks was registered, and is listed with them. `added`: it was not listed before.
pub record Registered (pass : ℕ) (leaves next : List (List ℕ × ℕ)) (old new : RecordedState) (added : Bool) : Type 0 where
  pub steps : Steps old new (register_entries pass (core_of old) old.store.limits.shard_target leaves next)
  pub changes : ChangesFiles [] old new (register_entries pass (core_of old) old.store.limits.shard_target leaves next)
  pub new_hash : added ≡ is_new old.store.xorbs (xorb_hash leaves)
  pub listed : IsListed new.store.xorbs (xorb_hash leaves) leaves
  pub named : xorb_hash leaves ≢ sentinel

-- A file was recorded, which could be. `added`: it was not recorded before.
pub record Completed (pass : ℕ) (file : MDBFileInfo) (old new : RecordedState) (added : Bool) : Type 0 where
  pub steps : Steps old new (complete_entries pass (core_of old) old.store.limits.shard_target file)
  pub changes : ChangesFiles [] old new (complete_entries pass (core_of old) old.store.limits.shard_target file)
  pub new_hash : added ≡ is_new old.store.records (file_record_hash file)
  pub can : Completes old.store.xorbs file

-- What was pending was flushed as the shard of this hash, if something was.
pub record Flushed (pass : ℕ) (old new : RecordedState) (shard : Option (List ℕ)) : Type 0 where
  pub steps : Steps old new (flush_entries pass (core_of old))
  pub hash : shard ≡ flushed_hash (core_of old)

-- A step of a pass, with this result, added at most two entries, all of the pass. One of them is a failure of the disk only if
-- the step failed and the disk's count of failures rose, and only one is.
pub record Grew {T : Type 0} (pass : ℕ) (result : Result T StoreError) (old new : RecordedState) : Type 0 where
  pub added : List Entry
  pub steps : Steps old new added
  pub few : length added ≤ 2
  pub mine : AllByRecursion (λ e. pass_of e ≡ pass) added
  pub one : fault_count added ≤ 1
  pub calm : OnOk result (fault_count added ≡ 0)
  pub risen : HasRisenBy (fault_count added) old.store.faults new.store.faults
