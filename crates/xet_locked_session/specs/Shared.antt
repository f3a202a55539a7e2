-- The steps that several passes make of one store.
use Rattle.std.specs.Prelude.{◌≡◌, ◌⊎◌, ℕ, List, [], ◌++◌, Option}
use Rattle.xet_completion.specs.Completing.{Completes}
use Rattle.xet_cut.specs.declared.limits.LimitSettings.{LimitSettings}
use Rattle.xet_dedup_queries.specs.Registering.{IsDue}
use Rattle.xet_hash.specs.declared.error.StoreError.{StoreError}
use Rattle.xet_history.specs.Core.{Core}
use Rattle.xet_history.specs.History.{after_all, complete_entries, query_entries, register_entries}
use Rattle.xet_history.specs.declared.entry.Entry.{Entry}
use Rattle.xet_shard_format.specs.Records.{IsFile}
use Rattle.xet_shard_format.specs.declared.record.FileDataSequenceEntry.{FileDataSequenceEntry as Segment}
use Rattle.xet_shard_format.specs.declared.record.MDBFileInfo.{MDBFileInfo}
use Rattle.xet_store.specs.Changes.{ChangesFiles, files_of}
use Rattle.xet_store.specs.Recorded.{RecordedState, core_of}
use Rattle.xet_store.specs.Steps.{fault_entries}
use Rattle.xet_store.specs.Alone.{MayBeAsked, Step, attempted, cut_of, kind_of}
use Rattle.xet_store.specs.Holders.{xorb_limits}

-- These are the entries of one completed step of a pass, from a core on: a query, the registration of a xorb, or the recording of
-- a file. So a flush among them was due before the entry that follows it. A xorb is within the limits, and is registered with the
-- chunks that did not fit into it, or with none. A file that is recorded has a plan that lies in xorbs that are listed, and gives
-- its hashes.
pub data StepOf (limits : LimitSettings) (pass : ℕ) (c : Core) : List Entry → Type 0 where
  asks : (hashes : List (List ℕ)) (reply : Option (ℕ × Segment)) → StepOf limits pass c (query_entries pass hashes reply)
  registers : (leaves next : List (List ℕ × ℕ)) → MayBeAsked limits (Step.registers leaves) → IsDue (xorb_limits limits) leaves next
      → StepOf limits pass c (register_entries pass c limits.shard_target leaves next)
  completes : (file : MDBFileInfo) → IsFile file → Completes c.xorbs file → StepOf limits pass c (complete_entries pass c limits.shard_target file)

-- From a core on, these are the entries of completed steps, each of some pass. As `StepsTo` of `xet_store`, whose steps are all
-- of one pass.
pub data StepsBy (limits : LimitSettings) (c : Core) : List Entry → Type 0 where
  begins : StepsBy limits c []
  more : (es added : List Entry) (pass : ℕ) → StepsBy limits c es → StepOf limits pass (after_all c es) added → StepsBy limits c (es ++ added)

-- After completed steps one of a pass failed with this error, and was the last: of its entries there are at most that of the cut
-- that was due before it, and that of the disk's failure.
pub record StepsByUntil (limits : LimitSettings) (c : Core) (error : StoreError) (all : List Entry) : Type 0 where
  pub before : List Entry
  pub steps : StepsBy limits c before
  pub pass : ℕ
  pub step : Step
  pub asked : MayBeAsked limits step
  pub done : List Entry
  pub completed : (done ≡ []) ⊎ (done ≡ cut_of pass limits.shard_target step (after_all c before))
  pub is : all ≡ before ++ (done ++ fault_entries pass (kind_of step) error)

-- Between two states these entries were made, by completed steps, each of some pass. On the disk nothing has changed but the files
-- that they name, and no temporary file is left.
pub record MakesStepsBy (old new : RecordedState) (entries : List Entry) : Type 0 where
  pub steps : StepsBy old.store.limits (core_of old) entries
  pub changes : ChangesFiles [] old new entries

-- And one more step that failed with this error, and was the last. Its files may have changed too, and what is under their temporary
-- names.
pub record MakesStepsByUntil (error : StoreError) (old new : RecordedState) (entries : List Entry) : Type 0 where
  pub steps : StepsByUntil old.store.limits (core_of old) error entries
  pub changes : ChangesFiles (files_of old.store.folder (attempted steps.pass old.store.limits.shard_target steps.step (after_all (core_of old) steps.before))) old new entries

-- Between two states of a store completed steps were made.
pub record HaveMade (old new : RecordedState) : Type 0 where
  pub since : List Entry
  pub history : new.history ≡ old.history ++ since
  pub made : MakesStepsBy old new since

-- And one more that failed, and was the last.
pub record HaveEnded (old new : RecordedState) : Type 0 where
  pub since : List Entry
  pub history : new.history ≡ old.history ++ since
  pub error : StoreError
  pub made : MakesStepsByUntil error old new since
