-- A store that one caller has alone, as a holder.
use Rattle.std.specs.Prelude.{◌≡◌, ◌⊎◌, ℕ, Bool, true, false, List, [], ◌++◌, length, drop, Any, Option}
use Rattle.xet_completion.specs.Completing.{Completes}
use Rattle.xet_cut.specs.declared.limits.LimitSettings.{LimitSettings}
use Rattle.xet_dedup_queries.specs.Registering.{IsDue, IsNewXorb}
use Rattle.xet_hash.specs.declared.error.Place.TheVariants.{Disk}
use Rattle.xet_hash.specs.declared.error.StoreError.{StoreError}
use Rattle.xet_hash.specs.declared.error.StoreError.TheVariants.{Io}
use Rattle.xet_history.specs.Core.{Core}
use Rattle.xet_history.specs.History.{after_all, complete_cut, complete_entries, query_entries, register_cut, register_entries}
use Rattle.xet_history.specs.declared.entry.Entry.{Entry}
use Rattle.xet_history.specs.declared.entry.Entry.TheVariants.{Query, Register, Complete, Flush, Fault}
use Rattle.xet_history.specs.declared.entry.StepKind.{StepKind}
use Rattle.xet_history.specs.declared.entry.StepKind.TheVariants as kind
use Rattle.xet_io.specs.Faults.{Rose}
use Rattle.xet_shard_format.specs.Records.{IsFile}
use Rattle.xet_shard_format.specs.declared.record.FileDataSequenceEntry.{FileDataSequenceEntry as Segment}
use Rattle.xet_shard_format.specs.declared.record.MDBFileInfo.{MDBFileInfo}
use Rattle.xet_store.specs.Changes.{ChangesFiles, files_of}
use Rattle.xet_store.specs.Recorded.{RecordedState, core_of}
use Rattle.xet_store.specs.Steps.{Steps, fault_entries}
use Rattle.xet_xorb.specs.Raw.{raw_leaves}
use Rattle.xet_xorb.specs.declared.raw.RawXorbData.{RawXorbData}
use Rattle.xet_store.specs.Holders.{Holder, xorb_limits, numbered}

-- a step that is made: a query, the registration of a xorb of these chunks, or the recording of a file
pub data Step : Type 0 where
  asks : Step
  registers : (leaves : List (List ℕ × ℕ)) → Step
  completes : (file : MDBFileInfo) → Step

abbrev pub kind_of : Step → StepKind
kind_of Step.asks = kind.Query
kind_of (Step.registers leaves) = kind.Register
kind_of (Step.completes file) = kind.Complete

-- the cut before it
abbrev pub cut_of : ℕ → ℕ → Step → Core → List Entry
cut_of pass target Step.asks c = []
cut_of pass target (Step.registers leaves) c = register_cut pass c target leaves
cut_of pass target (Step.completes file) c = complete_cut pass c target file

-- It may be asked for under these limits: a xorb is within them.
abbrev pub MayBeAsked : LimitSettings → Step → Type 0
MayBeAsked limits Step.asks = Unit {0}
MayBeAsked limits (Step.registers leaves) = (x : RawXorbData) × IsNewXorb (xorb_limits limits) x × (raw_leaves x ≡ leaves)
MayBeAsked limits (Step.completes file) = IsFile file

-- From a core on, these are the entries of completed steps of a pass: queries, registrations and recordings. So each flush
-- among them was due before the entry that follows it. Each xorb is within the limits, and was registered with the chunks that
-- did not fit into it, or with none. Each file that was recorded has a plan that lies in xorbs that were listed before, and
-- gives its hashes.
pub data StepsTo (limits : LimitSettings) (pass : ℕ) (c : Core) : List Entry → Type 0 where
  begins : StepsTo limits pass c []
  asks : (es : List Entry) (hashes : List (List ℕ)) (reply : Option (ℕ × Segment)) → StepsTo limits pass c es → StepsTo limits pass c (es ++ query_entries pass hashes reply)
  registers : (es : List Entry) (leaves next : List (List ℕ × ℕ)) → StepsTo limits pass c es → MayBeAsked limits (Step.registers leaves) → IsDue (xorb_limits limits) leaves next
      → StepsTo limits pass c (es ++ register_entries pass (after_all c es) limits.shard_target leaves next)
  completes : (es : List Entry) (file : MDBFileInfo) → StepsTo limits pass c es → IsFile file → Completes (after_all c es).xorbs file
      → StepsTo limits pass c (es ++ complete_entries pass (after_all c es) limits.shard_target file)

-- After completed steps one failed with this error, and was the last: of its entries there are at most that of the cut that
-- was due before it, and that of the disk's failure.
pub record StepsUntil (limits : LimitSettings) (pass : ℕ) (c : Core) (error : StoreError) (all : List Entry) : Type 0 where
  pub before : List Entry
  pub steps : StepsTo limits pass c before
  pub step : Step
  pub asked : MayBeAsked limits step
  pub done : List Entry
  pub completed : (done ≡ []) ⊎ (done ≡ cut_of pass limits.shard_target step (after_all c before))
  pub is : all ≡ before ++ (done ++ fault_entries pass (kind_of step) error)

-- the entries of a step, if it is completed, but for the chunks that did not fit into a xorb
abbrev pub attempted : ℕ → ℕ → Step → Core → List Entry
attempted pass target Step.asks c = []
attempted pass target (Step.registers leaves) c = register_entries pass c target leaves []
attempted pass target (Step.completes file) c = complete_entries pass c target file

-- Between two states pass 0 alone made these entries, by completed steps. On the disk nothing has changed but the files that they
-- name, and no temporary file is left.
pub record MakesSteps (old new : RecordedState) (entries : List Entry) : Type 0 where
  pub steps : StepsTo old.store.limits 0 (core_of old) entries
  pub changes : ChangesFiles [] old new entries

-- And one more step that failed with this error, and was the last. Its files may have changed too, and what is under their temporary
-- names.
pub record MakesStepsUntil (error : StoreError) (old new : RecordedState) (entries : List Entry) : Type 0 where
  pub steps : StepsUntil old.store.limits 0 (core_of old) error entries
  pub changes : ChangesFiles (files_of old.store.folder (attempted 0 old.store.limits.shard_target steps.step (after_all (core_of old) steps.before))) old new entries

abbrev pub IsFault : Entry → Type 0
IsFault (Query pass hashes reply) = ⊥
IsFault (Register pass chunks next added) = ⊥
IsFault (Complete pass file added) = ⊥
IsFault (Flush pass shard) = ⊥
IsFault (Fault pass kind) = Unit {0}

-- What contracts see of it: the store when it began, the store now, and whether a step has failed.
pub record AloneState : Type 0 where
  pub start : RecordedState
  pub store : RecordedState
  pub stopped : Bool

-- the state of these parts
abbrev pub alone_state : RecordedState → RecordedState → Bool → AloneState
alone_state start store stopped = record { start = start; store = store; stopped = stopped }

-- Since it began, pass 0 alone made steps of the store: completed ones, and at most one that failed and was the last. If there
-- is an entry of a failure of the disk, that step failed by it, and the disk's count of failures rose.
pub record IsAlone (start now : RecordedState) (stopped : Bool) : Type 0 where
  pub since : List Entry
  pub steps : Steps start now since
  pub whole : stopped ≡ false → MakesSteps start now since
  pub until : stopped ≡ true → (e : StoreError) × MakesStepsUntil e start now since
  pub disk : Any IsFault since → (stopped ≡ true) × MakesStepsUntil (Io Disk) start now since
  pub rose : Any IsFault since → Rose start.store.faults now.store.faults

-- what it has seen: the whole history, of which each entry since it began is its own
abbrev pub alone_of : RecordedState → RecordedState → Bool → Holder
alone_of start now stopped = record {
  origin = start;
  tells = start.store.tells;
  limits = start.store.limits;
  number = 0;
  before = start.history;
  base = core_of start;
  since = drop (length start.history) now.history;
  own = numbered (length start.history) (drop (length start.history) now.history);
  earlier = [];
  stopped = stopped;
}
