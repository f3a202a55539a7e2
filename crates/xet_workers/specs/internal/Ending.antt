-- How a session of workers ends.
use Rattle.std.specs.Prelude.{◌≡◌, ◌⊎◌, ◌+◌, ◌*◌, ℕ, Bool, true, false, List, [], ◌≤◌, length, map, IfErr, IfOk, IsSome, OnOk, Result}
use Rattle.std.specs.List.{AllByRecursion, sum_by}
use Rattle.std.specs.Result.{result_err}
use mathlib.Core.List.{IsPrefix}
use Rattle.xet_aggregate.specs.declared.metrics.DeduplicationMetrics.{DeduplicationMetrics}
use Rattle.xet_choices.specs.declared.choice.Choice.{Choice}
use Rattle.xet_clean.specs.Cleaning.{HasReason}
use Rattle.xet_clean.specs.Closing.{IsAtMost}
use Rattle.xet_clean.specs.Merging.{IsUnmerged, MergesAll, Part}
use Rattle.xet_clean.specs.declared.info.Cleaned.{Cleaned}
use Rattle.xet_clean.specs.declared.working.Working.{Working}
use Rattle.xet_hash.specs.declared.error.StoreError.{StoreError}
use Rattle.xet_hash.specs.declared.error.StoreError.TheVariants.{OutOfMemory}
use Rattle.xet_locked_session.specs.Passes.{IsSeen, own_numbers}
use Rattle.xet_locked_session.specs.Session.{IsSince}
use Rattle.xet_locked_session.specs.Shared.{HaveEnded, HaveMade}
use Rattle.xet_shared_history.specs.Owned.{HasEachOnce}
use Rattle.xet_store.specs.Alone.{IsAlone, alone_of}
use Rattle.xet_store.specs.Holders.{Holder, seen}
use Rattle.xet_store.specs.Recorded.{RecordedState}
use Rattle.xet_store_disk.specs.Cleaning.{Adds, AreTaken, EachTold, HasFile, Keeps, Later, chunkings, info_of}
use Rattle.xet_store_disk.specs.Separate.{Separate}
use Rattle.xet_store_disk.specs.Store.{plan_of}
use Rattle.xet_store_disk.specs.declared.info.XetFileInfo.{XetFileInfo}
use Rattle.xet_workers.specs.Cleaning.{GrowsBy, IsBoundedBy, IsCleanedBy}

-- ---- the session is closed

-- All passes were returned, and no step failed.
pub record IsClosed (old mid : RecordedState) (passes : List Holder) : Type 0 where
  pub since : IsSince old mid
  pub made : HaveMade old mid
  pub known : AllByRecursion IsSeen passes
  pub seen : AllByRecursion (λ p. IsPrefix (seen p) mid.history) passes
  pub own : HasEachOnce (length old.history) (length mid.history) (own_numbers passes)

-- Steps were made, and perhaps the last one failed.
pub record IsLeft (old new : RecordedState) : Type 0 where
  pub since : IsSince old new
  pub made : HaveMade old new ⊎ HaveEnded old new

-- The same, and all passes were returned.
pub record IsLeftWith (old new : RecordedState) (passes : List Holder) : Type 0 where
  pub is : IsLeft old new
  pub known : AllByRecursion IsSeen passes
  pub seen : AllByRecursion (λ p. IsPrefix (seen p) new.history) passes
  pub own : HasEachOnce (length old.history) (length new.history) (own_numbers passes)

-- ---- the parts are merged

-- One caller alone merged the parts over a store.
pub record MergedAlone (mid new : RecordedState) (ps : List Part) (infos : List XetFileInfo) (choices : List (List Choice)) (metrics : DeduplicationMetrics) : Type 0 where
  pub stopped : Bool
  pub alone : IsAlone mid new stopped
  pub merged : MergesAll ps (alone_of mid mid false) (alone_of mid new stopped) infos choices metrics

-- It did not, with this error. It added at most two entries for each chunk and each file that was left of what was made of the
-- parts.
pub record UnmergedAlone (mid new : RecordedState) (ps : List Part) (workings : List Working) (e : StoreError) : Type 0 where
  pub stopped : Bool
  pub alone : IsAlone mid new stopped
  pub refused : IsUnmerged ps (alone_of mid mid false) (alone_of mid new stopped) e
  pub few : IsAtMost (sum_by (λ w. 2 * length w.aggregate.chunks + 2 * length w.aggregate.files) workings) (alone_of mid mid false) (alone_of mid new stopped)

-- The session was closed, and then the parts were merged.
pub record HasMerged (old new : RecordedState) (passes : List Holder) (ps : List Part) (infos : List XetFileInfo) (choices : List (List Choice)) (metrics : DeduplicationMetrics) : Type 0 where
  pub mid : RecordedState
  pub closed : IsClosed old mid passes
  pub merged : MergedAlone mid new ps infos choices metrics

-- The session was closed, and then the parts were not merged.
pub record HasNotMerged (old new : RecordedState) (passes : List Holder) (ps : List Part) (workings : List Working) (e : StoreError) : Type 0 where
  pub mid : RecordedState
  pub closed : IsClosed old mid passes
  pub refused : UnmergedAlone mid new ps workings e

-- Why the parts were not merged: a step failed or a record was rejected; or the session was stopped, and the error is
-- `OutOfMemory`.
abbrev pub IsUnended : RecordedState → RecordedState → List Holder → List Part → List Working → StoreError → Type 0
IsUnended old new passes ps workings e = HasNotMerged old new passes ps workings e ⊎ ((e ≡ OutOfMemory) × IsLeftWith old new passes)

-- ---- what is promised

-- all that is promised of a result
pub record Promises {S : Type 0} (workers : ℕ) (tells : S → Bool) (left : S → List ℕ) (faults : S → ℕ) (sources now : List S) (old new : RecordedState) (r : Result Cleaned StoreError) : Type 0 where
  pub infos : IfOk r (λ c. EachTold tells left (λ bytes info. info ≡ info_of old.store.limits bytes) sources c.infos.items)
  pub read : OnOk r (AllByRecursion (λ s. tells s ≡ true → left s ≡ []) now)
  pub short : OnOk r (AllByRecursion (λ s. tells s ≡ true → length (left s) ≤ old.store.limits.max_source_bytes) sources)
  pub files : old.store.tells ≡ true → AllByRecursion (λ s. tells s ≡ true) sources → Separate new.store (chunkings left old.store.limits sources)
      → OnOk r (AllByRecursion (HasFile new.store) (chunkings left old.store.limits sources))
  pub recorded : IfOk r (λ c. AllByRecursion (λ info. IsSome (plan_of new.store.records info.hash)) c.infos.items)
  pub cleaned : IfOk r (λ c. IsCleanedBy workers tells left sources old new c.infos.items c.choices.items c.metrics)
  pub keeps : Keeps old.store new.store
  pub steps : GrowsBy (result_err r) old new
  pub adds : IfOk r (λ c. Adds old.store.records new.store.records (map (λ info. info.hash) c.infos.items))
  pub tell : map tells now ≡ map tells sources
  pub taken : AreTaken tells left sources now
  pub later : Later faults sources now
  pub reason : IfErr r (HasReason tells left faults sources now old new)
  pub bound : IfErr r (λ e. IsBoundedBy workers tells left sources now old new)
