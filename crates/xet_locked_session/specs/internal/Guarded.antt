-- A session of which the first step that fails may be the last one.
use Rattle.std.specs.Prelude.{◌≡◌, ◌⊎◌, Bool, true, false, List, [], ◌++◌, ℕ}
use Rattle.xet_hash.specs.declared.error.StoreError.{StoreError}
use Rattle.xet_history.specs.declared.entry.Entry.{Entry}
use Rattle.xet_store.specs.Alone.{MayBeAsked, Step, attempted, cut_of, kind_of}
use Rattle.xet_store.specs.Changes.{ChangesFiles, Tries}
use Rattle.xet_store.specs.Recorded.{RecordedState, core_of}
use Rattle.xet_store.specs.Steps.{fault_entries}
use Rattle.xet_locked_session.specs.Shared.{HaveEnded, HaveMade, StepOf}

-- Between two states of a store one step of a pass was completed.
pub record HasStep (pass : ℕ) (old new : RecordedState) : Type 0 where
  pub added : List Entry
  pub history : new.history ≡ old.history ++ added
  pub step : StepOf old.store.limits pass (core_of old) added
  pub changes : ChangesFiles [] old new added

-- One step of a pass failed with this error.
pub record HasFailed (pass : ℕ) (old new : RecordedState) (error : StoreError) : Type 0 where
  pub step : Step
  pub asked : MayBeAsked old.store.limits step
  pub done : List Entry
  pub completed : (done ≡ []) ⊎ (done ≡ cut_of pass old.store.limits.shard_target step (core_of old))
  pub history : new.history ≡ old.history ++ (done ++ fault_entries pass (kind_of step) error)
  pub tries : Tries old new (attempted pass old.store.limits.shard_target step (core_of old))

-- If the first step that fails is the last one: since the session was made completed steps were made, and, once the last step was
-- made, perhaps one more that failed.
pub record IsGuarded (start : RecordedState) (stops stopped : Bool) (now : RecordedState) : Type 0 where
  pub going : stops ≡ true → stopped ≡ false → HaveMade start now
  pub made : stops ≡ true → HaveMade start now ⊎ HaveEnded start now
