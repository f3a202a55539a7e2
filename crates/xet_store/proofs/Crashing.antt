-- A crash inside a step, or at its exit.
use Rattle.std.proofs.Common.{◌≡◌, ◌⊎◌, inl, inr, ℕ, List, Result, Ok, Err, OnOk, IfErr, sym, ap, subst}
use Rattle.xet_hash.specs.declared.error.StoreError.{StoreError}
use Rattle.xet_history.specs.declared.entry.Entry.{Entry}
use Rattle.xet_history.specs.declared.entry.StepKind.{StepKind}
use Rattle.xet_shard_format.specs.declared.record.MDBFileInfo.{MDBFileInfo}
use Rattle.xet_store_disk.specs.Cleaning.{Keeps}
use Rattle.xet_store_disk.specs.Crash.{CrashSafe}
use Rattle.xet_store_disk.specs.Store.{Sound, State}
use Rattle.xet_store_disk.specs.theorems.Crashing.{crash_safe}
use Rattle.xet_store_disk.specs.theorems.Keeping.{keeps_nothing}
use Rattle.xet_store.specs.Recorded.{RecordedState}
use Rattle.xet_store.specs.Steps.{IsOtherFile, Refuses, Steps}

module _ (old new : RecordedState) (sound : Sound old.store) (pass : ℕ) (kind : StepKind) (cut entries : List Entry) where
  pub crash_step : {T : Type 0} (r : Result T StoreError) → OnOk r (Steps old new entries) → IfErr r (Refuses pass kind cut old new) → CrashSafe old.store new.store
  crash_step (Ok x) steps refused = crash_safe old.store new.store sound steps.keeps
  crash_step (Err e) steps refused = crash_safe old.store new.store sound refused.steps.keeps

  pub crash_completing : {T : Type 0} (file : MDBFileInfo) (r : Result T StoreError) → OnOk r (Steps old new entries) → IfErr r (λ e. IsOtherFile old new file e ⊎ Refuses pass kind cut old new e)
      → CrashSafe old.store new.store
  crash_completing file (Ok x) steps refused = crash_safe old.store new.store sound steps.keeps
  crash_completing file (Err e) steps (inl other) = crash_safe old.store new.store sound (subst (λ (s : State). Keeps old.store s) (sym (ap (λ (s : RecordedState). s.store) other.same)) (keeps_nothing old.store))
  crash_completing file (Err e) steps (inr refused) = crash_safe old.store new.store sound refused.steps.keeps
