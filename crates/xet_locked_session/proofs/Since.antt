-- A session after a step.
use Rattle.std.proofs.Common.{ℕ, [], ◌++◌, Result, arith}
use Rattle.xet_hash.specs.declared.error.StoreError.{StoreError}
use Rattle.xet_store.specs.Recorded.{RecordedState}
use Rattle.xet_store.specs.theorems.Joining.{steps_both, steps_nothing}
use Rattle.xet_locked_session.specs.Session.{IsSince}
use Rattle.xet_locked_session.specs.internal.Made.{Grew}
use Rattle.xet_locked_session.proofs.Made.{fault_count-append}

pub since_nothing : (s : RecordedState) → IsSince s s
since_nothing s = record { since = []; steps = steps_nothing s; failures = omega arith }

pub since_more : {T : Type 0} (start now new : RecordedState) (pass : ℕ) (r : Result T StoreError) → IsSince start now → Grew pass r now new → IsSince start new
since_more start now new pass r is grew = record {
  since = is.since ++ grew.added;
  steps = steps_both start now new is.since grew.added is.steps grew.steps;
  failures = omega (arith, is.failures, grew.risen, fault_count-append is.since grew.added);
}
