-- How the history grew: steps of passes, and then steps of one caller alone.
use Rattle.std.proofs.Common.{◌≡◌, ◌∙◌, ◌⊎◌, inl, inr, ℕ, zero, suc, ◌+◌, ◌≤◌, Bool, true, false, List, [], ◌++◌, append_assoc, Some, None, refl, sym, ap, subst, arith}
use Rattle.std.specs.Prelude.{Any}
use Rattle.std.proofs.lemmas.List.{append-nil, append_cancel_left}
use Rattle.xet_cut.specs.declared.limits.LimitSettings.{LimitSettings}
use Rattle.xet_hash.specs.declared.error.Place.TheVariants.{Disk}
use Rattle.xet_hash.specs.declared.error.StoreError.{StoreError}
use Rattle.xet_hash.specs.declared.error.StoreError.TheVariants.{Io}
use Rattle.xet_history.specs.Core.{Core}
use Rattle.xet_history.specs.History.{after_all, complete_entries, query_entries, register_entries}
use Rattle.xet_history.specs.declared.entry.Entry.{Entry}
use Rattle.xet_history.specs.theorems.Joining.{after_all-append}
use Rattle.xet_io.specs.Faults.{Rose}
use Rattle.xet_locked_session.specs.Session.{HasRisenBy, IsSince, fault_count}
use Rattle.xet_workers.proofs.Failures.{counted_fault, fault_count-append, fault_counted, steps_calm, until_failed}
use Rattle.xet_locked_session.specs.Shared.{HaveEnded, HaveMade, MakesStepsBy, MakesStepsByUntil, StepOf, StepsBy}
use Rattle.xet_store.specs.Alone.{IsAlone, IsFault, MakesSteps, MakesStepsUntil, MayBeAsked, StepsTo, StepsUntil, attempted, cut_of, kind_of}
use Rattle.xet_store.specs.Changes.{ChangesFiles, files_of}
use Rattle.xet_store.specs.Recorded.{RecordedState, core_of}
use Rattle.xet_store.specs.Steps.{Steps, fault_entries}
use Rattle.xet_store.specs.theorems.Changing.{changes_then}
use Rattle.xet_store.specs.theorems.Joining.{steps_both}
use Rattle.xet_workers.specs.Cleaning.{GrowsBy, MadeBy}
use Rattle.xet_workers.specs.internal.Ending.{IsLeft}

-- ---- steps of one pass, as steps of passes

module _ (limits : LimitSettings) (c : Core) where
  -- after other steps
  steps_after : (xs ys : List Entry) → StepsBy limits c xs → StepsBy limits (after_all c xs) ys → StepsBy limits c (xs ++ ys)
  steps_after xs ys first StepsBy.begins = subst (StepsBy limits c) (sym (append-nil xs)) first
  steps_after xs ys first (StepsBy.more es added pass steps step) =
      subst (StepsBy limits c) (append_assoc xs es added)
      (StepsBy.more (xs ++ es) added pass (steps_after xs es first steps) (subst (λ (d : Core). StepOf limits pass d added) (sym (after_all-append c xs es)) step))

pub steps_of_one : (limits : LimitSettings) (pass : ℕ) (c : Core) (es : List Entry) → StepsTo limits pass c es → StepsBy limits c es
steps_of_one limits pass c es StepsTo.begins = StepsBy.begins
steps_of_one limits pass c es (StepsTo.asks before hashes reply steps) = StepsBy.more before (query_entries pass hashes reply) pass (steps_of_one limits pass c before steps) (StepOf.asks hashes reply)
steps_of_one limits pass c es (StepsTo.registers before leaves next steps asked due) =
    StepsBy.more before (register_entries pass (after_all c before) limits.shard_target leaves next) pass (steps_of_one limits pass c before steps) (StepOf.registers leaves next asked due)
steps_of_one limits pass c es (StepsTo.completes before file steps form completes) =
    StepsBy.more before (complete_entries pass (after_all c before) limits.shard_target file) pass (steps_of_one limits pass c before steps) (StepOf.completes file form completes)

-- ---- two parts of a history

-- what was added is what was added
pub same_since : (old new : RecordedState) (xs ys : List Entry) → new.history ≡ old.history ++ xs → new.history ≡ old.history ++ ys → xs ≡ ys
same_since old new xs ys first second = append_cancel_left old.history xs ys (sym first ∙ second)

-- the disk's count rose between two states
rose_first : (old mid new n : ℕ) → HasRisenBy n old mid → mid ≤ new → 1 ≤ n → Rose old new
rose_first old mid new n risen later some = omega (arith, risen, later, some)

pub rose_left : (old new : RecordedState) (is : IsSince old new) → Any IsFault is.since → Rose old.store.faults new.store.faults
rose_left old new is any = rose_first old.store.faults new.store.faults new.store.faults (fault_count is.since) is.failures (omega arith) (fault_counted is.since any)

module _ (old mid new : RecordedState) (stopped : Bool) (since : IsSince old mid) (alone : IsAlone mid new stopped) where
  pub all_steps : Steps old new (since.since ++ alone.since)
  all_steps = steps_both old mid new since.since alone.since since.steps alone.steps

  pub all_rose : Any IsFault (since.since ++ alone.since) → Rose old.store.faults new.store.faults
  all_rose any = go (fault_count since.since) refl
    where
      total : 1 ≤ fault_count since.since + fault_count alone.since
      total = omega (arith, fault_counted (since.since ++ alone.since) any, fault_count-append since.since alone.since)

      go : (n : ℕ) → fault_count since.since ≡ n → Rose old.store.faults new.store.faults
      go (suc n) is = rose_first old.store.faults mid.store.faults new.store.faults (fault_count since.since) since.failures alone.steps.keeps.later (omega (arith, is))
      go zero is =
          let rose : Rose mid.store.faults new.store.faults = alone.rose (counted_fault alone.since (omega (arith, total, is))) in
          omega (arith, rose, since.steps.keeps.later)

  module _ (made : HaveMade old mid) where
    first : MakesStepsBy old mid since.since
    first = subst (MakesStepsBy old mid) (same_since old mid made.since since.since made.history since.steps.moves.history) made.made

    limits_are : mid.store.limits ≡ old.store.limits
    limits_are = since.steps.keeps.limits

    -- from the core of the middle on
    moved : (es : List Entry) → StepsBy mid.store.limits (core_of mid) es → StepsBy old.store.limits (after_all (core_of old) since.since) es
    moved es steps = subst (λ (c : Core). StepsBy old.store.limits c es) since.steps.moves.leads (subst (λ (s : LimitSettings). StepsBy s (core_of mid) es) limits_are steps)

    front : (es : List Entry) → StepsTo mid.store.limits 0 (core_of mid) es → StepsBy old.store.limits (core_of old) (since.since ++ es)
    front es steps = steps_after old.store.limits (core_of old) since.since es first.steps (moved es (steps_of_one mid.store.limits 0 (core_of mid) es steps))

    -- what has changed on the disk
    changed : (tried : List (List ℕ)) (es : List Entry) → ChangesFiles tried mid new es → ChangesFiles tried old new (since.since ++ es)
    changed tried es next = changes_then old mid new [] tried since.since es since.steps.keeps.tells since.steps.keeps.folder first.changes next

    whole_by : MakesSteps mid new alone.since → MakesStepsBy old new (since.since ++ alone.since)
    whole_by m = record { steps = front alone.since m.steps; changes = changed [] alone.since m.changes }

    core_then : (es : List Entry) → after_all (core_of mid) es ≡ after_all (core_of old) (since.since ++ es)
    core_then es = ap (λ (c : Core). after_all c es) since.steps.moves.leads ∙ sym (after_all-append (core_of old) since.since es)

    until_by : (e : StoreError) → MakesStepsUntil e mid new alone.since → MakesStepsByUntil e old new (since.since ++ alone.since)
    until_by e m = record {
      steps = record {
        before = since.since ++ u.before;
        steps = front u.before u.steps;
        pass = 0;
        step = u.step;
        asked = subst (λ (s : LimitSettings). MayBeAsked s u.step) limits_are u.asked;
        done = u.done;
        completed = completed;
        is = ap (λ (es : List Entry). since.since ++ es) u.is ∙ sym (append_assoc since.since u.before (u.done ++ fault_entries 0 (kind_of u.step) e));
      };
      changes = subst (λ (tried : List (List ℕ)). ChangesFiles tried old new (since.since ++ alone.since)) tried_same (changed (tried mid u.before) alone.since m.changes);
    }
      where
        u : StepsUntil mid.store.limits 0 (core_of mid) e alone.since
        u = m.steps

        completed : (u.done ≡ []) ⊎ (u.done ≡ cut_of 0 old.store.limits.shard_target u.step (after_all (core_of old) (since.since ++ u.before)))
        completed =
            subst (λ (s : LimitSettings). (u.done ≡ []) ⊎ (u.done ≡ cut_of 0 s.shard_target u.step (after_all (core_of old) (since.since ++ u.before)))) limits_are
            (subst (λ (c : Core). (u.done ≡ []) ⊎ (u.done ≡ cut_of 0 mid.store.limits.shard_target u.step c)) (core_then u.before) u.completed)

        -- the files of the step that failed
        tried : RecordedState → List Entry → List (List ℕ)
        tried s es = files_of s.store.folder (attempted 0 s.store.limits.shard_target u.step (after_all (core_of s) es))

        tried_same : tried mid u.before ≡ tried old (since.since ++ u.before)
        tried_same = λ i. files_of (since.steps.keeps.folder i) (attempted 0 (limits_are i).shard_target u.step (core_then u.before i))

    -- no step failed
    pub grows_whole : stopped ≡ false → GrowsBy None old new
    grows_whole going = record { entries = since.since ++ alone.since; steps = all_steps; made = whole_by (alone.whole going); rose = all_rose }

    -- perhaps one did
    either_by : (b : Bool) → stopped ≡ b → MakesStepsBy old new (since.since ++ alone.since) ⊎ ((error : StoreError) × MakesStepsByUntil error old new (since.since ++ alone.since))
    either_by true is = let u = alone.until is in inr (u.0, until_by u.0 u.1)
    either_by false is = inl (whole_by (alone.whole is))

    made_by_error : (e : StoreError) → (e ≡ Io Disk → Any IsFault alone.since) → MadeBy (Some e) old new (since.since ++ alone.since)
    made_by_error (Io Disk) disk = until_by (Io Disk) (alone.disk (disk refl)).1
    made_by_error e disk = either_by stopped refl

    pub grows_failed : (e : StoreError) → (e ≡ Io Disk → Any IsFault alone.since) → GrowsBy (Some e) old new
    grows_failed e disk = record { entries = since.since ++ alone.since; steps = all_steps; made = made_by_error e disk; rose = all_rose }

-- ---- a session that was left

module _ (old new : RecordedState) (left : IsLeft old new) where
  abbrev Made : List Entry → Type 0
  Made es = MakesStepsBy old new es ⊎ ((error : StoreError) × MakesStepsByUntil error old new es)

  left_either : Made left.since.since
  left_either = go left.made
    where
      go : HaveMade old new ⊎ HaveEnded old new → Made left.since.since
      go (inl made) = inl (subst (MakesStepsBy old new) (same_since old new made.since left.since.since made.history left.since.steps.moves.history) made.made)
      go (inr ended) = inr (ended.error, subst (MakesStepsByUntil ended.error old new) (same_since old new ended.since left.since.since ended.history left.since.steps.moves.history) ended.made)

  -- with a failure of the disk, the last step failed by it
  left_disk : 1 ≤ fault_count left.since.since → MakesStepsByUntil (Io Disk) old new left.since.since
  left_disk some = go left_either
    where
      go : Made left.since.since → MakesStepsByUntil (Io Disk) old new left.since.since
      go (inl made) = absurd (omega (arith, some, steps_calm old.store.limits (core_of old) left.since.since made.steps))
      go (inr ended) = by (until_failed old.store.limits (core_of old) ended.0 left.since.since ended.1.steps)
        where
          by : (fault_count left.since.since ≡ 0) ⊎ ((fault_count left.since.since ≡ 1) × (ended.0 ≡ Io Disk)) → MakesStepsByUntil (Io Disk) old new left.since.since
          by (inl none) = absurd (omega (arith, some, none))
          by (inr one) = subst (λ (e : StoreError). MakesStepsByUntil e old new left.since.since) one.1 ended.1

  left_made : (e : StoreError) → (e ≡ Io Disk → 1 ≤ fault_count left.since.since) → MadeBy (Some e) old new left.since.since
  left_made (Io Disk) disk = left_disk (disk refl)
  left_made e disk = left_either

  pub grows_left : (e : StoreError) → (e ≡ Io Disk → 1 ≤ fault_count left.since.since) → GrowsBy (Some e) old new
  grows_left e disk = record { entries = left.since.since; steps = left.since.steps; made = left_made e disk; rose = rose_left old new left.since }
