-- What a step that failed, of a store that one caller has alone, is for its holder.
use Rattle.std.proofs.Common.{◌≡◌, ◌≢◌, ◌⊎◌, inl, inr, ◌∙◌, ℕ, ◌+◌, Bool, true, false, List, [], ◌∷◌, ◌++◌, length, refl, sym, ap, subst, arith, length-append}
use Rattle.std.specs.Prelude.{Any, if◌then◌else◌}
use Rattle.std.proofs.lemmas.Bool.{false≢true}
use Rattle.std.proofs.lemmas.List.{length-map}
use Rattle.xet_hash.specs.declared.error.Place.TheVariants.{Disk}
use Rattle.xet_hash.specs.declared.error.StoreError.{StoreError}
use Rattle.xet_hash.specs.declared.error.StoreError.TheVariants.{Io, MalformedData, OutOfMemory, TooLarge}
use Rattle.xet_hash.specs.declared.error.What.TheVariants.{Shards}
use Rattle.xet_completion.specs.Completing.{Completes}
use Rattle.xet_cut.specs.declared.limits.LimitSettings.{LimitSettings}
use Rattle.xet_history.specs.Core.{Core, RegisteredShard, is_cut_due, pending_hash}
use Rattle.xet_history.specs.History.{after_all, complete_entries, cut_entries}
use Rattle.xet_history.specs.declared.entry.Entry.{Entry}
use Rattle.xet_history.specs.declared.entry.Entry.TheVariants.{Flush}
use Rattle.xet_history.specs.declared.entry.StepKind.{StepKind}
use Rattle.xet_history.specs.declared.entry.StepKind.TheVariants as kind
use Rattle.xet_io.specs.Faults.{Rose}
use Rattle.xet_shard_format.specs.Records.{IsFile}
use Rattle.xet_shard_format.specs.declared.record.MDBFileInfo.{MDBFileInfo}
use Rattle.xet_store.specs.Changes.{Tries, files_of}
use Rattle.xet_store.specs.Recorded.{AreShards, RecordedState, core_of}
use Rattle.xet_store.specs.Steps.{FailsAsking, IsOtherFile, IsStepError, Refuses, Steps, fault_entries}
use Rattle.xet_store.specs.theorems.Changing.{changes_nothing, changes_unread}
use Rattle.xet_store.specs.theorems.Joining.{steps_nothing}
use Rattle.xet_store_disk.specs.Asking.{IsAskingError}
use Rattle.xet_store_disk.specs.Ranges.{IsUnchanged}
use Rattle.xet_store_disk.specs.Store.{State}
use Rattle.xet_store.specs.Alone.{IsAlone, IsFault, MayBeAsked, Step, alone_of, attempted, cut_of, kind_of}
use Rattle.xet_store.specs.Holders.{Holder, core_found}
use Rattle.xet_store.specs.Stepping.{IsStepReason, SawError, SawOther, no_cut}
use Rattle.xet_store.proofs.Entries.{done_cases, size_of}
use Rattle.xet_store.proofs.Growing.{found_alone, holder_ended, stopped_parts}
use Rattle.xet_store.proofs.Steps.{alone_failed, limits_now, no_fault}

-- the disk failed, if there is an entry of that
rose_of_step : (k : StepKind) (cut : List Entry) (s : State) (now : ℕ) (e : StoreError) → IsStepError k cut s now e → Any IsFault (fault_entries 0 k e) → Rose s.faults now
rose_of_step k cut s now (Io Disk) rose any = rose
rose_of_step k cut s now e reason any = absurd (no_fault [] tt any)

rose_of_query : (tells : Bool) (before now : ℕ) (e : StoreError) → IsAskingError tells before now e → Any IsFault (fault_entries 0 kind.Query e) → Rose before now
rose_of_query tells before now (Io Disk) rose any = rose
rose_of_query tells before now e reason any = absurd (no_fault [] tt any)

-- the reasons
reason_of_step : (k : StepKind) (tells : Bool) (cut : List Entry) (s : State) (now : ℕ) (c : Core) (e : StoreError) → k ≢ kind.Flush → length s.shards ≡ length c.shards → IsStepError k cut s now e → IsStepReason k tells cut c e
reason_of_step k tells cut s now c (Io Disk) other same reason = tt
reason_of_step k tells cut s now c OutOfMemory other same reason = tt
reason_of_step k tells cut s now c (TooLarge Shards) other same reason = (omega (arith, reason.0.full, same), is_due reason.1)
  where
    is_due : (k ≡ kind.Flush) ⊎ (cut ≢ []) → cut ≢ []
    is_due (inl flush) = absurd (other flush)
    is_due (inr some) = some
reason_of_step k tells cut s now c e other same reason = absurd reason

reason_of_query : (tells : Bool) (before now : ℕ) (c : Core) (e : StoreError) → IsAskingError tells before now e → IsStepReason kind.Query tells [] c e
reason_of_query tells before now c (Io Disk) reason = tt
reason_of_query tells before now c OutOfMemory reason = tt
reason_of_query tells before now c (MalformedData why) reason = reason
reason_of_query tells before now c e reason = absurd reason

-- if it is refused for the number of shards, no cut was completed
no_cut_if_full : (k : StepKind) (now new : RecordedState) (target bytes : ℕ) (done cut : List Entry) (e : StoreError) → AreShards now.store now.shards → Steps now new (done ++ fault_entries 0 k e) → IsStepError k cut now.store new.store.faults e
    → (done ≡ []) ⊎ (done ≡ cut_entries 0 (core_of now) target bytes) → e ≡ TooLarge Shards → done ≡ []
no_cut_if_full k now new target bytes done cut e are steps reason (inl none) full = none
no_cut_if_full k now new target bytes done cut e are steps reason (inr is) full = go (is_cut_due (core_of now) target bytes) is
  where
    flush : List Entry
    flush = Flush 0 (pending_hash (core_of now)) ∷ []

    counted : (s : RecordedState) → AreShards s.store s.shards → length s.shards ≡ length s.store.shards
    counted s are = sym (length-map s.shards (λ (r : RegisteredShard). r.hash)) ∙ ap (λ (l : List (List ℕ)). length l) are.registered

    many : done ≡ flush → length new.shards ≡ length now.shards + 1
    many is =
        let leads : core_of new ≡ after_all (core_of now) (flush ++ fault_entries 0 k (TooLarge Shards)) = steps.moves.leads ∙ (λ i. after_all (core_of now) (is i ++ fault_entries 0 k (full i))) in
        ap (λ (d : Core). length d.shards) leads ∙ length-append now.shards _

    go : (b : Bool) → done ≡ (if b then flush else []) → done ≡ []
    go false d = d
    go true d =
        let later = steps.shards are in
        let reasons = subst (λ (x : StoreError). IsStepError k cut now.store new.store.faults x) full reason in
        absurd (omega (arith, many d, counted now are, counted new later, later.few, reasons.0.full))

-- a holder that has stopped
pub saw_stopped : (k : StepKind) (cut : Core → List Entry) (h : Holder) → h.stopped ≡ true → SawError k cut h h OutOfMemory
saw_stopped k cut h stopped = record {
  others = [];
  done = [];
  completed = inl refl;
  still = λ s. (refl, refl);
  is = stopped_parts h stopped;
  full = λ bad. refl;
  reason = tt;
}

module _ (start now new : RecordedState) (is : IsAlone start now false) (e : StoreError) where
  abbrev before : Holder
  before = alone_of start now false

  abbrev after : Holder
  after = alone_of start new true

  abbrev c : Core
  c = core_of now

  found_is : core_found before [] ≡ c
  found_is = found_alone start now false false is

  -- a query
  pub saw_query_error : FailsAsking 0 now new e → SawError kind.Query no_cut before after e
  saw_query_error fails = record {
    others = [];
    done = [];
    completed = inl refl;
    still = λ bad. absurd (false≢true bad);
    is = holder_ended start now new (fault_entries 0 kind.Query e) is fails.steps;
    full = λ bad. refl;
    reason = reason_of_query start.store.tells now.store.faults new.store.faults (core_found before []) e (subst (λ (t : Bool). IsAskingError t now.store.faults new.store.faults e) is.steps.keeps.tells fails.reason);
  }

  pub alone_query_error : FailsAsking 0 now new e → IsUnchanged now.store new.store → IsAlone start new true
  alone_query_error fails unchanged =
      alone_failed start now is new Step.asks tt e [] (inl refl) fails.steps (changes_unread now new [] unchanged) (rose_of_query now.store.tells now.store.faults new.store.faults e fails.reason)

  -- a step before which a cut may be due
  module _ (step : Step) (fails : Refuses 0 (kind_of step) (cut_of 0 now.store.limits.shard_target step c) now new e) where
    abbrev k : StepKind
    k = kind_of step

    abbrev cut : Core → List Entry
    cut d = cut_of 0 start.store.limits.shard_target step d

    cut_is : cut_of 0 now.store.limits.shard_target step c ≡ cut c
    cut_is = ap (λ (l : LimitSettings). cut_of 0 l.shard_target step c) (limits_now start now is new)

    completed : (fails.done ≡ []) ⊎ (fails.done ≡ cut c)
    completed = subst (λ (es : List Entry). (fails.done ≡ []) ⊎ (fails.done ≡ es)) cut_is fails.completed

    reason : IsStepError k (cut c) now.store new.store.faults e
    reason = subst (λ (es : List Entry). IsStepError k es now.store new.store.faults e) cut_is fails.reason

    pub saw_error : k ≢ kind.Flush → AreShards now.store now.shards → SawError k cut before after e
    saw_error other are = record {
      others = [];
      done = fails.done;
      completed = subst (λ (d : Core). (fails.done ≡ []) ⊎ (fails.done ≡ cut d)) (sym found_is) completed;
      still = λ bad. absurd (false≢true bad);
      is = holder_ended start now new (fails.done ++ fault_entries 0 k e) is fails.steps;
      full = no_cut_if_full k now new start.store.limits.shard_target (size_of step) fails.done (cut c) e are fails.steps reason (done_cases 0 start.store.limits.shard_target step c fails.done completed);
      reason = subst (λ (d : Core). IsStepReason k start.store.tells (cut d) d e) (sym found_is)
          (reason_of_step k start.store.tells (cut c) now.store new.store.faults c e other (sym (ap (λ (l : List (List ℕ)). length l) are.registered) ∙ length-map now.shards (λ (r : RegisteredShard). r.hash)) reason);
    }

    pub alone_error : MayBeAsked start.store.limits step → Tries now new (attempted 0 now.store.limits.shard_target step c) → IsAlone start new true
    alone_error asked tries = alone_failed start now is new step asked e fails.done completed fails.steps tries (rose_of_step k (cut c) now.store new.store.faults e reason)

  -- a file that may not be recorded
  pub saw_other : (file : MDBFileInfo) → IsOtherFile now new file e → SawOther file before after e
  saw_other file other = record {
    others = [];
    going = refl;
    is = holder_ended start now new [] is (subst (λ (s : RecordedState). Steps now s []) (sym other.same) (steps_nothing now));
    error = other.error;
    not = λ can. other.not (subst (λ (d : Core). Completes d.xorbs file) found_is can);
  }

  pub alone_other : (file : MDBFileInfo) → IsFile file → IsOtherFile now new file e → IsAlone start new true
  alone_other file form other =
      let steps : Steps now new [] = subst (λ (s : RecordedState). Steps now s []) (sym other.same) (steps_nothing now) in
      let none : fault_entries 0 kind.Complete e ≡ [] = ap (fault_entries 0 kind.Complete) other.error in
      alone_failed start now is new (Step.completes file) form e [] (inl refl) (subst (Steps now new) (sym none) steps)
      (changes_nothing (files_of now.store.folder (complete_entries 0 c now.store.limits.shard_target file)) now new [] other.same) (λ any. absurd (no_fault [] tt (subst (Any IsFault) none any)))
