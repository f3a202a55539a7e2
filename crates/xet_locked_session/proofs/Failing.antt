-- What a step that failed is for the pass that made it.
use Rattle.std.proofs.Common.{◌≡◌, ◌≢◌, ◌⊎◌, inl, inr, ◌∙◌, ℕ, ◌+◌, Bool, true, false, List, [], ◌∷◌, ◌++◌, length, refl, sym, ap, subst, arith, length-append}
use Rattle.std.specs.Prelude.{if◌then◌else◌}
use Rattle.std.proofs.lemmas.List.{length-map}
use mathlib.Core.List.{IsPrefix}
use Rattle.xet_completion.specs.Completing.{Completes}
use Rattle.xet_cut.specs.declared.limits.LimitSettings.{LimitSettings}
use Rattle.xet_hash.specs.Merkle.{xorb_hash}
use Rattle.xet_hash.specs.declared.error.Place.TheVariants.{Disk}
use Rattle.xet_hash.specs.declared.error.StoreError.{StoreError}
use Rattle.xet_hash.specs.declared.error.StoreError.TheVariants.{Io, MalformedData, OutOfMemory, TooLarge}
use Rattle.xet_hash.specs.declared.error.What.TheVariants.{Shards}
use Rattle.xet_history.specs.Core.{Core, RegisteredShard, has_pending, is_cut_due, is_new, pending_hash}
use Rattle.xet_history.specs.History.{after_all, complete_cut, cut_entries, register_cut}
use Rattle.xet_history.specs.declared.entry.Entry.{Entry}
use Rattle.xet_history.specs.declared.entry.Entry.TheVariants.{Flush}
use Rattle.xet_history.specs.declared.entry.StepKind.{StepKind}
use Rattle.xet_history.specs.declared.entry.StepKind.TheVariants as kind
use Rattle.xet_shard.specs.Held.{nothing}
use Rattle.xet_shard_format.specs.RecordSizes.{file_record_size, xorb_record_size}
use Rattle.xet_shard_format.specs.Records.{file_record_hash}
use Rattle.xet_shard_format.specs.declared.record.MDBFileInfo.{MDBFileInfo}
use Rattle.xet_shared_history.specs.Owned.{AreOwn}
use Rattle.xet_store.specs.Recorded.{AreShards, RecordedState, core_of}
use Rattle.xet_store.specs.Steps.{FailsAsking, IsOtherFile, IsStepError, Refuses, Steps, fault_entries}
use Rattle.xet_store.specs.Holders.{Holder, core_found}
use Rattle.xet_store.specs.Stepping.{IsStepReason, no_cut}
use Rattle.xet_store_disk.specs.Asking.{IsAskingError}
use Rattle.xet_store_disk.specs.Store.{State}
use Rattle.xet_xorb.specs.Raw.{xorb_record}
use Rattle.xet_locked_session.specs.Passes.{FlushFailed, IsFlushReason, OtherFile, StepFailed}
use Rattle.xet_locked_session.specs.Session.{IsSince}
use Rattle.xet_locked_session.proofs.Growing.{after, before, found_is, grown_is}
use Rattle.xet_locked_session.proofs.Pending.{pending_cases}

-- ---- reasons

reason_of_step : (k : StepKind) (tells : Bool) (cut : List Entry) (s : State) (now : ℕ) (c : Core) (e : StoreError) → k ≢ kind.Flush → length s.shards ≡ length c.shards → IsStepError k cut s now e → IsStepReason k tells cut c e
reason_of_step k tells cut s now c (Io Disk) other same reason = tt
reason_of_step k tells cut s now c OutOfMemory other same reason = tt
reason_of_step k tells cut s now c (TooLarge Shards) other same reason = (omega (arith, reason.0.full, same), is_due reason.1)
  where
    is_due : (k ≡ kind.Flush) ⊎ (cut ≢ []) → cut ≢ []
    is_due (inl flush) = absurd (other flush)
    is_due (inr some) = some
reason_of_step k tells cut s now c e other same reason = absurd reason

reason_of_query : (tells : Bool) (before now : ℕ) (c : Core) (e : StoreError) → IsAskingError tells before now e → IsStepReason kind.Query tells [] c e
reason_of_query tells before now c (Io Disk) reason = tt
reason_of_query tells before now c OutOfMemory reason = tt
reason_of_query tells before now c (MalformedData why) reason = reason
reason_of_query tells before now c e reason = absurd reason

reason_of_flush : (s : State) (now : ℕ) (c : Core) (e : StoreError) → s.pending ≡ c.pending → length s.shards ≡ length c.shards → IsStepError kind.Flush [] s now e → IsFlushReason c e
reason_of_flush s now c (Io Disk) pending same reason = tt
reason_of_flush s now c OutOfMemory pending same reason = tt
reason_of_flush s now c (TooLarge Shards) pending same reason = (omega (arith, reason.0.full, same), go (pending_cases c))
  where
    go : (has_pending c ≡ true) ⊎ (c.pending ≡ nothing) → has_pending c ≡ true
    go (inl some) = some
    go (inr none) = absurd (reason.0.some (pending ∙ none))
reason_of_flush s now c e pending same reason = absurd reason

-- the number of registered shards
counted : (s : RecordedState) → AreShards s.store s.shards → length s.store.shards ≡ length s.shards
counted s are = sym (ap (λ (l : List (List ℕ)). length l) are.registered) ∙ length-map s.shards (λ (r : RegisteredShard). r.hash)

-- if it is refused for the number of shards, no cut was completed
no_cut_if_full : (pass : ℕ) (k : StepKind) (now new : RecordedState) (target bytes : ℕ) (done cut : List Entry) (e : StoreError) → AreShards now.store now.shards → Steps now new (done ++ fault_entries pass k e) → IsStepError k cut now.store new.store.faults e
    → (done ≡ []) ⊎ (done ≡ cut_entries pass (core_of now) target bytes) → e ≡ TooLarge Shards → done ≡ []
no_cut_if_full pass k now new target bytes done cut e are steps reason (inl none) full = none
no_cut_if_full pass k now new target bytes done cut e are steps reason (inr is) full = go (is_cut_due (core_of now) target bytes) is
  where
    flush : List Entry
    flush = Flush pass (pending_hash (core_of now)) ∷ []

    many : done ≡ flush → length new.shards ≡ length now.shards + 1
    many is =
        let leads : core_of new ≡ after_all (core_of now) (flush ++ fault_entries pass k (TooLarge Shards)) = steps.moves.leads ∙ (λ i. after_all (core_of now) (is i ++ fault_entries pass k (full i))) in
        ap (λ (d : Core). length d.shards) leads ∙ length-append now.shards _

    go : (b : Bool) → done ≡ (if b then flush else []) → done ≡ []
    go false d = d
    go true d =
        let later = steps.shards are in
        let reasons = subst (λ (x : StoreError). IsStepError k cut now.store new.store.faults x) full reason in
        absurd (omega (arith, many d, counted now are, counted new later, later.few, reasons.0.full))

-- the cut that is due before a step is that of a record, or none
if_new : (b : Bool) (es : List Entry) → ((if b then es else []) ≡ []) ⊎ ((if b then es else []) ≡ es)
if_new true es = inr refl
if_new false es = inl refl

of_cut : (done cut es : List Entry) → (done ≡ []) ⊎ (done ≡ cut) → (cut ≡ []) ⊎ (cut ≡ es) → (done ≡ []) ⊎ (done ≡ es)
of_cut done cut es (inl none) which = inl none
of_cut done cut es (inr all) (inl none) = inl (all ∙ none)
of_cut done cut es (inr all) (inr due) = inr (all ∙ due)

-- ---- steps

module _ (start now new : RecordedState) (is : IsSince start now) (pass : ℕ) (own : List ℕ) (seen known : List Entry) (at : now.history ≡ start.history ++ known) (prefix : IsPrefix seen known)
    (are : AreOwn pass (start.history ++ seen) (length start.history) own) (e : StoreError) where
  abbrev c : Core
  c = core_of now

  abbrev limits : LimitSettings
  limits = start.store.limits

  limits_now : now.store.limits ≡ limits
  limits_now = is.steps.keeps.limits

  pub query_failed : (fails : FailsAsking pass now new e)
      → StepFailed kind.Query no_cut (before start now new is pass own seen known (fault_entries pass kind.Query e) fails.steps at prefix are) (after start now new is pass own seen known (fault_entries pass kind.Query e) fails.steps at prefix are) e
  query_failed fails = record {
    others = prefix.0;
    done = [];
    completed = inl refl;
    is = grown_is start now new is pass own seen known (fault_entries pass kind.Query e) fails.steps at prefix are;
    full = λ bad. refl;
    reason = reason_of_query start.store.tells now.store.faults new.store.faults
        (core_found (before start now new is pass own seen known (fault_entries pass kind.Query e) fails.steps at prefix are) prefix.0) e
        (subst (λ (t : Bool). IsAskingError t now.store.faults new.store.faults e) is.steps.keeps.tells fails.reason);
  }

  -- a step before which a cut may be due
  module _ (k : StepKind) (cut : ℕ → Core → List Entry) (bytes : ℕ) (cuts : (target : ℕ) → (cut target c ≡ []) ⊎ (cut target c ≡ cut_entries pass c target bytes)) (other : k ≢ kind.Flush) (shards : AreShards now.store now.shards)
      (fails : Refuses pass k (cut now.store.limits.shard_target c) now new e) where
    abbrev added : List Entry
    added = fails.done ++ fault_entries pass k e

    abbrev old_pass : Holder
    old_pass = before start now new is pass own seen known added fails.steps at prefix are

    found : core_found old_pass prefix.0 ≡ c
    found = found_is start now new is pass own seen known added fails.steps at prefix are

    abbrev due : Core → List Entry
    due d = cut limits.shard_target d

    due_is : cut now.store.limits.shard_target c ≡ due c
    due_is = ap (λ (l : LimitSettings). cut l.shard_target c) limits_now

    completed : (fails.done ≡ []) ⊎ (fails.done ≡ due c)
    completed = subst (λ (es : List Entry). (fails.done ≡ []) ⊎ (fails.done ≡ es)) due_is fails.completed

    reason : IsStepError k (due c) now.store new.store.faults e
    reason = subst (λ (es : List Entry). IsStepError k es now.store new.store.faults e) due_is fails.reason

    pub step_failed : StepFailed k due old_pass (after start now new is pass own seen known added fails.steps at prefix are) e
    step_failed = record {
      others = prefix.0;
      done = fails.done;
      completed = subst (λ (d : Core). (fails.done ≡ []) ⊎ (fails.done ≡ due d)) (sym found) completed;
      is = grown_is start now new is pass own seen known added fails.steps at prefix are;
      full = no_cut_if_full pass k now new limits.shard_target bytes fails.done (due c) e shards fails.steps reason (of_cut fails.done (due c) (cut_entries pass c limits.shard_target bytes) completed (cuts limits.shard_target));
      reason = subst (λ (d : Core). IsStepReason k start.store.tells (due d) d e) (sym found) (reason_of_step k start.store.tells (due c) now.store new.store.faults c e other (counted now shards) reason);
    }

  pub register_failed : (leaves : List (List ℕ × ℕ)) (shards : AreShards now.store now.shards) (fails : Refuses pass kind.Register (register_cut pass c now.store.limits.shard_target leaves) now new e)
      → StepFailed kind.Register (λ d. register_cut pass d limits.shard_target leaves) (before start now new is pass own seen known (fails.done ++ fault_entries pass kind.Register e) fails.steps at prefix are)
      (after start now new is pass own seen known (fails.done ++ fault_entries pass kind.Register e) fails.steps at prefix are) e
  register_failed leaves shards fails =
      let bytes : ℕ = xorb_record_size (xorb_record (xorb_hash leaves) leaves) in
      step_failed kind.Register (λ target d. register_cut pass d target leaves) bytes (λ target. if_new (is_new c.xorbs (xorb_hash leaves)) (cut_entries pass c target bytes)) (λ bad. cc bad) shards fails

  pub complete_failed : (file : MDBFileInfo) (shards : AreShards now.store now.shards) (fails : Refuses pass kind.Complete (complete_cut pass c now.store.limits.shard_target file) now new e)
      → StepFailed kind.Complete (λ d. complete_cut pass d limits.shard_target file) (before start now new is pass own seen known (fails.done ++ fault_entries pass kind.Complete e) fails.steps at prefix are)
      (after start now new is pass own seen known (fails.done ++ fault_entries pass kind.Complete e) fails.steps at prefix are) e
  complete_failed file shards fails =
      let bytes : ℕ = file_record_size file in
      step_failed kind.Complete (λ target d. complete_cut pass d target file) bytes (λ target. if_new (is_new c.records (file_record_hash file)) (cut_entries pass c target bytes)) (λ bad. cc bad) shards fails

  pub other_file : (file : MDBFileInfo) (other : IsOtherFile now new file e) (steps : Steps now new []) → OtherFile file (before start now new is pass own seen known [] steps at prefix are) (after start now new is pass own seen known [] steps at prefix are) e
  other_file file other steps = record {
    others = prefix.0;
    is = grown_is start now new is pass own seen known [] steps at prefix are;
    error = other.error;
    not = λ can. other.not (subst (λ (d : Core). Completes d.xorbs file) (found_is start now new is pass own seen known [] steps at prefix are) can);
  }

  pub flush_steps : Refuses pass kind.Flush [] now new e → Steps now new (fault_entries pass kind.Flush e)
  flush_steps fails = subst (λ (es : List Entry). Steps now new (es ++ fault_entries pass kind.Flush e)) (go fails.completed) fails.steps
    where
      go : (fails.done ≡ []) ⊎ (fails.done ≡ []) → fails.done ≡ []
      go (inl none) = none
      go (inr none) = none

  pub flush_failed : (shards : AreShards now.store now.shards) (fails : Refuses pass kind.Flush [] now new e) (steps : Steps now new (fault_entries pass kind.Flush e))
      → FlushFailed (before start now new is pass own seen known (fault_entries pass kind.Flush e) steps at prefix are) (after start now new is pass own seen known (fault_entries pass kind.Flush e) steps at prefix are) e
  flush_failed shards fails steps = record {
    others = prefix.0;
    is = grown_is start now new is pass own seen known (fault_entries pass kind.Flush e) steps at prefix are;
    reason = subst (λ (d : Core). IsFlushReason d e) (sym (found_is start now new is pass own seen known (fault_entries pass kind.Flush e) steps at prefix are)) (reason_of_flush now.store new.store.faults c e refl (counted now shards) fails.reason);
  }
