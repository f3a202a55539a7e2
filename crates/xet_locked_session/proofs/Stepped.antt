-- What a step of the store is for the session.
use Rattle.std.proofs.Common.{◌≡◌, ◌∙◌, ◌⊎◌, inl, inr, ℕ, Bool, List, [], ◌++◌, Option, Result, Ok, Err, IfOk, IfErr, OnErr, OnOk, refl, sym, ap, subst}
use Rattle.std.proofs.lemmas.List.{append-nil}
use Rattle.xet_cut.specs.declared.limits.LimitSettings.{LimitSettings}
use Rattle.xet_dedup_queries.specs.Registering.{IsDue, IsNewXorb}
use Rattle.xet_hash.specs.declared.error.StoreError.{StoreError}
use Rattle.xet_history.specs.History.{complete_cut, complete_entries, query_entries, register_cut, register_entries}
use Rattle.xet_history.specs.declared.entry.StepKind.TheVariants as kind
use Rattle.xet_shard_format.specs.Records.{IsFile}
use Rattle.xet_shard_format.specs.declared.record.FileDataSequenceEntry.{FileDataSequenceEntry as Segment}
use Rattle.xet_shard_format.specs.declared.record.MDBFileInfo.{MDBFileInfo}
use Rattle.xet_store.specs.Changes.{ChangesFiles, Tries}
use Rattle.xet_store.specs.Recorded.{RecordedState, core_of}
use Rattle.xet_store.specs.theorems.Changing.{files_of_register}
use Rattle.xet_store.specs.Steps.{FailsAsking, IsOtherFile, Refuses, fault_entries}
use Rattle.xet_store.specs.Alone.{MayBeAsked, Step}
use Rattle.xet_store.specs.Holders.{xorb_limits}
use Rattle.xet_xorb.specs.Raw.{raw_leaves}
use Rattle.xet_xorb.specs.declared.raw.RawXorbData.{RawXorbData}
use Rattle.xet_locked_session.specs.Shared.{StepOf}
use Rattle.xet_locked_session.specs.internal.Guarded.{HasFailed, HasStep}
use Rattle.xet_locked_session.specs.internal.Made.{Completed, Queried, Registered}

module _ (pass : ℕ) (old new : RecordedState) where
  -- ---- queries

  pub asked_step : (hashes : List (List ℕ)) (r : Result (Option (ℕ × Segment)) StoreError) → IfOk r (Queried pass hashes old new) → OnOk r (HasStep pass old new)
  asked_step hashes (Ok reply) did = record { added = query_entries pass hashes reply; history = did.steps.moves.history; step = StepOf.asks hashes reply; changes = did.changes }
  asked_step hashes (Err e) did = tt

  pub asked_fails : {T : Type 0} (r : Result T StoreError) → IfErr r (FailsAsking pass old new) → OnErr r (ChangesFiles [] old new []) → IfErr r (HasFailed pass old new)
  asked_fails (Ok x) fails unread = tt
  asked_fails (Err e) fails unread = record { step = Step.asks; asked = tt; done = []; completed = inl refl; history = fails.steps.moves.history; tries = unread }

  -- ---- registrations, under the limits of the store

  module _ (limits : LimitSettings) (same : limits ≡ old.store.limits) (xorb : RawXorbData) (new_xorb : IsNewXorb (xorb_limits limits) xorb) where
    registering : MayBeAsked old.store.limits (Step.registers (raw_leaves xorb))
    registering = subst (λ (l : LimitSettings). MayBeAsked l (Step.registers (raw_leaves xorb))) same (xorb, new_xorb, refl)

    pub registered_step : (next : List (List ℕ × ℕ)) → IsDue (xorb_limits limits) (raw_leaves xorb) next → (r : Result Bool StoreError) → IfOk r (Registered pass (raw_leaves xorb) next old new) → OnOk r (HasStep pass old new)
    registered_step next due (Ok added) did = record {
      added = register_entries pass (core_of old) old.store.limits.shard_target (raw_leaves xorb) next;
      history = did.steps.moves.history;
      step = StepOf.registers (raw_leaves xorb) next registering (subst (λ (l : LimitSettings). IsDue (xorb_limits l) (raw_leaves xorb) next) same due);
      changes = did.changes;
    }
    registered_step next due (Err e) did = tt

    pub registered_fails : {T : Type 0} (next : List (List ℕ × ℕ)) (r : Result T StoreError) → IfErr r (Refuses pass kind.Register (register_cut pass (core_of old) old.store.limits.shard_target (raw_leaves xorb)) old new)
        → OnErr r (Tries old new (register_entries pass (core_of old) old.store.limits.shard_target (raw_leaves xorb) next)) → IfErr r (HasFailed pass old new)
    registered_fails next (Ok x) fails tries = tt
    registered_fails next (Err e) fails tries = record {
      step = Step.registers (raw_leaves xorb);
      asked = registering;
      done = fails.done;
      completed = fails.completed;
      history = fails.steps.moves.history;
      tries = subst (λ (t : List (List ℕ)). ChangesFiles t old new []) (files_of_register old.store.folder pass (core_of old) old.store.limits.shard_target (raw_leaves xorb) next []) tries;
    }

  -- ---- files

  module _ (file : MDBFileInfo) (form : IsFile file) where
    pub completed_step : (r : Result Bool StoreError) → IfOk r (Completed pass file old new) → OnOk r (HasStep pass old new)
    completed_step (Ok added) did = record {
      added = complete_entries pass (core_of old) old.store.limits.shard_target file;
      history = did.steps.moves.history;
      step = StepOf.completes file form did.can;
      changes = did.changes;
    }
    completed_step (Err e) did = tt

    completing_fails : (e : StoreError) → IsOtherFile old new file e ⊎ Refuses pass kind.Complete (complete_cut pass (core_of old) old.store.limits.shard_target file) old new e
        → Tries old new (complete_entries pass (core_of old) old.store.limits.shard_target file) → HasFailed pass old new e
    completing_fails e (inl other) tries = record {
      step = Step.completes file;
      asked = form;
      done = [];
      completed = inl refl;
      history = ap (λ (s : RecordedState). s.history) other.same ∙ sym (append-nil old.history)
          ∙ ap (λ (x : StoreError). old.history ++ ([] ++ fault_entries pass kind.Complete x)) (sym other.error);
      tries = tries;
    }
    completing_fails e (inr fails) tries = record {
      step = Step.completes file;
      asked = form;
      done = fails.done;
      completed = fails.completed;
      history = fails.steps.moves.history;
      tries = tries;
    }

    pub completed_fails : {T : Type 0} (r : Result T StoreError) → IfErr r (λ e. IsOtherFile old new file e ⊎ Refuses pass kind.Complete (complete_cut pass (core_of old) old.store.limits.shard_target file) old new e)
        → OnErr r (Tries old new (complete_entries pass (core_of old) old.store.limits.shard_target file)) → IfErr r (HasFailed pass old new)
    completed_fails (Ok x) fails tries = tt
    completed_fails (Err e) fails tries = completing_fails e fails tries
