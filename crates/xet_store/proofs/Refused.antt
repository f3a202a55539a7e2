-- Why a step of a holder failed, for the deduplication of a file.
use Rattle.std.proofs.Common.{◌≡◌, ◌≢◌, ◌⊎◌, inl, inr, ◌∙◌, ℕ, ◌+◌, ◌≤◌, Bool, true, false, List, [], ◌∷◌, ◌++◌, length, refl, sym, ap, subst, arith, append_assoc, length-append}
use Rattle.std.specs.Prelude.{if◌then◌else◌}
use Rattle.std.specs.List.{IsAmong}
use Rattle.std.proofs.Math.Seq.{get_or-append_seam}
use Rattle.std.proofs.lemmas.List.{append-nil}
use Rattle.xet_folder.specs.Contents.{max_shards}
use Rattle.xet_hash.specs.Merkle.{xorb_hash}
use Rattle.xet_hash.specs.declared.error.Place.TheVariants.{Disk}
use Rattle.xet_hash.specs.declared.error.Reason.{Reason}
use Rattle.xet_hash.specs.declared.error.StoreError.{StoreError}
use Rattle.xet_hash.specs.declared.error.StoreError.TheVariants.{Io, MalformedData, OutOfMemory, TooLarge}
use Rattle.xet_hash.specs.declared.error.What.TheVariants.{Shards}
use Rattle.xet_history.specs.Core.{Core, has_pending, is_cut_due, is_new, pending_hash}
use Rattle.xet_history.specs.History.{after_all, cut_entries}
use Rattle.xet_history.specs.declared.entry.Entry.{Entry}
use Rattle.xet_history.specs.declared.entry.Entry.TheVariants.{Fault, Flush}
use Rattle.xet_history.specs.declared.entry.StepKind.{StepKind}
use Rattle.xet_history.specs.declared.entry.StepKind.TheVariants as kind
use Rattle.xet_history.specs.theorems.Entries.{due_has_pending}
use Rattle.xet_shard_format.specs.RecordSizes.{xorb_record_size}
use Rattle.xet_store.specs.Steps.{fault_entries}
use Rattle.xet_xorb.specs.Raw.{xorb_record}
use Rattle.xet_store.specs.Interface.{IsErrorSince, IsRefused}
use Rattle.xet_store.specs.Holders.{FollowsAsking, Holder, calls_of, core_at, core_found, numbered, seen}
use Rattle.xet_store.specs.Stepping.{IsStepReason, SawError, cut_to_register, no_cut}
use Rattle.xet_store.proofs.Calls.{failure_calling}
use Rattle.xet_store.proofs.Entries.{cut_if_new}
use Rattle.xet_store.proofs.Following.{asking_ended}
use Rattle.xet_store.specs.theorems.Following.{calls_in-append, numbered-append}

among_last : {X : Type 0} (xs : List X) (x : X) → IsAmong (xs ++ x ∷ []) x
among_last xs x = (length xs, (omega (arith, length-append xs (x ∷ [])), sym (get_or-append_seam xs x [] x)))

-- something is pending where a cut is due
cut_has_pending : (pass : ℕ) (c : Core) (target bytes : ℕ) → cut_entries pass c target bytes ≢ [] → has_pending c ≡ true
cut_has_pending pass c target bytes some = go (is_cut_due c target bytes) refl some
  where
    go : (b : Bool) → is_cut_due c target bytes ≡ b → (if b then Flush pass (pending_hash c) ∷ [] else []) ≢ [] → has_pending c ≡ true
    go true due some = due_has_pending c target bytes due
    go false idle some = absurd (some refl)

module _ (old : Holder) (k : StepKind) (cut : Core → List Entry) (target bytes : ℕ) (is_cut : (c : Core) → (cut c ≡ []) ⊎ (cut c ≡ cut_entries old.number c target bytes))
    (malformed : (c : Core) (why : Reason) → IsStepReason k old.tells (cut c) c (MalformedData why) → old.tells ≡ false) where
  module _ (new : Holder) (e : StoreError) (saw : SawError k cut old new e) where
    abbrev c : Core
    c = core_found old saw.others

    abbrev added : List Entry
    added = saw.done ++ fault_entries old.number k e

    abbrev at : ℕ
    at = length (seen old) + length saw.others

    completed : (saw.done ≡ []) ⊎ (saw.done ≡ cut_entries old.number c target bytes)
    completed = go saw.completed (is_cut c)
      where
        go : (saw.done ≡ []) ⊎ (saw.done ≡ cut c) → (cut c ≡ []) ⊎ (cut c ≡ cut_entries old.number c target bytes) → (saw.done ≡ []) ⊎ (saw.done ≡ cut_entries old.number c target bytes)
        go (inl none) _ = inl none
        go (inr all) (inl none) = inl (all ∙ none)
        go (inr all) (inr due) = inr (all ∙ due)

    -- it adds no call
    kept_calls : calls_of new ≡ calls_of old
    kept_calls =
        ap calls_of saw.is
        ∙ calls_in-append old.own (numbered at added)
        ∙ ap (λ (l : List _). calls_of old ++ l) ((failure_calling old.number k e c target bytes saw.done completed).are at)
        ∙ append-nil (calls_of old)

    failed_asking : FollowsAsking old new
    failed_asking =
        let calling = failure_calling old.number k e c target bytes saw.done completed in
        subst (λ (h : Holder). FollowsAsking old h) (sym saw.is)
        (asking_ended old saw.others added calling.all (calling.are at) (calling.few at) (λ stopped. sym (ap (λ (h : Holder). h.own) saw.is) ∙ (saw.still stopped).0))

  -- the reason, for what it has seen
  error_since : (new : Holder) (e : StoreError) → SawError k cut old new e → IsErrorSince old new e
  error_since new (Io Disk) saw =
      let first : ℕ = length (seen old) + length saw.others in
      let fault : ℕ × Entry = (first + length saw.done, Fault old.number k) in
      let own : new.own ≡ (old.own ++ numbered first saw.done) ++ fault ∷ [] =
      ap (λ (h : Holder). h.own) saw.is
      ∙ ap (λ (l : List (ℕ × Entry)). old.own ++ l) (numbered-append first saw.done (Fault old.number k ∷ []))
      ∙ sym (append_assoc old.own (numbered first saw.done) (fault ∷ [])) in
      let number : new.number ≡ old.number = ap (λ (h : Holder). h.number) saw.is in
      record {
        number = first + length saw.done;
        kind = k;
        among = subst (λ (p : ℕ). IsAmong new.own (first + length saw.done, Fault p k)) (sym number)
            (subst (λ (l : List (ℕ × Entry)). IsAmong l fault) (sym own) (among_last (old.own ++ numbered first saw.done) fault));
        since = omega arith;
      }
  error_since new OutOfMemory saw = tt
  error_since new (TooLarge Shards) saw =
      let d : Core = core_found old saw.others in
      let none : saw.done ≡ [] = saw.full refl in
      let same : core_at new ≡ d =
      ap core_at saw.is
      ∙ ap (λ (es : List Entry). after_all old.base (old.since ++ (saw.others ++ (es ++ [])))) none
      ∙ ap (λ (es : List Entry). after_all old.base (old.since ++ es)) (append-nil saw.others) in (
        subst (λ (x : Core). max_shards ≤ length x.shards) (sym same) saw.reason.0,
        subst (λ (x : Core). has_pending x ≡ true) (sym same) (pending d (is_cut d) saw.reason.1),
      )
    where
      pending : (d : Core) → (cut d ≡ []) ⊎ (cut d ≡ cut_entries old.number d target bytes) → cut d ≢ [] → has_pending d ≡ true
      pending d (inl none) some = absurd (some none)
      pending d (inr due) some = cut_has_pending old.number d target bytes (λ none. some (due ∙ none))
  error_since new (MalformedData why) saw = ap (λ (h : Holder). h.tells) saw.is ∙ malformed (core_found old saw.others) why saw.reason
  error_since new e saw = absurd saw.reason

  refused_by : (new : Holder) (e : StoreError) → SawError k cut old new e → IsRefused old new e
  refused_by new e saw = (failed_asking new e saw, error_since new e saw)

-- ---- queries and registrations

module _ (old new : Holder) (e : StoreError) where
  module _ (saw : SawError kind.Query no_cut old new e) where
    pub query_kept : calls_of new ≡ calls_of old
    query_kept = kept_calls old kind.Query no_cut 0 0 (λ c. inl refl) (λ c why tells. tells) new e saw

    pub query_failed : FollowsAsking old new
    query_failed = failed_asking old kind.Query no_cut 0 0 (λ c. inl refl) (λ c why tells. tells) new e saw

    pub query_refused : IsRefused old new e
    query_refused = refused_by old kind.Query no_cut 0 0 (λ c. inl refl) (λ c why tells. tells) new e saw

  module _ (leaves : List (List ℕ × ℕ)) (saw : SawError kind.Register (cut_to_register old leaves) old new e) where
    abbrev size : ℕ
    size = xorb_record_size (xorb_record (xorb_hash leaves) leaves)

    is_cut : (c : Core) → (cut_to_register old leaves c ≡ []) ⊎ (cut_to_register old leaves c ≡ cut_entries old.number c old.limits.shard_target size)
    is_cut c = cut_if_new (is_new c.xorbs (xorb_hash leaves)) (cut_entries old.number c old.limits.shard_target size)

    pub register_kept : calls_of new ≡ calls_of old
    register_kept = kept_calls old kind.Register (cut_to_register old leaves) old.limits.shard_target size is_cut (λ c why bad. absurd bad) new e saw

    pub register_failed : FollowsAsking old new
    register_failed = failed_asking old kind.Register (cut_to_register old leaves) old.limits.shard_target size is_cut (λ c why bad. absurd bad) new e saw

    pub register_refused : IsRefused old new e
    register_refused = refused_by old kind.Register (cut_to_register old leaves) old.limits.shard_target size is_cut (λ c why bad. absurd bad) new e saw
