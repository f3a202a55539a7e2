-- How many entries a step adds, and how many of them are failures of the disk.
use Rattle.std.proofs.Common.{◌≡◌, ◌⊎◌, inl, inr, ℕ, ◌+◌, ◌≤◌, Bool, true, false, List, [], ◌∷◌, ◌++◌, length, Option, Result, Ok, Err, IfOk, IfErr, OnOk, refl, sym, subst, arith, length-append}
use Rattle.std.specs.Prelude.{◌↔◌, ◌≢◌, IfSome, Some, None, if◌then◌else◌}
use Rattle.std.specs.Result.{IsErrAnd}
use Rattle.std.specs.List.{AllByRecursion}
use Rattle.xet_base.specs.theorems.Elements.{all_both}
use Rattle.xet_completion.specs.Completing.{Completes}
use Rattle.xet_folder.specs.Xorbs.{IsListed}
use Rattle.xet_hash.specs.Hash.{sentinel}
use Rattle.xet_hash.specs.Merkle.{xorb_hash}
use Rattle.xet_hash.specs.declared.error.Place.TheVariants.{Disk}
use Rattle.xet_hash.specs.declared.error.StoreError.{StoreError}
use Rattle.xet_hash.specs.declared.error.StoreError.TheVariants.{Io, MalformedData, OutOfMemory, TooLarge}
use Rattle.xet_hash.specs.declared.error.What.TheVariants.{Shards}
use Rattle.xet_history.specs.Core.{Core, has_pending, is_cut_due, is_new, pending_hash}
use Rattle.xet_history.specs.Found.{found_run}
use Rattle.xet_history.specs.History.{complete_cut, complete_entries, cut_entries, flush_entries, pass_of, query_entries, register_cut, register_entries}
use Rattle.xet_history.specs.Sound.{IsUsableRun}
use Rattle.xet_history.specs.declared.entry.Entry.{Entry}
use Rattle.xet_history.specs.declared.entry.Entry.TheVariants.{Complete, Fault, Flush, Query, Register}
use Rattle.xet_history.specs.declared.entry.StepKind.{StepKind}
use Rattle.xet_history.specs.declared.entry.StepKind.TheVariants as kind
use Rattle.xet_shard.specs.Held.{nothing}
use Rattle.xet_shard.specs.Runs.{held_run}
use Rattle.xet_shard_format.specs.RecordSizes.{file_record_size, xorb_record_size}
use Rattle.xet_shard_format.specs.Records.{file_record_hash}
use Rattle.xet_shard_format.specs.declared.record.FileDataSequenceEntry.{FileDataSequenceEntry as Segment}
use Rattle.xet_shard_format.specs.declared.record.MDBFileInfo.{MDBFileInfo}
use Rattle.xet_store.specs.Changes.{ChangesFiles}
use Rattle.xet_store.specs.Recorded.{RecordedState, core_of}
use Rattle.xet_store.specs.Steps.{FailsAsking, IsOtherFile, IsStepError, Refuses, Steps, fault_entries}
use Rattle.xet_store.specs.theorems.Changing.{changes_unread}
use Rattle.xet_store.specs.theorems.Joining.{steps_nothing}
use Rattle.xet_store_disk.specs.Asking.{IsAskingError}
use Rattle.xet_store_disk.specs.Flushing.{IsFlushed}
use Rattle.xet_store_disk.specs.Ranges.{IsUnchanged}
use Rattle.xet_store_disk.specs.Store.{State}
use Rattle.xet_xorb.specs.Raw.{xorb_record}
use Rattle.xet_locked_session.specs.Session.{HasRisenBy, fault_count}
use Rattle.xet_locked_session.specs.internal.Made.{Completed, Flushed, Grew, Queried, Registered}
use Rattle.xet_locked_session.proofs.Pending.{answer_is}

pub fault_count-append : (xs ys : List Entry) → fault_count (xs ++ ys) ≡ fault_count xs + fault_count ys
fault_count-append [] ys = omega arith
fault_count-append (Query pass hashes reply ∷ xs) ys = fault_count-append xs ys
fault_count-append (Register pass chunks next added ∷ xs) ys = fault_count-append xs ys
fault_count-append (Complete pass file added ∷ xs) ys = fault_count-append xs ys
fault_count-append (Flush pass shard ∷ xs) ys = fault_count-append xs ys
fault_count-append (Fault pass kind ∷ xs) ys = omega (arith, fault_count-append xs ys)

-- At most so many entries, all of a pass, of which at most so many are failures of the disk.
pub record AreFew (pass most failures : ℕ) (es : List Entry) : Type 0 where
  pub few : length es ≤ most
  pub mine : AllByRecursion (λ e. pass_of e ≡ pass) es
  pub one : fault_count es ≤ failures

module _ (pass : ℕ) where
  few_none : (most failures : ℕ) → AreFew pass most failures []
  few_none most failures = record { few = omega arith; mine = tt; one = omega arith }

  few_one : (e : Entry) → pass_of e ≡ pass → fault_count (e ∷ []) ≡ 0 → AreFew pass 1 0 (e ∷ [])
  few_one e mine none = record { few = omega arith; mine = (mine, tt); one = omega (arith, none) }

  few_both : (n m f g : ℕ) (xs ys : List Entry) → AreFew pass n f xs → AreFew pass m g ys → AreFew pass (n + m) (f + g) (xs ++ ys)
  few_both n m f g xs ys first second = record {
    few = omega (arith, length-append xs ys, first.few, second.few);
    mine = all_both (λ e. pass_of e ≡ pass) xs ys first.mine second.mine;
    one = omega (arith, fault_count-append xs ys, first.one, second.one);
  }

  few_flush : (c : Core) (b : Bool) → AreFew pass 1 0 (if b then Flush pass (pending_hash c) ∷ [] else [])
  few_flush c true = few_one (Flush pass (pending_hash c)) refl refl
  few_flush c false = few_none 1 0

  few_cut : (c : Core) (target bytes : ℕ) → AreFew pass 1 0 (cut_entries pass c target bytes)
  few_cut c target bytes = few_flush c (is_cut_due c target bytes)

  few_if : (b : Bool) (es : List Entry) → AreFew pass 1 0 es → AreFew pass 1 0 (if b then es else [])
  few_if true es few = few
  few_if false es few = few_none 1 0

  few_after : (b : Bool) (cut : List Entry) (new old : Entry) → AreFew pass 1 0 cut → AreFew pass 1 0 (new ∷ []) → AreFew pass 1 0 (old ∷ []) → AreFew pass 2 0 (if b then cut ++ new ∷ [] else old ∷ [])
  few_after true cut new old first second other = few_both 1 1 0 0 cut (new ∷ []) first second
  few_after false cut new old first second other = record { few = omega arith; mine = other.mine; one = other.one }

  pub few_query : (hashes : List (List ℕ)) (reply : Option (ℕ × Segment)) → AreFew pass 2 0 (query_entries pass hashes reply)
  few_query [] reply = few_none 2 0
  few_query (h ∷ hs) reply = record { few = omega arith; mine = (refl, tt); one = omega arith }

  pub few_register : (c : Core) (target : ℕ) (leaves next : List (List ℕ × ℕ)) → AreFew pass 2 0 (register_entries pass c target leaves next)
  few_register c target leaves next =
      let cut : List Entry = cut_entries pass c target (xorb_record_size (xorb_record (xorb_hash leaves) leaves)) in
      few_after (is_new c.xorbs (xorb_hash leaves)) cut (Register pass leaves next true) (Register pass leaves next false) (few_cut c target (xorb_record_size (xorb_record (xorb_hash leaves) leaves)))
      (few_one (Register pass leaves next true) refl refl) (few_one (Register pass leaves next false) refl refl)

  pub few_complete : (c : Core) (target : ℕ) (file : MDBFileInfo) → AreFew pass 2 0 (complete_entries pass c target file)
  few_complete c target file =
      few_after (is_new c.records (file_record_hash file)) (cut_entries pass c target (file_record_size file)) (Complete pass file true) (Complete pass file false) (few_cut c target (file_record_size file))
      (few_one (Complete pass file true) refl refl) (few_one (Complete pass file false) refl refl)

  pub few_flushed : (c : Core) → AreFew pass 2 0 (flush_entries pass c)
  few_flushed c = let few : AreFew pass 1 0 (flush_entries pass c) = few_flush c (has_pending c) in record { few = omega (arith, few.few); mine = few.mine; one = few.one }

  -- the cuts before a step
  pub few_register_cut : (c : Core) (target : ℕ) (leaves : List (List ℕ × ℕ)) → AreFew pass 1 0 (register_cut pass c target leaves)
  few_register_cut c target leaves =
      let bytes : ℕ = xorb_record_size (xorb_record (xorb_hash leaves) leaves) in few_if (is_new c.xorbs (xorb_hash leaves)) (cut_entries pass c target bytes) (few_cut c target bytes)

  pub few_complete_cut : (c : Core) (target : ℕ) (file : MDBFileInfo) → AreFew pass 1 0 (complete_cut pass c target file)
  few_complete_cut c target file = few_if (is_new c.records (file_record_hash file)) (cut_entries pass c target (file_record_size file)) (few_cut c target (file_record_size file))

  pub few_fault : (k : StepKind) (e : StoreError) → AreFew pass 1 1 (fault_entries pass k e)
  few_fault k (Io Disk) = record { few = omega arith; mine = (refl, tt); one = omega arith }
  few_fault k e = few_none 1 1

-- ---- steps

-- the count of failures after a step that failed
risen_step : (pass : ℕ) (k : StepKind) (cut : List Entry) (s : State) (now : ℕ) (e : StoreError) → IsStepError k cut s now e → s.faults ≤ now → HasRisenBy (fault_count (fault_entries pass k e)) s.faults now
risen_step pass k cut s now (Io Disk) reason later = reason
risen_step pass k cut s now OutOfMemory reason later = omega (arith, later)
risen_step pass k cut s now (TooLarge Shards) reason later = omega (arith, later)
risen_step pass k cut s now e reason later = absurd reason

risen_query : (pass : ℕ) (tells : Bool) (before now : ℕ) (e : StoreError) → IsAskingError tells before now e → before ≤ now → HasRisenBy (fault_count (fault_entries pass kind.Query e)) before now
risen_query pass tells before now (Io Disk) reason later = reason
risen_query pass tells before now (MalformedData why) reason later = omega (arith, later)
risen_query pass tells before now OutOfMemory reason later = omega (arith, later)
risen_query pass tells before now e reason later = absurd reason

module _ (pass : ℕ) (old new : RecordedState) where
  grew_ok : {T : Type 0} (x : T) (added : List Entry) → Steps old new added → AreFew pass 2 0 added → Grew pass (Ok x) old new
  grew_ok x added steps few = record {
    added = added;
    steps = steps;
    few = few.few;
    mine = few.mine;
    one = omega (arith, few.one);
    calm = omega (arith, few.one);
    risen = omega (arith, few.one, steps.keeps.later);
  }

  grew_err : {T : Type 0} (k : StepKind) (e : StoreError) (done : List Entry) → Steps old new (done ++ fault_entries pass k e) → AreFew pass 1 0 done → HasRisenBy (fault_count (fault_entries pass k e)) old.store.faults new.store.faults → Grew {T = T} pass (Err e) old new
  grew_err k e done steps few risen =
      let both : AreFew pass 2 1 (done ++ fault_entries pass k e) = few_both pass 1 1 0 1 done (fault_entries pass k e) few (few_fault pass k e) in
      record {
        added = done ++ fault_entries pass k e;
        steps = steps;
        few = both.few;
        mine = both.mine;
        one = both.one;
        calm = tt;
        risen = omega (arith, risen, few.one, fault_count-append done (fault_entries pass k e));
      }

  -- a step before which a cut may be due
  grew_refused : {T : Type 0} (k : StepKind) (cut : List Entry) (e : StoreError) → AreFew pass 1 0 cut → Refuses pass k cut old new e → Grew {T = T} pass (Err e) old new
  grew_refused k cut e few fails = grew_err k e fails.done fails.steps (go fails.completed) (risen_step pass k cut old.store new.store.faults e fails.reason fails.steps.keeps.later)
    where
      go : (fails.done ≡ []) ⊎ (fails.done ≡ cut) → AreFew pass 1 0 fails.done
      go (inl none) = subst (AreFew pass 1 0) (sym none) (few_none pass 1 0)
      go (inr all) = subst (AreFew pass 1 0) (sym all) few

  pub grew_query : (hashes : List (List ℕ)) (r : Result (Option (ℕ × Segment)) StoreError) → IfOk r (λ run. Steps old new (query_entries pass hashes run)) → IfErr r (FailsAsking pass old new) → Grew pass r old new
  grew_query hashes (Ok run) steps refused = grew_ok run (query_entries pass hashes run) steps (few_query pass hashes run)
  grew_query hashes (Err e) steps refused =
      grew_err kind.Query e [] refused.steps (few_none pass 1 0) (risen_query pass old.store.tells old.store.faults new.store.faults e refused.reason refused.steps.keeps.later)

  pub grew_register : (target : ℕ) (leaves next : List (List ℕ × ℕ)) (r : Result Bool StoreError) → OnOk r (Steps old new (register_entries pass (core_of old) target leaves next))
      → IfErr r (Refuses pass kind.Register (register_cut pass (core_of old) target leaves) old new) → Grew pass r old new
  grew_register target leaves next (Ok added) steps refused = grew_ok added (register_entries pass (core_of old) target leaves next) steps (few_register pass (core_of old) target leaves next)
  grew_register target leaves next (Err e) steps refused = grew_refused kind.Register (register_cut pass (core_of old) target leaves) e (few_register_cut pass (core_of old) target leaves) refused

  pub grew_complete : (target : ℕ) (file : MDBFileInfo) (r : Result Bool StoreError) → OnOk r (Steps old new (complete_entries pass (core_of old) target file))
      → IfErr r (λ e. IsOtherFile old new file e ⊎ Refuses pass kind.Complete (complete_cut pass (core_of old) target file) old new e) → Grew pass r old new
  grew_complete target file (Ok added) steps refused = grew_ok added (complete_entries pass (core_of old) target file) steps (few_complete pass (core_of old) target file)
  grew_complete target file (Err e) steps refused = go refused
    where
      go : IsOtherFile old new file e ⊎ Refuses pass kind.Complete (complete_cut pass (core_of old) target file) old new e → Grew {T = Bool} pass (Err e) old new
      go (inl other) =
          let still : Steps old new [] = subst (λ (s : RecordedState). Steps old s []) (sym other.same) (steps_nothing old) in
          record {
            added = [];
            steps = still;
            few = omega arith;
            mine = tt;
            one = omega arith;
            calm = tt;
            risen = omega (arith, still.keeps.later);
          }
      go (inr fails) = grew_refused kind.Complete (complete_cut pass (core_of old) target file) e (few_complete_cut pass (core_of old) target file) fails

  pub grew_flush : {T : Type 0} (r : Result T StoreError) → OnOk r (Steps old new (flush_entries pass (core_of old))) → IfErr r (Refuses pass kind.Flush [] old new) → Grew pass r old new
  grew_flush (Ok shard) steps refused = grew_ok shard (flush_entries pass (core_of old)) steps (few_flushed pass (core_of old))
  grew_flush (Err e) steps refused = grew_refused kind.Flush [] e (few_none pass 1 0) refused

-- nothing was done
pub grew_nothing : {T : Type 0} (pass : ℕ) (s : RecordedState) (r : Result T StoreError) (e : StoreError) → IsErrAnd r (λ y. y ≡ e) → Grew pass r s s
grew_nothing pass s (Ok x) e bad = absurd bad
grew_nothing pass s (Err y) e is = record {
  added = [];
  steps = steps_nothing s;
  few = omega arith;
  mine = tt;
  one = omega arith;
  calm = tt;
  risen = omega arith;
}

pub nothing_asked : (pass : ℕ) (s : RecordedState) → FailsAsking pass s s OutOfMemory
nothing_asked pass s = record { steps = steps_nothing s; reason = tt }

pub nothing_refused : (pass : ℕ) (k : StepKind) (cut : List Entry) (s : RecordedState) → Refuses pass k cut s s OutOfMemory
nothing_refused pass k cut s = record { done = []; completed = inl refl; steps = steps_nothing s; reason = tt; full = λ full due. (inr refl, refl) }

-- ---- what the steps did

pub queried_of : (pass : ℕ) (hashes : List (List ℕ)) (old new : RecordedState) (r : Result (Option (ℕ × Segment)) StoreError) → (old.store.tells ≡ true → IfOk r (λ run. run ≡ found_run (core_of old) hashes))
    → ((run : ℕ × Segment) → held_run old.store.pending.blocks hashes ≡ Some run → IfOk r (λ found. found ≡ Some run)) → IfOk r (λ run. IfSome run (IsUsableRun old.store.xorbs hashes)) → IfOk r (λ run. Steps old new (query_entries pass hashes run))
    → IsUnchanged old.store new.store → IfOk r (Queried pass hashes old new)
queried_of pass hashes old new (Ok run) found pending lies steps unchanged = record { steps = steps; changes = changes_unread old new (query_entries pass hashes run) unchanged; usable = lies; pending = pending; found = found }
queried_of pass hashes old new (Err e) found pending lies steps unchanged = tt

pub registered_of : (pass : ℕ) (leaves next : List (List ℕ × ℕ)) (old new : RecordedState) (r : Result Bool StoreError) → OnOk r (Steps old new (register_entries pass (core_of old) old.store.limits.shard_target leaves next))
    → OnOk r (ChangesFiles [] old new (register_entries pass (core_of old) old.store.limits.shard_target leaves next)) → IfOk r (λ added. added ≡ is_new old.store.xorbs (xorb_hash leaves)) → OnOk r (IsListed new.store.xorbs (xorb_hash leaves) leaves) → OnOk r (xorb_hash leaves ≢ sentinel) → IfOk r (Registered pass leaves next old new)
registered_of pass leaves next old new (Ok added) steps changes new_hash listed named = record { steps = steps; changes = changes; new_hash = new_hash; listed = listed; named = named }
registered_of pass leaves next old new (Err e) steps changes new_hash listed named = tt

pub completed_of : (pass : ℕ) (file : MDBFileInfo) (old new : RecordedState) (r : Result Bool StoreError) → OnOk r (Steps old new (complete_entries pass (core_of old) old.store.limits.shard_target file))
    → OnOk r (ChangesFiles [] old new (complete_entries pass (core_of old) old.store.limits.shard_target file)) → IfOk r (λ added. added ≡ is_new old.store.records (file_record_hash file)) → OnOk r (Completes old.store.xorbs file) → IfOk r (Completed pass file old new)
completed_of pass file old new (Ok added) steps changes new_hash can = record { steps = steps; changes = changes; new_hash = new_hash; can = can }
completed_of pass file old new (Err e) steps changes new_hash can = tt

pub flushed_of : (pass : ℕ) (old new : RecordedState) (r : Result (Option (List ℕ)) StoreError) → OnOk r (Steps old new (flush_entries pass (core_of old))) → IfOk r (λ h. (h ≡ None) ↔ (old.store.pending ≡ nothing))
    → IfOk r (λ h. IfSome h (λ shard. IsFlushed old.store shard new.store)) → IfOk r (Flushed pass old new)
flushed_of pass old new (Ok shard) steps none flushed = record { steps = steps; hash = answer_is old new shard none flushed }
flushed_of pass old new (Err e) steps none flushed = tt
