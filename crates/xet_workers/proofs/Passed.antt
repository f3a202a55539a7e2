-- Each entry of the steps of one pass is of that pass.
use Rattle.std.proofs.Common.{◌≡◌, ◌⊎◌, inl, inr, ℕ, Bool, true, false, List, [], ◌∷◌, ◌++◌, Option, refl, sym, subst, if◌then◌else◌}
use Rattle.std.specs.List.{AllByRecursion}
use Rattle.xet_base.specs.theorems.Elements.{all_both}
use Rattle.xet_cut.specs.declared.limits.LimitSettings.{LimitSettings}
use Rattle.xet_clean.specs.theorems.Session.{some_made}
use Rattle.xet_hash.specs.Merkle.{xorb_hash}
use Rattle.xet_hash.specs.declared.error.Place.TheVariants.{Disk}
use Rattle.xet_hash.specs.declared.error.StoreError.{StoreError}
use Rattle.xet_hash.specs.declared.error.StoreError.TheVariants.{Io}
use Rattle.xet_history.specs.Core.{Core, is_cut_due, is_new, pending_hash}
use Rattle.xet_history.specs.History.{after_all, complete_entries, cut_entries, pass_of, query_entries, register_entries}
use Rattle.xet_history.specs.declared.entry.Entry.{Entry}
use Rattle.xet_history.specs.declared.entry.Entry.TheVariants.{Complete, Flush, Register}
use Rattle.xet_history.specs.declared.entry.StepKind.{StepKind}
use Rattle.xet_shard_format.specs.RecordSizes.{file_record_size, xorb_record_size}
use Rattle.xet_shard_format.specs.Records.{file_record_hash}
use Rattle.xet_shard_format.specs.declared.record.FileDataSequenceEntry.{FileDataSequenceEntry as Segment}
use Rattle.xet_shard_format.specs.declared.record.MDBFileInfo.{MDBFileInfo}
use Rattle.xet_store.specs.Alone.{IsAlone, MakesSteps, MakesStepsUntil, Step, StepsTo, StepsUntil, cut_of, kind_of}
use Rattle.xet_store.specs.Recorded.{RecordedState, core_of}
use Rattle.xet_store.specs.Steps.{fault_entries}
use Rattle.xet_xorb.specs.Raw.{xorb_record}

module _ (pass : ℕ) where
  abbrev IsOf : Entry → Type 0
  IsOf e = pass_of e ≡ pass

  of_cut : (c : Core) (target bytes : ℕ) → AllByRecursion IsOf (cut_entries pass c target bytes)
  of_cut c target bytes = go (is_cut_due c target bytes)
    where
      go : (b : Bool) → AllByRecursion IsOf (if b then Flush pass (pending_hash c) ∷ [] else [])
      go true = (refl, tt)
      go false = tt

  of_query : (hashes : List (List ℕ)) (reply : Option (ℕ × Segment)) → AllByRecursion IsOf (query_entries pass hashes reply)
  of_query [] reply = tt
  of_query (h ∷ hs) reply = (refl, tt)

  of_either : (b : Bool) (cut : List Entry) (e f : Entry) → AllByRecursion IsOf cut → IsOf e → IsOf f → AllByRecursion IsOf (if b then cut ++ e ∷ [] else f ∷ [])
  of_either true cut e f first second third = all_both IsOf cut (e ∷ []) first (second, tt)
  of_either false cut e f first second third = (third, tt)

  of_register : (c : Core) (target : ℕ) (leaves next : List (List ℕ × ℕ)) → AllByRecursion IsOf (register_entries pass c target leaves next)
  of_register c target leaves next =
      let bytes : ℕ = xorb_record_size (xorb_record (xorb_hash leaves) leaves) in
      of_either (is_new c.xorbs (xorb_hash leaves)) (cut_entries pass c target (xorb_record_size (xorb_record (xorb_hash leaves) leaves))) (Register pass leaves next true) (Register pass leaves next false) (of_cut c target bytes) refl refl

  of_complete : (c : Core) (target : ℕ) (file : MDBFileInfo) → AllByRecursion IsOf (complete_entries pass c target file)
  of_complete c target file =
      of_either (is_new c.records (file_record_hash file)) (cut_entries pass c target (file_record_size file)) (Complete pass file true) (Complete pass file false) (of_cut c target (file_record_size file)) refl refl

  pub steps_of_pass : (limits : LimitSettings) (c : Core) (es : List Entry) → StepsTo limits pass c es → AllByRecursion (λ e. pass_of e ≡ pass) es
  steps_of_pass limits c es StepsTo.begins = tt
  steps_of_pass limits c es (StepsTo.asks before hashes reply steps) = all_both IsOf before (query_entries pass hashes reply) (steps_of_pass limits c before steps) (of_query hashes reply)
  steps_of_pass limits c es (StepsTo.registers before leaves next steps asked due) =
      all_both IsOf before (register_entries pass (after_all c before) limits.shard_target leaves next) (steps_of_pass limits c before steps) (of_register (after_all c before) limits.shard_target leaves next)
  steps_of_pass limits c es (StepsTo.completes before file steps form completes) =
      all_both IsOf before (complete_entries pass (after_all c before) limits.shard_target file) (steps_of_pass limits c before steps) (of_complete (after_all c before) limits.shard_target file)

  -- ---- one that failed was the last

  of_if : (b : Bool) (cut : List Entry) → AllByRecursion IsOf cut → AllByRecursion IsOf (if b then cut else [])
  of_if true cut all = all
  of_if false cut all = tt

  of_cut_of : (target : ℕ) (step : Step) (c : Core) → AllByRecursion IsOf (cut_of pass target step c)
  of_cut_of target Step.asks c = tt
  of_cut_of target (Step.registers leaves) c =
      let bytes : ℕ = xorb_record_size (xorb_record (xorb_hash leaves) leaves) in
      of_if (is_new c.xorbs (xorb_hash leaves)) (cut_entries pass c target (xorb_record_size (xorb_record (xorb_hash leaves) leaves))) (of_cut c target bytes)
  of_cut_of target (Step.completes file) c = of_if (is_new c.records (file_record_hash file)) (cut_entries pass c target (file_record_size file)) (of_cut c target (file_record_size file))

  of_fault : (kind : StepKind) (e : StoreError) → AllByRecursion IsOf (fault_entries pass kind e)
  of_fault kind (Io Disk) = (refl, tt)
  of_fault kind e = tt

  pub until_of_pass : (limits : LimitSettings) (c : Core) (e : StoreError) (es : List Entry) → StepsUntil limits pass c e es → AllByRecursion (λ x. pass_of x ≡ pass) es
  until_of_pass limits c e es u =
      subst (AllByRecursion IsOf) (sym u.is)
      (all_both IsOf u.before (u.done ++ fault_entries pass (kind_of u.step) e) (steps_of_pass limits c u.before u.steps)
      (all_both IsOf u.done (fault_entries pass (kind_of u.step) e) (go u.completed) (of_fault (kind_of u.step) e)))
    where
      go : (u.done ≡ []) ⊎ (u.done ≡ cut_of pass limits.shard_target u.step (after_all c u.before)) → AllByRecursion IsOf u.done
      go (inl none) = subst (AllByRecursion IsOf) (sym none) tt
      go (inr cut) = subst (AllByRecursion IsOf) (sym cut) (of_cut_of limits.shard_target u.step (after_all c u.before))

-- the steps of a caller alone are of pass 0
pub alone_of_pass : (old new : RecordedState) (stopped : Bool) (is : IsAlone old new stopped) → AllByRecursion (λ e. pass_of e ≡ 0) is.since
alone_of_pass old new stopped is = go (some_made old new stopped is)
  where
    go : MakesSteps old new is.since ⊎ ((error : StoreError) × MakesStepsUntil error old new is.since) → AllByRecursion (λ e. pass_of e ≡ 0) is.since
    go (inl made) = steps_of_pass 0 old.store.limits (core_of old) is.since made.steps
    go (inr until) = until_of_pass 0 old.store.limits (core_of old) until.0 is.since until.1.steps
