-- What is true of each entry that a step adds.
use Rattle.std.proofs.Common.{◌≡◌, ◌⊎◌, inl, inr, ◌∙◌, ℕ, Bool, true, false, List, [], ◌∷◌, ◌++◌, Option, refl, subst, sym}
use Rattle.std.specs.Prelude.{if◌then◌else◌}
use Rattle.std.specs.List.{AllByRecursion}
use Rattle.xet_base.specs.theorems.Elements.{all_both}
use Rattle.xet_cut.specs.declared.limits.LimitSettings.{LimitSettings}
use Rattle.xet_hash.specs.Merkle.{xorb_hash}
use Rattle.xet_hash.specs.declared.error.Place.TheVariants.{Disk}
use Rattle.xet_hash.specs.declared.error.StoreError.{StoreError}
use Rattle.xet_hash.specs.declared.error.StoreError.TheVariants.{Io}
use Rattle.xet_history.specs.Core.{Core, is_cut_due, is_new, pending_hash}
use Rattle.xet_history.specs.History.{after_all, complete_entries, cut_entries, pass_of, query_entries, register_entries, reply_of, stated}
use Rattle.xet_history.specs.declared.entry.Entry.{Entry}
use Rattle.xet_history.specs.declared.entry.Entry.TheVariants.{Complete, Fault, Flush, Query, Register}
use Rattle.xet_history.specs.declared.entry.Run.{Run}
use Rattle.xet_history.specs.declared.entry.StepKind.{StepKind}
use Rattle.xet_shard_format.specs.RecordSizes.{file_record_size, xorb_record_size}
use Rattle.xet_shard_format.specs.Records.{file_record_hash}
use Rattle.xet_shard_format.specs.declared.record.FileDataSequenceEntry.{FileDataSequenceEntry as Segment}
use Rattle.xet_shard_format.specs.declared.record.MDBFileInfo.{MDBFileInfo}
use Rattle.xet_store.specs.Steps.{fault_entries}
use Rattle.xet_xorb.specs.Raw.{xorb_record}
use Rattle.xet_store.specs.Alone.{Step, StepsTo, StepsUntil, cut_of, kind_of}
use Rattle.xet_store.specs.Holders.{IsDueEntry, xorb_limits}

module _ (P : Entry → Type 0) (pass : ℕ) where
  pub all_cut : ((shard : List ℕ) → P (Flush pass shard)) → (c : Core) (target bytes : ℕ) → AllByRecursion P (cut_entries pass c target bytes)
  all_cut flush c target bytes = go (is_cut_due c target bytes)
    where
      go : (b : Bool) → AllByRecursion P (if b then Flush pass (pending_hash c) ∷ [] else [])
      go true = (flush (pending_hash c), tt)
      go false = tt

  pub all_query : ((hashes : List (List ℕ)) (reply : Option Run) → P (Query pass hashes reply)) → (hashes : List (List ℕ)) (reply : Option (ℕ × Segment)) → AllByRecursion P (query_entries pass hashes reply)
  all_query query [] reply = tt
  all_query query (h ∷ hs) reply = (query (stated (h ∷ hs) reply) (reply_of reply), tt)

  pub all_register : ((shard : List ℕ) → P (Flush pass shard)) → (c : Core) (target : ℕ) (leaves next : List (List ℕ × ℕ)) → ((added : Bool) → P (Register pass leaves next added))
      → AllByRecursion P (register_entries pass c target leaves next)
  all_register flush c target leaves next register = go (is_new c.xorbs (xorb_hash leaves))
    where
      cut : List Entry
      cut = cut_entries pass c target (xorb_record_size (xorb_record (xorb_hash leaves) leaves))

      go : (b : Bool) → AllByRecursion P (if b then cut ++ Register pass leaves next true ∷ [] else Register pass leaves next false ∷ [])
      go true = all_both P cut (Register pass leaves next true ∷ []) (all_cut flush c target (xorb_record_size (xorb_record (xorb_hash leaves) leaves))) (register true, tt)
      go false = (register false, tt)

  pub all_complete : ((shard : List ℕ) → P (Flush pass shard)) → (c : Core) (target : ℕ) (file : MDBFileInfo) → ((added : Bool) → P (Complete pass file added)) → AllByRecursion P (complete_entries pass c target file)
  all_complete flush c target file complete = go (is_new c.records (file_record_hash file))
    where
      cut : List Entry
      cut = cut_entries pass c target (file_record_size file)

      go : (b : Bool) → AllByRecursion P (if b then cut ++ Complete pass file true ∷ [] else Complete pass file false ∷ [])
      go true = all_both P cut (Complete pass file true ∷ []) (all_cut flush c target (file_record_size file)) (complete true, tt)
      go false = (complete false, tt)

  pub all_fault : ((kind : StepKind) → P (Fault pass kind)) → (kind : StepKind) (e : StoreError) → AllByRecursion P (fault_entries pass kind e)
  all_fault fault kind (Io Disk) = (fault kind, tt)
  all_fault fault kind e = tt

  -- a cut that is due or not, as far as it was completed
  pub all_done : ((shard : List ℕ) → P (Flush pass shard)) → (c : Core) (target bytes : ℕ) (done : List Entry) → (done ≡ []) ⊎ (done ≡ cut_entries pass c target bytes) → AllByRecursion P done
  all_done flush c target bytes done (inl none) = subst (AllByRecursion P) (sym none) tt
  all_done flush c target bytes done (inr cut) = subst (AllByRecursion P) (sym cut) (all_cut flush c target bytes)

-- ---- the cut before a step

-- the number of bytes that the record of a step adds
abbrev pub size_of : Step → ℕ
size_of Step.asks = 0
size_of (Step.registers leaves) = xorb_record_size (xorb_record (xorb_hash leaves) leaves)
size_of (Step.completes file) = file_record_size file

pub cut_if_new : (b : Bool) (es : List Entry) → ((if b then es else []) ≡ []) ⊎ ((if b then es else []) ≡ es)
cut_if_new true es = inr refl
cut_if_new false es = inl refl

cut_cases : (pass target : ℕ) (step : Step) (c : Core) → (cut_of pass target step c ≡ []) ⊎ (cut_of pass target step c ≡ cut_entries pass c target (size_of step))
cut_cases pass target Step.asks c = inl refl
cut_cases pass target (Step.registers leaves) c = cut_if_new (is_new c.xorbs (xorb_hash leaves)) (cut_entries pass c target (size_of (Step.registers leaves)))
cut_cases pass target (Step.completes file) c = cut_if_new (is_new c.records (file_record_hash file)) (cut_entries pass c target (file_record_size file))

-- as far as it was completed
pub done_cases : (pass target : ℕ) (step : Step) (c : Core) (done : List Entry) → (done ≡ []) ⊎ (done ≡ cut_of pass target step c) → (done ≡ []) ⊎ (done ≡ cut_entries pass c target (size_of step))
done_cases pass target step c done (inl none) = inl none
done_cases pass target step c done (inr is) = go (cut_cases pass target step c)
  where
    go : (cut_of pass target step c ≡ []) ⊎ (cut_of pass target step c ≡ cut_entries pass c target (size_of step)) → (done ≡ []) ⊎ (done ≡ cut_entries pass c target (size_of step))
    go (inl none) = inl (is ∙ none)
    go (inr due) = inr (is ∙ due)

-- ---- each entry of steps

-- It has the pass, and a xorb was registered with the chunks that did not fit into it, or with none.
abbrev pub IsMade : LimitSettings → ℕ → Entry → Type 0
IsMade limits pass e = (pass_of e ≡ pass) × IsDueEntry (xorb_limits limits) e

module _ (limits : LimitSettings) (pass : ℕ) (c : Core) where
  abbrev Made : Entry → Type 0
  Made = IsMade limits pass

  abbrev target : ℕ
  target = limits.shard_target

  pub steps_made : (es : List Entry) → StepsTo limits pass c es → AllByRecursion (IsMade limits pass) es
  steps_made es StepsTo.begins = tt
  steps_made es (StepsTo.asks before hashes reply steps) = all_both Made before (query_entries pass hashes reply) (steps_made before steps) (all_query Made pass (λ hs r. (refl, tt)) hashes reply)
  steps_made es (StepsTo.registers before leaves next steps asked due) =
      all_both Made before (register_entries pass (after_all c before) target leaves next) (steps_made before steps)
      (all_register Made pass (λ s. (refl, tt)) (after_all c before) target leaves next (λ b. (refl, due)))
  steps_made es (StepsTo.completes before file steps form can) =
      all_both Made before (complete_entries pass (after_all c before) target file) (steps_made before steps)
      (all_complete Made pass (λ s. (refl, tt)) (after_all c before) target file (λ b. (refl, tt)))

  pub until_made : (e : StoreError) (es : List Entry) → StepsUntil limits pass c e es → AllByRecursion (IsMade limits pass) es
  until_made e es u =
      let failure : List Entry = fault_entries pass (kind_of u.step) e in
      let d : Core = after_all c u.before in
      subst (AllByRecursion Made) (sym u.is)
      (all_both Made u.before (u.done ++ failure) (steps_made u.before u.steps)
      (all_both Made u.done failure (all_done Made pass (λ s. (refl, tt)) d target (size_of u.step) u.done (done_cases pass target u.step d u.done u.completed)) (all_fault Made pass (λ k. (refl, tt)) (kind_of u.step) e)))
