-- What is true of the entries that a step adds, and the calls that they are.
use Rattle.std.proofs.Common.{◌≡◌, ◌⊎◌, inl, inr, ◌∙◌, ℕ, ◌+◌, Bool, true, false, List, [], ◌∷◌, ◌++◌, length, Option, refl, sym, ap, subst}
use Rattle.std.specs.Prelude.{if◌then◌else◌}
use Rattle.std.specs.List.{AllByRecursion}
use Rattle.xet_base.specs.theorems.Elements.{all_both}
use Rattle.xet_choices.specs.Calls.{Call}
use Rattle.xet_choices.specs.Calls.Call.{Registered}
use Rattle.xet_dedup_queries.specs.Registering.{IsDue}
use Rattle.xet_hash.specs.Merkle.{xorb_hash}
use Rattle.xet_hash.specs.declared.error.Place.TheVariants.{Disk}
use Rattle.xet_hash.specs.declared.error.StoreError.{StoreError}
use Rattle.xet_hash.specs.declared.error.StoreError.TheVariants.{Io}
use Rattle.xet_history.specs.Core.{Core, is_cut_due, is_new, pending_hash}
use Rattle.xet_history.specs.History.{complete_cut, complete_entries, cut_entries, query_entries, register_cut, register_entries}
use Rattle.xet_history.specs.declared.entry.Entry.{Entry}
use Rattle.xet_history.specs.declared.entry.Entry.TheVariants.{Complete, Flush, Register}
use Rattle.xet_history.specs.declared.entry.StepKind.{StepKind}
use Rattle.xet_shard_format.specs.RecordSizes.{file_record_size, xorb_record_size}
use Rattle.xet_shard_format.specs.Records.{file_record_hash}
use Rattle.xet_shard_format.specs.declared.record.FileDataSequenceEntry.{FileDataSequenceEntry as Segment}
use Rattle.xet_shard_format.specs.declared.record.MDBFileInfo.{MDBFileInfo}
use Rattle.xet_store.specs.Steps.{fault_entries}
use Rattle.xet_store.specs.Holders.{IsDueEntry, calls_in, numbered}
use Rattle.xet_store.specs.theorems.Following.{calls_in-append, numbered-append}
use Rattle.xet_xorb.specs.Raw.{xorb_record}

-- A xorb was registered with the chunks that did not fit into it, or with none; and the entries are these calls, whatever
-- their numbers.
pub record IsAdded (limits : ℕ × ℕ) (calls : List Call) (added : List Entry) : Type 0 where
  pub due : AllByRecursion (IsDueEntry limits) added
  pub are : (n : ℕ) → calls_in (numbered n added) ≡ calls

module _ (limits : ℕ × ℕ) where
  pub added_nothing : IsAdded limits [] []
  added_nothing = record { due = tt; are = λ n. refl }

  added_both : (calls : List Call) (xs ys : List Entry) → IsAdded limits [] xs → IsAdded limits calls ys → IsAdded limits calls (xs ++ ys)
  added_both calls xs ys first second = record {
    due = all_both (IsDueEntry limits) xs ys first.due second.due;
    are = λ n. ap calls_in (numbered-append n xs ys)
        ∙ calls_in-append (numbered n xs) (numbered (n + length xs) ys)
        ∙ ap (λ (cs : List Call). cs ++ calls_in (numbered (n + length xs) ys)) (first.are n)
        ∙ second.are (n + length xs);
  }

  -- a query
  pub due_query : (pass : ℕ) (hashes : List (List ℕ)) (reply : Option (ℕ × Segment)) → AllByRecursion (IsDueEntry limits) (query_entries pass hashes reply)
  due_query pass [] reply = tt
  due_query pass (h ∷ hs) reply = (tt, tt)

  module _ (pass : ℕ) where
    added_cut : (c : Core) (target bytes : ℕ) → IsAdded limits [] (cut_entries pass c target bytes)
    added_cut c target bytes = go (is_cut_due c target bytes)
      where
        go : (b : Bool) → IsAdded limits [] (if b then Flush pass (pending_hash c) ∷ [] else [])
        go true = record { due = (tt, tt); are = λ n. refl }
        go false = added_nothing

    added_if : (b : Bool) (es : List Entry) → IsAdded limits [] es → IsAdded limits [] (if b then es else [])
    added_if true es is = is
    added_if false es is = added_nothing

    -- an entry, after a cut if it is new
    added_after : (b : Bool) (calls : List Call) (cut : List Entry) (new old : Entry) → IsAdded limits [] cut → IsAdded limits calls (new ∷ []) → IsAdded limits calls (old ∷ []) → IsAdded limits calls (if b then cut ++ new ∷ [] else old ∷ [])
    added_after true calls cut new old first second other = added_both calls cut (new ∷ []) first second
    added_after false calls cut new old first second other = other

    pub added_register : (c : Core) (target : ℕ) (leaves next : List (List ℕ × ℕ)) → IsDue limits leaves next → IsAdded limits (Registered leaves next ∷ []) (register_entries pass c target leaves next)
    added_register c target leaves next due =
        let bytes : ℕ = xorb_record_size (xorb_record (xorb_hash leaves) leaves) in
        added_after (is_new c.xorbs (xorb_hash leaves)) (Registered leaves next ∷ []) (cut_entries pass c target bytes) (Register pass leaves next true) (Register pass leaves next false) (added_cut c target bytes)
        (record { due = (due, tt); are = λ n. refl }) (record { due = (due, tt); are = λ n. refl })

    pub added_complete : (c : Core) (target : ℕ) (file : MDBFileInfo) → IsAdded limits [] (complete_entries pass c target file)
    added_complete c target file =
        added_after (is_new c.records (file_record_hash file)) [] (cut_entries pass c target (file_record_size file)) (Complete pass file true) (Complete pass file false) (added_cut c target (file_record_size file))
        (record { due = (tt, tt); are = λ n. refl }) (record { due = (tt, tt); are = λ n. refl })

    -- the cuts before a step
    pub added_register_cut : (c : Core) (target : ℕ) (leaves : List (List ℕ × ℕ)) → IsAdded limits [] (register_cut pass c target leaves)
    added_register_cut c target leaves =
        let bytes : ℕ = xorb_record_size (xorb_record (xorb_hash leaves) leaves) in added_if (is_new c.xorbs (xorb_hash leaves)) (cut_entries pass c target bytes) (added_cut c target bytes)

    pub added_complete_cut : (c : Core) (target : ℕ) (file : MDBFileInfo) → IsAdded limits [] (complete_cut pass c target file)
    added_complete_cut c target file = added_if (is_new c.records (file_record_hash file)) (cut_entries pass c target (file_record_size file)) (added_cut c target (file_record_size file))

    added_fault : (kind : StepKind) (e : StoreError) → IsAdded limits [] (fault_entries pass kind e)
    added_fault kind (Io Disk) = record { due = (tt, tt); are = λ n. refl }
    added_fault kind e = added_nothing

    -- a step that failed, after a cut as far as that was completed
    pub added_failure : (kind : StepKind) (e : StoreError) (done cut : List Entry) → (done ≡ []) ⊎ (done ≡ cut) → IsAdded limits [] cut → IsAdded limits [] (done ++ fault_entries pass kind e)
    added_failure kind e done cut (inl none) is = added_both [] done (fault_entries pass kind e) (subst (IsAdded limits []) (sym none) added_nothing) (added_fault kind e)
    added_failure kind e done cut (inr all) is = added_both [] done (fault_entries pass kind e) (subst (IsAdded limits []) (sym all) is) (added_fault kind e)
