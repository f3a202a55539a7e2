-- What holds of the entries of each pass holds of all entries since the session began.
use Rattle.std.proofs.Common.{◌≡◌, ◌∙◌, inl, inr, ℕ, suc, ◌+◌, ◌≤◌, List, [], ◌∷◌, ◌++◌, length, map, refl, sym, ap, subst, arith}
use Rattle.std.specs.List.{AllByRecursion, flat_map}
use Rattle.std.proofs.lemmas.Bool.{cases_eq}
use mathlib.Core.List.{IsPrefix}
use Rattle.xet_base.specs.theorems.Elements.{all_back, all_both, all_more, all_prefix}
use Rattle.xet_clean.specs.theorems.Owning.{own_registers}
use Rattle.xet_clean.specs.theorems.Recorded.{IsRecordAmong, record_files}
use Rattle.xet_clean.specs.Cleaning.{RecordsFile, RegistersOf, calls_since, entries_since}
use Rattle.xet_clean.specs.Closing.{recorded_in}
use Rattle.xet_clean.specs.declared.policy.Sha256Policy.TheVariants.{Compute}
use Rattle.xet_cut.specs.declared.limits.LimitSettings.{LimitSettings}
use Rattle.xet_dedup_queries.specs.Counting.{HasNext, registered_leaves}
use Rattle.xet_hash.specs.Merkle.{leaves_of}
use Rattle.xet_history.specs.History.{pass_of}
use Rattle.xet_history.specs.declared.entry.Entry.{Entry}
use Rattle.xet_locked_session.specs.Passes.{IsSeen, own_numbers}
use Rattle.xet_shared_history.specs.Owned.{HasEachOnce}
use Rattle.xet_store.specs.Holders.{Holder, call_at, calls_in, numbered, seen}
use Rattle.xet_store.specs.Recorded.{RecordedState}
use Rattle.xet_store_disk.specs.Separate.{Among}
use Rattle.xet_workers.specs.Cleaning.{made_by}
use Rattle.xet_workers.proofs.Numbered.{HavePassed, passed_differ, passed_from, passed_number}
use Rattle.xet_workers.proofs.Parting.{HasPass, Parted, all_with, made_apart, made_here, of_passes, parted}

-- ---- entries that are parted

module _ (P : ℕ × Entry → Type 0) where
  rest_made : (pass : ℕ) (x : ℕ × Entry) (xs : List (ℕ × Entry)) → AllByRecursion P (made_by pass (x ∷ xs)) → AllByRecursion P (made_by pass xs)
  rest_made pass x xs all = elim (cases_eq (pass_of x.1) pass) [
    | inl is ↦ (subst (AllByRecursion P) (made_here pass x xs is) all).1
    | inr apart ↦ subst (AllByRecursion P) (made_apart pass x xs apart) all
  ]

  first_made : (passes : List Holder) (x : ℕ × Entry) (xs : List (ℕ × Entry)) → HasPass passes (pass_of x.1) → AllByRecursion (λ h. AllByRecursion P (made_by h.number (x ∷ xs))) passes → P x
  first_made [] x xs has all = absurd has
  first_made (h ∷ hs) x xs (inl is) all = (subst (AllByRecursion P) (made_here h.number x xs (sym is)) all.0).0
  first_made (h ∷ hs) x xs (inr has) all = first_made hs x xs has all.1

  all_parted : (passes : List Holder) (xs : List (ℕ × Entry)) → AllByRecursion (λ x. HasPass passes (pass_of x.1)) xs → AllByRecursion (λ h. AllByRecursion P (made_by h.number xs)) passes → AllByRecursion P xs
  all_parted passes [] has each = tt
  all_parted passes (x ∷ xs) has each = (
    first_made passes x xs has.0 each,
    all_parted passes xs has.1
        (all_more (λ (h : Holder). AllByRecursion P (made_by h.number (x ∷ xs))) (λ (h : Holder). AllByRecursion P (made_by h.number xs)) passes (λ h all. rest_made h.number x xs all) each),
  )

-- ---- own entries

of_made : {X Y : Type 0} (P : Y → Type 0) (f : X → Y) (xs : List X) → AllByRecursion P (map f xs) → AllByRecursion (λ x. P (f x)) xs
of_made P f [] all = tt
of_made P f (x ∷ xs) all = (all.0, of_made P f xs all.1)

-- they record no other files
own_only : (s : LimitSettings) (files : List (List ℕ)) (own : List (ℕ × Entry)) → AllByRecursion (IsRecordAmong Compute s files) (recorded_in own) → AllByRecursion (λ x. RecordsFile Compute s files x.1) own
own_only s files own all = of_made (RecordsFile Compute s files) (λ (x : ℕ × Entry). x.1) own (record_files Compute s files (map (λ (x : ℕ × Entry). x.1) own) all)

of_numbered : (P : Entry → Type 0) (n : ℕ) (es : List Entry) → AllByRecursion (λ x. P x.1) (numbered n es) → AllByRecursion P es
of_numbered P n [] all = tt
of_numbered P n (e ∷ es) all = (all.0, of_numbered P (suc n) es all.1)

-- the entry is no registration, or one with further chunks
abbrev IsFurther : ℕ × Entry → Type 0
IsFurther x = AllByRecursion HasNext (call_at x.0 x.1)

own_nexts : (own : List (ℕ × Entry)) → AllByRecursion HasNext (calls_in own) → AllByRecursion IsFurther own
own_nexts [] all = tt
own_nexts (x ∷ own) all = (all_prefix HasNext (call_at x.0 x.1) (calls_in own) all, own_nexts own (all_back HasNext (call_at x.0 x.1) (calls_in own) all))

calls_nexts : (xs : List (ℕ × Entry)) → AllByRecursion IsFurther xs → AllByRecursion HasNext (calls_in xs)
calls_nexts [] all = tt
calls_nexts (x ∷ xs) all = all_both HasNext (call_at x.0 x.1) (calls_in xs) all.0 (calls_nexts xs all.1)

-- the numbers of passes
numbers_below : (store : RecordedState) (number : ℕ) (passes : List Holder) → HavePassed store number passes → AllByRecursion (λ h. h.number + 1 ≤ number + length passes) passes
numbers_below store number [] passed = tt
numbers_below store number (pass ∷ passes) passed = (
  omega (arith, passed_number store number passed.0.0 pass passed.0.1 passed.0.2),
  all_more (λ (h : Holder). h.number + 1 ≤ suc number + length passes) (λ (h : Holder). h.number + 1 ≤ number + length (pass ∷ passes)) passes (λ h le. omega (arith, le))
      (numbers_below store (suc number) passes passed.1),
)

-- ---- the entries since the session began are those of its passes

module _ (old new : RecordedState) (passes : List Holder) (passed : HavePassed old 1 passes) (known : AllByRecursion IsSeen passes) (prefix : AllByRecursion (λ p. IsPrefix (seen p) new.history) passes)
    (once : HasEachOnce (length old.history) (length new.history) (own_numbers passes)) where
  abbrev xs : List (ℕ × Entry)
  xs = numbered (length old.history) (entries_since old new)

  part : Parted passes (numbered (length old.history) (entries_since old new))
  part = parted new.history (length old.history) passes (passed_from old new.history 1 passes passed known prefix) (passed_differ old 1 passes passed) once

  from_own : (P : ℕ × Entry → Type 0) → AllByRecursion (λ h. AllByRecursion P h.own) passes → AllByRecursion P (numbered (length old.history) (entries_since old new))
  from_own P each =
      all_parted P passes xs part.all
      (all_with (λ (h : Holder). h.own ≡ made_by h.number xs) (λ (h : Holder). AllByRecursion P h.own) (λ (h : Holder). AllByRecursion P (made_by h.number xs)) passes (λ h is all. subst (AllByRecursion P) is all) part.own each)

  pub only_since : (s : LimitSettings) (files : List (List ℕ)) → AllByRecursion (λ h. AllByRecursion (IsRecordAmong Compute s files) (recorded_in h.own)) passes → AllByRecursion (RecordsFile Compute s files) (entries_since old new)
  only_since s files each =
      of_numbered (RecordsFile Compute s files) (length old.history) (entries_since old new)
      (from_own (λ x. RecordsFile Compute s files x.1)
      (all_more (λ (h : Holder). AllByRecursion (IsRecordAmong Compute s files) (recorded_in h.own)) (λ (h : Holder). AllByRecursion (λ x. RecordsFile Compute s files x.1) h.own) passes (λ h all. own_only s files h.own all) each))

  pub nexts_since : AllByRecursion (λ h. AllByRecursion HasNext (calls_in h.own)) passes → AllByRecursion HasNext (calls_since old new)
  nexts_since each =
      calls_nexts xs
      (from_own IsFurther (all_more (λ (h : Holder). AllByRecursion HasNext (calls_in h.own)) (λ (h : Holder). AllByRecursion IsFurther h.own) passes (λ h all. own_nexts h.own all) each))

  pub registers_since : (files : List (List (List ℕ))) → AllByRecursion (λ h. AllByRecursion (Among (flat_map leaves_of files)) (registered_leaves (calls_in h.own))) passes → AllByRecursion (RegistersOf files) (entries_since old new)
  registers_since files each =
      of_numbered (RegistersOf files) (length old.history) (entries_since old new)
      (from_own (λ x. RegistersOf files x.1)
      (all_more (λ (h : Holder). AllByRecursion (Among (flat_map leaves_of files)) (registered_leaves (calls_in h.own))) (λ (h : Holder). AllByRecursion (λ x. RegistersOf files x.1) h.own) passes (λ h all. own_registers files h.own all) each))

  pub passes_since : (workers : ℕ) → length passes ≤ workers → AllByRecursion (λ e. pass_of e ≤ workers) (entries_since old new)
  passes_since workers few =
      let numbers : AllByRecursion (λ h. h.number ≤ workers) passes =
      all_more (λ (h : Holder). h.number + 1 ≤ 1 + length passes) (λ (h : Holder). h.number ≤ workers) passes (λ h le. omega (arith, le, few)) (numbers_below old 1 passes passed) in
      of_numbered (λ e. pass_of e ≤ workers) (length old.history) (entries_since old new)
      (all_more (λ (x : ℕ × Entry). HasPass passes (pass_of x.1)) (λ (x : ℕ × Entry). pass_of x.1 ≤ workers) xs (λ x has. of_passes (λ n. n ≤ workers) passes (pass_of x.1) numbers has) part.all)
