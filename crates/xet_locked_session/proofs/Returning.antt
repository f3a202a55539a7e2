-- Passes that are given back.
use Rattle.std.proofs.Common.{◌≡◌, ◌≢◌, ◌∙◌, ℕ, zero, suc, ◌+◌, List, [], ◌∷◌, ◌++◌, length, map, refl, ap, subst, arith}
use Rattle.std.specs.List.{AllByRecursion}
use mathlib.Core.List.{IsPrefix}
use Rattle.xet_history.specs.declared.entry.Entry.{Entry}
use Rattle.xet_shared_history.specs.Owned.{HasEachOnce, IsHeld, Owned, PassesDiffer, all_own}
use Rattle.xet_shared_history.specs.theorems.Parting.{each_once}
use Rattle.xet_store.specs.Holders.{Holder, seen}
use Rattle.xet_store.specs.Recorded.{RecordedState}
use Rattle.xet_locked_session.specs.Passes.{IsSeen, NumbersDiffer, holder_of, new_passes, own_numbers}
use Rattle.xet_locked_session.specs.internal.Returned.{IsReturned}

abbrev pub owned_of : Holder → Owned
owned_of h = record { pass = h.number; seen = seen h; own = map (λ p. p.0) h.own }

own_same : (hs : List Holder) → all_own (map owned_of hs) ≡ own_numbers hs
own_same [] = refl
own_same (h ∷ hs) = ap (λ (l : List ℕ). map (λ p. p.0) h.own ++ l) (own_same hs)

apart_from : (number : ℕ) (hs : List Holder) → AllByRecursion (λ k. k.number ≢ number) hs → AllByRecursion (λ k. k.pass ≢ number) (map owned_of hs)
apart_from number [] all = tt
apart_from number (h ∷ hs) all = (all.0, apart_from number hs all.1)

passes_differ : (hs : List Holder) → NumbersDiffer hs → PassesDiffer (map owned_of hs)
passes_differ [] differ = tt
passes_differ (h ∷ hs) differ = (apart_from h.number hs differ.0, passes_differ hs differ.1)

module _ (start : RecordedState) (history : List Entry) where
  all_held : (hs : List Holder) → AllByRecursion (IsReturned start history) hs → AllByRecursion (IsHeld history (length start.history)) (map owned_of hs)
  all_held [] all = tt
  all_held (h ∷ hs) all = ((all.0.prefix, all.0.own), all_held hs all.1)

  pub returned_once : (hs : List Holder) → AllByRecursion (IsReturned start history) hs → NumbersDiffer hs → length start.history + length (own_numbers hs) ≡ length history → HasEachOnce (length start.history) (length history) (own_numbers hs)
  returned_once hs all differ count =
      let same : all_own (map owned_of hs) ≡ own_numbers hs = own_same hs in
      subst (HasEachOnce (length start.history) (length history)) same
      (each_once history (length start.history) (map owned_of hs) (all_held hs all) (passes_differ hs differ) (omega (arith, ap length same, count)))

  pub returned_prefixes : (hs : List Holder) → AllByRecursion (IsReturned start history) hs → AllByRecursion (λ h. IsPrefix (seen h) history) hs
  returned_prefixes [] all = tt
  returned_prefixes (h ∷ hs) all = (all.0.prefix, returned_prefixes hs all.1)

  pub returned_known : (hs : List Holder) → AllByRecursion (IsReturned start history) hs → AllByRecursion IsSeen hs
  returned_known [] all = tt
  returned_known (h ∷ hs) all = (all.0.known, returned_known hs all.1)

-- one pass more
pub new_passes_more : (start : RecordedState) (number n k : ℕ) → k ≡ n + 1 → new_passes start number k ≡ new_passes start number n ++ holder_of start (number + n) [] [] ∷ []
new_passes_more start number n zero is = absurd (omega (arith, is))
new_passes_more start number zero (suc zero) is = ap (λ (m : ℕ). holder_of start m [] [] ∷ []) (omega arith)
new_passes_more start number zero (suc (suc k)) is = absurd (omega (arith, is))
new_passes_more start number (suc n) (suc k) is =
    ap (λ (l : List Holder). holder_of start number [] [] ∷ l) (new_passes_more start (suc number) n k (omega (arith, is)))
    ∙ ap (λ (m : ℕ). holder_of start number [] [] ∷ (new_passes start (suc number) n ++ holder_of start m [] [] ∷ [])) (omega arith)
