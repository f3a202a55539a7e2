-- The own entries of a store that one caller has alone stand in its history.
use Rattle.std.proofs.Common.{◌≡◌, ◌∙◌, ℕ, suc, zero, ◌+◌, ◌≤◌, ◌<◌, Bool, true, false, List, [], ◌∷◌, ◌++◌, drop, get_or, length, map, Some, refl, sym, ap, subst, append_assoc, length-append, arith}
use Rattle.std.specs.List.{AllByRecursion, slice_get}
use Rattle.std.specs.List.Sorted.{IsStrictlyIncreasing}
use Rattle.xet_cut.specs.declared.limits.LimitSettings.{LimitSettings}
use Rattle.xet_hash.specs.declared.error.StoreError.{StoreError}
use Rattle.xet_history.specs.Core.{Core}
use Rattle.xet_history.specs.History.{Legal}
use Rattle.xet_history.specs.declared.entry.Entry.{Entry}
use Rattle.xet_store.specs.Recorded.{RecordedState, core_of}
use Rattle.xet_store.specs.Alone.{IsAlone, MakesSteps, MakesStepsUntil, alone_of}
use Rattle.xet_store.specs.Holders.{Holder, IsHolder, IsOwn, numbered, seen}
use Rattle.xet_store.proofs.Entries.{IsMade, steps_made, until_made}
use Rattle.xet_store.proofs.Growing.{since_is}

pub get_seam : {X : Type 0} (xs : List X) (y : X) (ys : List X) → slice_get (xs ++ y ∷ ys) (length xs) ≡ Some y
get_seam [] y ys = refl
get_seam (x ∷ xs) y ys = get_seam xs y ys

-- entries at the end of what is seen
own_all : (h : Holder) (front rest : List Entry) → seen h ≡ front ++ rest → length h.before ≤ length front → AllByRecursion (IsMade h.limits h.number) rest
    → AllByRecursion (IsOwn h) (numbered (length front) rest)
own_all h front [] is later made = tt
own_all h front (e ∷ es) is later made =
    let more : length (front ++ e ∷ []) ≡ suc (length front) = omega (arith, length-append front (e ∷ [])) in (
      record { there = subst (λ (s : List Entry). slice_get s (length front) ≡ Some e) (sym is) (get_seam front e es); later = later; pass = made.0.0; due = made.0.1 },
      subst (λ (n : ℕ). AllByRecursion (IsOwn h) (numbered n es)) more (own_all h (front ++ e ∷ []) es (is ∙ sym (append_assoc front (e ∷ []) es)) (omega (arith, later, more)) made.1),
    )

-- their numbers
abbrev numbers : List (ℕ × Entry) → List ℕ
numbers ps = map (λ p. p.0) ps

number_at : (n : ℕ) (es : List Entry) (k d : ℕ) → k < length es → get_or (numbers (numbered n es)) k d ≡ n + k
number_at n [] k d bad = absurd (omega (arith, bad))
number_at n (e ∷ es) zero d less = omega arith
number_at n (e ∷ es) (suc k) d less = let rest = number_at (suc n) es k d (omega (arith, less)) in omega (arith, rest)

count_numbers : (n : ℕ) (es : List Entry) → length (numbers (numbered n es)) ≡ length es
count_numbers n [] = refl
count_numbers n (e ∷ es) = ap suc (count_numbers (suc n) es)

ascend : (n : ℕ) (es : List Entry) → IsStrictlyIncreasing (numbers (numbered n es))
ascend n es k less =
    let count = count_numbers n es in
    omega (arith, number_at n es k 0 (omega (arith, less, count)), number_at n es (k + 1) 0 (omega (arith, less, count)))

pub holds_alone : (start now : RecordedState) (stopped : Bool) → IsAlone start now stopped → IsHolder (alone_of start now stopped)
holds_alone start now stopped is =
    let es : List Entry = drop (length start.history) now.history in
    let same : es ≡ is.since = since_is start.history is.since now.history is.steps.moves.history in
    record {
      legal = subst (Legal start.store.tells (core_of start)) (sym same) is.steps.moves.legal;
      own = own_all (alone_of start now stopped) start.history es refl (omega arith) (subst (AllByRecursion (IsMade start.store.limits 0)) (sym same) (made stopped is.whole is.until));
      ascend = ascend (length start.history) es;
    }
  where
    limits : LimitSettings
    limits = start.store.limits

    c : Core
    c = core_of start

    made : (b : Bool) → (b ≡ false → MakesSteps start now is.since) → (b ≡ true → (e : StoreError) × MakesStepsUntil e start now is.since) → AllByRecursion (IsMade start.store.limits 0) is.since
    made true whole until = until_made limits 0 c (until refl).0 is.since (until refl).1.steps
    made false whole until = steps_made limits 0 c is.since (whole refl).steps
