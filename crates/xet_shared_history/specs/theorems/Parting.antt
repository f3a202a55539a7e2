-- If holders of different passes have together as many own entries as there are since a point of the history, these are all of
-- them.
use Rattle.std.proofs.Common.{◌≡◌, ◌≢◌, inl, inr, ◌∙◌, ℕ, zero, suc, ◌+◌, ◌≤◌, ◌<◌, List, [], ◌∷◌, ◌++◌, length, refl, sym, ap, subst, arith}
use Rattle.std.specs.List.{AllByRecursion}
use Rattle.std.proofs.lemmas.Bool.{cases_eq, cases_lt}
use Rattle.std.proofs.lemmas.Bool.Decides.{nat_tests}
use Rattle.std.proofs.lemmas.Option.{slice_get_within}
use mathlib.Core.List.{IsPrefix}
use Rattle.xet_history.specs.History.{pass_of}
use Rattle.xet_history.specs.declared.entry.Entry.{Entry}
use Rattle.xet_shared_history.specs.Owned.{AreOwn, HasEachOnce, IsEntryOf, IsHeld, Owned, PassesDiffer, all_own, count_of}
use Rattle.xet_shared_history.specs.theorems.Owned.{entry_later}

count_of-append : (n : ℕ) (xs ys : List ℕ) → count_of n (xs ++ ys) ≡ count_of n xs + count_of n ys
count_of-append n [] ys = omega arith
count_of-append n (x ∷ xs) ys = omega (arith, count_of-append n xs ys)

count_here : (n : ℕ) (ms : List ℕ) (m : ℕ) → m ≡ n → count_of n (m ∷ ms) ≡ 1 + count_of n ms
count_here n ms m is = grind (arith, nat_tests)

count_there : (n : ℕ) (ms : List ℕ) (m : ℕ) → m ≢ n → count_of n (m ∷ ms) ≡ count_of n ms
count_there n ms m apart = grind (arith, nat_tests)

-- ---- one holder

module _ (pass : ℕ) (seen history : List Entry) (prefix : IsPrefix seen history) where
  none_below : (from : ℕ) (own : List ℕ) → AreOwn pass seen from own → (n : ℕ) → n < from → count_of n own ≡ 0
  none_below from [] are n below = refl
  none_below from (m ∷ own) are n below = count_there n own m (λ is. absurd (omega (arith, are.0))) ∙ none_below (m + 1) own are.2 n (omega (arith, are.0))

  once : (from : ℕ) (own : List ℕ) → AreOwn pass seen from own → (n : ℕ) → count_of n own ≤ 1
  once from [] are n = omega arith
  once from (m ∷ own) are n = elim (cases_eq m n) [
    | inl is ↦ omega (arith, count_here n own m is, none_below (m + 1) own are.2 n (omega arith))
    | inr apart ↦ omega (arith, count_there n own m apart, once (m + 1) own are.2 n)
  ]

  is_own : (from : ℕ) (own : List ℕ) → AreOwn pass seen from own → (n : ℕ) → 0 < count_of n own → IsEntryOf pass history n
  is_own from [] are n some = absurd (omega arith)
  is_own from (m ∷ own) are n some = elim (cases_eq m n) [
    | inl is ↦ subst (IsEntryOf pass history) is (entry_later pass seen history m prefix are.1)
    | inr apart ↦ is_own (m + 1) own are.2 n (omega (arith, count_there n own m apart))
  ]

-- ---- all holders

module _ (history : List Entry) (from : ℕ) where
  none_of : (pass : ℕ) (hs : List Owned) → AllByRecursion (IsHeld history from) hs → AllByRecursion (λ k. k.pass ≢ pass) hs → (n : ℕ) → IsEntryOf pass history n → count_of n (all_own hs) ≡ 0
  none_of pass [] held apart n is = refl
  none_of pass (h ∷ hs) held apart n is =
      let rest = none_of pass hs held.1 apart.1 n is in
      let own : count_of n h.own ≡ 0 = elim (cases_lt 0 (count_of n h.own)) [
        | inl some ↦ let mine = is_own h.pass h.seen history held.0.0 from h.own held.0.1 n some in
            let same : mine.entry ≡ is.entry = cc (mine.there, is.there) in absurd (apart.0 (sym mine.made ∙ ap pass_of same ∙ is.made))
        | inr none ↦ omega arith
      ] in
      omega (arith, count_of-append n h.own (all_own hs))

  once_in_all : (hs : List Owned) → AllByRecursion (IsHeld history from) hs → PassesDiffer hs → (n : ℕ) → count_of n (all_own hs) ≤ 1
  once_in_all [] held apart n = omega arith
  once_in_all (h ∷ hs) held apart n = elim (cases_lt 0 (count_of n h.own)) [
    | inl some ↦ let rest = none_of h.pass hs held.1 apart.0 n (is_own h.pass h.seen history held.0.0 from h.own held.0.1 n some) in
        omega (arith, count_of-append n h.own (all_own hs), once h.pass h.seen history held.0.0 from h.own held.0.1 n)
    | inr none ↦ omega (arith, count_of-append n h.own (all_own hs), once_in_all hs held.1 apart.1 n)
  ]

  none_before : (hs : List Owned) → AllByRecursion (IsHeld history from) hs → (n : ℕ) → n < from → count_of n (all_own hs) ≡ 0
  none_before [] held n below = refl
  none_before (h ∷ hs) held n below = omega (arith, count_of-append n h.own (all_own hs), none_below h.pass h.seen history held.0.0 from h.own held.0.1 n below, none_before hs held.1 n below)

  none_after : (hs : List Owned) → AllByRecursion (IsHeld history from) hs → (n : ℕ) → length history ≤ n → count_of n (all_own hs) ≡ 0
  none_after [] held n above = refl
  none_after (h ∷ hs) held n above =
      let own : count_of n h.own ≡ 0 = elim (cases_lt 0 (count_of n h.own)) [
        | inl some ↦ let mine = is_own h.pass h.seen history held.0.0 from h.own held.0.1 n some in let within = slice_get_within history n mine.entry mine.there in absurd (omega arith)
        | inr none ↦ omega arith
      ] in
      omega (arith, count_of-append n h.own (all_own hs), none_after hs held.1 n above)

-- ---- as many as there are numbers

-- f at so many consecutive numbers, added up
span : ℕ → ℕ → (ℕ → ℕ) → ℕ
span from zero f = 0
span from (suc k) f = f from + span (from + 1) k f

span_le : (k from : ℕ) (f : ℕ → ℕ) → ((n : ℕ) → f n ≤ 1) → span from k f ≤ k
unfolding span
span_le zero from f small = omega arith
span_le (suc k) from f small = omega (arith, small from, span_le k (from + 1) f small)

-- where each is at most one, and they add up to as many as there are, each is one
all_one : (k from : ℕ) (f : ℕ → ℕ) → ((n : ℕ) → f n ≤ 1) → span from k f ≡ k → (n : ℕ) → from ≤ n → n < from + k → f n ≡ 1
unfolding span
all_one zero from f small all n le lt = absurd (omega arith)
all_one (suc k) from f small all n le lt = elim (cases_eq n from) [
  | inl is ↦ subst (λ m. f m ≡ 1) (sym is) (omega (arith, small from, span_le k (from + 1) f small))
  | inr apart ↦ all_one k (from + 1) f small (omega (arith, small from, span_le k (from + 1) f small)) n (omega arith) (omega arith)
]

span_zero : (k from : ℕ) → span from k (λ n. 0) ≡ 0
unfolding span
span_zero zero from = refl
span_zero (suc k) from = omega (arith, span_zero k (from + 1))

span_skip : (k from m : ℕ) (ms : List ℕ) → m < from → span from k (λ n. count_of n (m ∷ ms)) ≡ span from k (λ n. count_of n ms)
unfolding span
span_skip zero from m ms below = refl
span_skip (suc k) from m ms below = omega (arith, count_there from ms m (λ is. absurd (omega arith)), span_skip k (from + 1) m ms (omega arith))

span_one : (k from m : ℕ) (ms : List ℕ) → from ≤ m → m < from + k → span from k (λ n. count_of n (m ∷ ms)) ≡ 1 + span from k (λ n. count_of n ms)
unfolding span
span_one zero from m ms le lt = absurd (omega arith)
span_one (suc k) from m ms le lt = elim (cases_eq m from) [
  | inl is ↦ omega (arith, count_here from ms m is, span_skip k (from + 1) m ms (omega arith))
  | inr apart ↦ omega (arith, count_there from ms m apart, span_one k (from + 1) m ms (omega arith) (omega arith))
]

span_count : (k from : ℕ) (ms : List ℕ) → ((n : ℕ) → n < from → count_of n ms ≡ 0) → ((n : ℕ) → from + k ≤ n → count_of n ms ≡ 0) → span from k (λ n. count_of n ms) ≡ length ms
span_count k from [] before after = span_zero k from
span_count k from (m ∷ ms) before after =
    let le : from ≤ m = elim (cases_lt m from) [ inl lt ↦ absurd (omega (arith, before m lt, count_here m ms m refl)) | inr le ↦ le ] in
    let lt : m < from + k = elim (cases_lt m (from + k)) [ inl lt ↦ lt | inr ge ↦ absurd (omega (arith, after m ge, count_here m ms m refl)) ] in
    span_one k from m ms le lt
    ∙ ap (λ i. 1 + i) (span_count k from ms (λ n h. less n (before n h)) (λ n h. less n (after n h)))
    ∙ omega arith
  where
    less : (n : ℕ) → count_of n (m ∷ ms) ≡ 0 → count_of n ms ≡ 0
    less n none = elim (cases_eq m n) [ inl is ↦ absurd (omega (arith, count_here n ms m is)) | inr apart ↦ sym (count_there n ms m apart) ∙ none ]

pub each_once : (history : List Entry) (from : ℕ) (hs : List Owned) → AllByRecursion (IsHeld history from) hs → PassesDiffer hs → from + length (all_own hs) ≡ length history → HasEachOnce from (length history) (all_own hs)
each_once history from hs held apart counts n =
    let f = λ (m : ℕ). count_of m (all_own hs) in
    let k = length (all_own hs) in
    let sums : span from k f ≡ k = span_count k from (all_own hs) (none_before history from hs held) (λ m h. none_after history from hs held m (omega arith)) in
    elim (cases_lt n from) [
      | inl below ↦ none_before history from hs held n below ∙ (grind (arith, nat_tests))
      | inr le ↦ elim (cases_lt n (length history)) [
        | inl lt ↦ all_one k from f (once_in_all history from hs held apart) sums n le (omega arith) ∙ (grind (arith, nat_tests))
        | inr above ↦ none_after history from hs held n above ∙ (grind (arith, nat_tests))
      ]
    ]
