-- The entries of a history from a number on, parted by the passes that made them.
use Rattle.std.proofs.Common.{◌≡◌, ◌≢◌, ◌⊎◌, inl, inr, ◌∙◌, ℕ, zero, suc, ◌+◌, ◌≤◌, ◌<◌, List, [], ◌∷◌, ◌++◌, length, map, drop, Some, slice_get, slice_index, refl, sym, ap, subst, arith, append_assoc}
use Rattle.std.specs.List.{AllByRecursion, flat_map, sum_by}
use Rattle.std.specs.List.Sorted.{IsPermutation, IsStrictlyIncreasing}
use Rattle.std.proofs.lemmas.Bool.{cases_eq, cases_lt, cond-true, cond-false, eq-eqb, ne_eqb}
use Rattle.std.proofs.lemmas.Bool.Decides.{nat_tests}
use Rattle.std.proofs.lemmas.List.{append-nil, length-drop}
use Rattle.std.proofs.lemmas.List.Elements.{filter-append}
use Rattle.std.proofs.lemmas.List.Sorted.{IsPermutation-refl, IsPermutation-trans, IsPermutation-append_comm, IsPermutation-append_left, IsPermutation-append_right}
use Rattle.std.proofs.lemmas.List.Sums.{sum_by-cons}
use Rattle.std.proofs.lemmas.Option.{slice_get_within}
use mathlib.Core.List.{IsPrefix}
use Rattle.xet_base.specs.theorems.Elements.{all_more}
use Rattle.xet_history.specs.History.{pass_of}
use Rattle.xet_history.specs.declared.entry.Entry.{Entry}
use Rattle.xet_locked_session.specs.Passes.{IsSeen, IsThere, NumbersDiffer, own_numbers}
use Rattle.xet_shared_history.specs.Owned.{HasEachOnce, count_of, one_within}
use Rattle.xet_shared_history.specs.theorems.Prefixes.{prefix_get}
use Rattle.xet_store.specs.Holders.{Holder, numbered, seen}
use Rattle.xet_store.specs.theorems.Following.{numbered-append}
use Rattle.xet_workers.specs.Cleaning.{made_by}

-- ---- properties of each element

-- two properties, and what follows from both
pub all_with : {X : Type 0} (P Q R : X → Type 0) (xs : List X) → ((x : X) → P x → Q x → R x) → AllByRecursion P xs → AllByRecursion Q xs → AllByRecursion R xs
all_with P Q R [] more one other = tt
all_with P Q R (x ∷ xs) more one other = (more x one.0 other.0, all_with P Q R xs more one.1 other.1)

-- a property for each of some things
all_each : {I X : Type 0} (P : I → X → Type 0) (xs : List X) → ((i : I) → AllByRecursion (P i) xs) → AllByRecursion (λ x. (i : I) → P i x) xs
all_each P [] each = tt
all_each P (x ∷ xs) each = ((λ i. (each i).0), all_each P xs (λ i. (each i).1))

-- ---- numbers that rise, and how often one is among them

-- They rise from a number on.
abbrev pub Rise : ℕ → List ℕ → Type 0
Rise k [] = Unit {0}
Rise k (n ∷ ns) = (k ≤ n) × Rise (suc n) ns

pub rise_next : (k n : ℕ) (ns : List ℕ) → k ≤ n → IsStrictlyIncreasing (n ∷ ns) → Rise k (n ∷ ns)
rise_next k n [] le up = (le, tt)
rise_next k n (m ∷ ns) le up =
    let next : n < m = up 0 (omega arith) in
    let rest : IsStrictlyIncreasing (m ∷ ns) = λ i within.
    let same : suc i + 1 ≡ suc (i + 1) = omega arith in
    subst (λ (j : ℕ). slice_index (m ∷ ns) i < slice_index (n ∷ m ∷ ns) j) same (up (suc i) (omega arith)) in
    (le, rise_next (suc n) m ns (omega (arith, next)) rest)

pub count_of-append : (n : ℕ) (xs ys : List ℕ) → count_of n (xs ++ ys) ≡ count_of n xs + count_of n ys
count_of-append n [] ys = omega arith
count_of-append n (x ∷ xs) ys = omega (arith, count_of-append n xs ys)

pub count_here : (n : ℕ) (ms : List ℕ) (m : ℕ) → m ≡ n → count_of n (m ∷ ms) ≡ 1 + count_of n ms
count_here n ms m is = grind (arith, nat_tests)

pub count_there : (n : ℕ) (ms : List ℕ) (m : ℕ) → m ≢ n → count_of n (m ∷ ms) ≡ count_of n ms
count_there n ms m apart = grind (arith, nat_tests)

pub none_below : (k : ℕ) (ns : List ℕ) → Rise k ns → (n : ℕ) → n < k → count_of n ns ≡ 0
none_below k [] rise n below = refl
none_below k (m ∷ ns) rise n below = count_there n ns m (λ is. absurd (omega (arith, rise.0))) ∙ none_below (suc m) ns rise.1 n (omega (arith, rise.0))

-- ---- the entries of a pass

module _ (pass : ℕ) (x : ℕ × Entry) (xs : List (ℕ × Entry)) where
  pub made_here : pass_of x.1 ≡ pass → made_by pass (x ∷ xs) ≡ x ∷ made_by pass xs
  made_here is = cond-true _ (x ∷ made_by pass xs) (made_by pass xs) (eq-eqb (pass_of x.1) pass is)

  pub made_apart : pass_of x.1 ≢ pass → made_by pass (x ∷ xs) ≡ made_by pass xs
  made_apart apart = cond-false _ (x ∷ made_by pass xs) (made_by pass xs) (ne_eqb (pass_of x.1) pass apart)

made_none : (pass n : ℕ) (es : List Entry) → AllByRecursion (λ e. pass_of e ≢ pass) es → made_by pass (numbered n es) ≡ []
made_none pass n [] apart = refl
made_none pass n (e ∷ es) apart = made_apart pass (n, e) (numbered (suc n) es) apart.0 ∙ made_none pass (suc n) es apart.1

-- Entries of other passes add nothing to those of a pass.
pub made_more : (pass n : ℕ) (es more : List Entry) → AllByRecursion (λ e. pass_of e ≢ pass) more → made_by pass (numbered n (es ++ more)) ≡ made_by pass (numbered n es)
made_more pass n es more apart =
    ap (made_by pass) (numbered-append n es more)
    ∙ filter-append _ (numbered n es) (numbered (n + length es) more)
    ∙ ap (λ (l : List (ℕ × Entry)). made_by pass (numbered n es) ++ l) (made_none pass (n + length es) more apart)
    ∙ append-nil (made_by pass (numbered n es))

-- ---- the own entries of a pass are all that it made

drop_there : {X : Type 0} (k : ℕ) (xs : List X) (x : X) (rest : List X) → drop k xs ≡ x ∷ rest → (slice_get xs k ≡ Some x) × (drop (suc k) xs ≡ rest)
drop_there zero [] x rest e = absurd (cc e)
drop_there zero (y ∷ ys) x rest e = (cc e, cc e)
drop_there (suc k) [] x rest e = absurd (cc e)
drop_there (suc k) (y ∷ ys) x rest e = drop_there k ys x rest e

-- the numbers of entries
abbrev pub numbers_of : List (ℕ × Entry) → List ℕ
numbers_of entries = map (λ p. p.0) entries

module _ (history : List Entry) (pass : ℕ) where
  -- the pass made the entry, which is in the history under its number
  abbrev IsMade : ℕ × Entry → Type 0
  IsMade p = (slice_get history p.0 ≡ Some p.1) × (pass_of p.1 ≡ pass)

  -- each entry of the pass from a number on is among these
  abbrev HasAll : ℕ → List (ℕ × Entry) → Type 0
  HasAll k own = (n : ℕ) (e : Entry) → k ≤ n → slice_get history n ≡ Some e → pass_of e ≡ pass → 0 < count_of n (numbers_of own)

  own_walk : (es : List Entry) (k : ℕ) (own : List (ℕ × Entry)) → drop k history ≡ es → Rise k (numbers_of own) → AllByRecursion IsMade own → HasAll k own → own ≡ made_by pass (numbered k es)
  own_walk [] k [] rest rise made all = refl
  own_walk [] k (p ∷ own) rest rise made all =
      absurd (omega (arith, rise.0, slice_get_within history p.0 p.1 made.0.0, length-drop k history, ap (λ (l : List Entry). length l) rest))
  own_walk (e ∷ es) k [] rest rise made all =
      let at = drop_there k history e es rest in
      elim (cases_eq (pass_of e) pass) [
        | inl is ↦ absurd (omega (arith, all k e (omega arith) at.0 is))
        | inr apart ↦ own_walk es (suc k) [] at.1 tt tt (λ n d le. all n d (omega arith)) ∙ sym (made_apart pass (k, e) (numbered (suc k) es) apart)
      ]
  own_walk (e ∷ es) k (p ∷ own) rest rise made all =
      let at = drop_there k history e es rest in
      elim (cases_eq p.0 k) [
        | inl here ↦
            let same : p.1 ≡ e = cc (made.0.0, at.0, here) in
            let mine : pass_of e ≡ pass = ap pass_of (sym same) ∙ made.0.1 in
            let pair : ◌≡◌ {A = ℕ × Entry} p (k, e) = λ i. (here i, same i) in
            let later : HasAll (suc k) own = λ n d le there is. subst (λ (c : ℕ). 0 < c) (count_there n (numbers_of own) p.0 (λ eq. absurd (omega arith))) (all n d (omega arith) there is) in
            ap (λ (l : List (ℕ × Entry)). p ∷ l) (own_walk es (suc k) own at.1 (subst (λ (j : ℕ). Rise (suc j) (numbers_of own)) here rise.1) made.1 later)
            ∙ ap (λ (q : ℕ × Entry). q ∷ made_by pass (numbered (suc k) es)) pair
            ∙ sym (made_here pass (k, e) (numbered (suc k) es) mine)
        | inr past ↦ elim (cases_eq (pass_of e) pass) [
          | inl is ↦ absurd (omega (arith, all k e (omega arith) at.0 is, count_there k (numbers_of own) p.0 past, none_below (suc p.0) (numbers_of own) rise.1 k (omega (arith, rise.0))))
          | inr apart ↦
              own_walk es (suc k) (p ∷ own) at.1 (omega (arith, rise.0, past), rise.1) made (λ n d le. all n d (omega arith))
              ∙ sym (made_apart pass (k, e) (numbered (suc k) es) apart)
        ]
      ]

  -- an entry of the history whose number is among these is of the pass
  made_of : (own : List (ℕ × Entry)) → AllByRecursion IsMade own → (n : ℕ) (e : Entry) → slice_get history n ≡ Some e → 0 < count_of n (numbers_of own) → pass_of e ≡ pass
  made_of [] made n e there some = absurd (omega arith)
  made_of (p ∷ own) made n e there some = elim (cases_eq p.0 n) [
    | inl is ↦ let same : p.1 ≡ e = cc (made.0.0, there, is) in ap pass_of (sym same) ∙ made.0.1
    | inr apart ↦ made_of own made.1 n e there (omega (arith, count_there n (numbers_of own) p.0 apart))
  ]

-- ---- passes that began at a number

-- one of the passes has this number
abbrev pub HasPass : List Holder → ℕ → Type 0
HasPass [] n = ⊥
HasPass (p ∷ ps) n = (p.number ≡ n) ⊎ HasPass ps n

-- what holds of the number of each pass
pub of_passes : (P : ℕ → Type 0) (passes : List Holder) (n : ℕ) → AllByRecursion (λ p. P p.number) passes → HasPass passes n → P n
of_passes P [] n all has = absurd has
of_passes P (p ∷ ps) n all (inl is) = subst P is all.0
of_passes P (p ∷ ps) n all (inr has) = of_passes P ps n all.1 has

-- The pass has seen a part of the history, and began when that had so many entries.
pub record IsFrom (history : List Entry) (from : ℕ) (p : Holder) : Type 0 where
  pub sees : IsSeen p
  pub prefix : IsPrefix (seen p) history
  pub begins : length p.before ≡ from

-- The entries are parted: the passes differ, the own entries of each are those that it made, and each entry is of one of them.
pub record Parted (passes : List Holder) (entries : List (ℕ × Entry)) : Type 0 where
  pub differ : NumbersDiffer passes
  pub own : AllByRecursion (λ p. p.own ≡ made_by p.number entries) passes
  pub all : AllByRecursion (λ x. HasPass passes (pass_of x.1)) entries

module _ (history : List Entry) (from : ℕ) where
  made_from : (p : Holder) → IsFrom history from p → AllByRecursion (IsMade history p.number) p.own
  made_from p is = all_more (IsThere p) (IsMade history p.number) p.own (λ q there. (prefix_get (seen p) history q.0 q.1 is.prefix there.there, there.made)) is.sees.own

  rise_from : (k : ℕ) (own : List (ℕ × Entry)) → AllByRecursion (λ q. k ≤ q.0) own → IsStrictlyIncreasing (numbers_of own) → Rise k (numbers_of own)
  rise_from k [] above up = tt
  rise_from k (q ∷ own) above up = rise_next k q.0 (numbers_of own) above.0 up

  own_rises : (p : Holder) → IsFrom history from p → Rise from (numbers_of p.own)
  own_rises p is = rise_from from p.own (all_more (IsThere p) (λ q. from ≤ q.0) p.own (λ q there. omega (arith, there.later, is.begins)) is.sees.own) is.sees.ascend

  -- an entry whose number is among the own ones of passes is of one of them
  owner_of : (passes : List Holder) → AllByRecursion (IsFrom history from) passes → (n : ℕ) (e : Entry) → slice_get history n ≡ Some e → 0 < count_of n (own_numbers passes) → HasPass passes (pass_of e)
  owner_of [] are n e there some = absurd (omega arith)
  owner_of (p ∷ ps) are n e there some = elim (cases_lt 0 (count_of n (numbers_of p.own))) [
    | inl mine ↦ inl (sym (made_of history p.number p.own (made_from p are.0) n e there mine))
    | inr none ↦ inr (owner_of ps are.1 n e there (omega (arith, count_of-append n (numbers_of p.own) (own_numbers ps))))
  ]

  -- it is among the own ones of the pass that made it
  owned_by : (passes : List Holder) → AllByRecursion (IsFrom history from) passes → NumbersDiffer passes → (n : ℕ) (e : Entry) → slice_get history n ≡ Some e → 0 < count_of n (own_numbers passes)
      → AllByRecursion (λ p. pass_of e ≡ p.number → 0 < count_of n (numbers_of p.own)) passes
  owned_by [] are differ n e there some = tt
  owned_by (p ∷ ps) are differ n e there some = elim (cases_lt 0 (count_of n (numbers_of p.own))) [
    | inl mine ↦
        let is : pass_of e ≡ p.number = made_of history p.number p.own (made_from p are.0) n e there mine in
        ((λ same. mine), all_more (λ k. k.number ≢ p.number) (λ k. pass_of e ≡ k.number → 0 < count_of n (numbers_of k.own)) ps (λ k apart same. absurd (apart (sym same ∙ is))) differ.0)
    | inr none ↦
        let rest : 0 < count_of n (own_numbers ps) = omega (arith, count_of-append n (numbers_of p.own) (own_numbers ps)) in
        let other : pass_of e ≢ p.number = of_passes (λ k. k ≢ p.number) ps (pass_of e) differ.0 (owner_of ps are.1 n e there rest) in
        ((λ same. absurd (other same)), owned_by ps are.1 differ.1 n e there rest)
  ]

  module _ (passes : List Holder) (are : AllByRecursion (IsFrom history from) passes) (differ : NumbersDiffer passes) (once : HasEachOnce from (length history) (own_numbers passes)) where
    in_one : (n : ℕ) (e : Entry) → from ≤ n → slice_get history n ≡ Some e → 0 < count_of n (own_numbers passes)
    in_one n e le there =
        let within : n < length history = slice_get_within history n e there in
        let one : one_within from (length history) n ≡ 1 = grind (arith, nat_tests) in
        omega (arith, once n, one)

    -- The own entries of each pass are those from the number on that it made.
    pub own_is : AllByRecursion (λ p. p.own ≡ made_by p.number (numbered from (drop from history))) passes
    own_is =
        let each : AllByRecursion (λ p. (i : (n : ℕ) × (e : Entry) × (from ≤ n) × (slice_get history n ≡ Some e)) → pass_of i.1 ≡ p.number → 0 < count_of i.0 (numbers_of p.own)) passes =
        all_each (λ (i : (n : ℕ) × (e : Entry) × (from ≤ n) × (slice_get history n ≡ Some e)) (p : Holder). pass_of i.1 ≡ p.number → 0 < count_of i.0 (numbers_of p.own)) passes
        (λ i. owned_by passes are differ i.0 i.1 i.3 (in_one i.0 i.1 i.2 i.3)) in
        all_with (IsFrom history from) (λ p. (i : (n : ℕ) × (e : Entry) × (from ≤ n) × (slice_get history n ≡ Some e)) → pass_of i.1 ≡ p.number → 0 < count_of i.0 (numbers_of p.own))
        (λ p. p.own ≡ made_by p.number (numbered from (drop from history))) passes
        (λ p is has. own_walk history p.number (drop from history) from p.own refl (own_rises p is) (made_from p is) (λ n e le there mine. has (n, e, le, there) mine)) are each

    -- Each entry from the number on is of one of the passes.
    pub own_all : AllByRecursion (λ x. HasPass passes (pass_of x.1)) (numbered from (drop from history))
    own_all = walk (drop from history) from (omega arith) refl
      where
        walk : (es : List Entry) (k : ℕ) → from ≤ k → drop k history ≡ es → AllByRecursion (λ x. HasPass passes (pass_of x.1)) (numbered k es)
        walk [] k le rest = tt
        walk (e ∷ es) k le rest =
            let at = drop_there k history e es rest in
            (owner_of passes are k e at.0 (in_one k e le at.0), walk es (suc k) (omega arith) at.1)

    -- So the entries from the number on are parted.
    pub parted : Parted passes (numbered from (drop from history))
    parted = record { differ = differ; own = own_is; all = own_all }

-- ---- what is made of each entry, pass after pass

module _ {X : Type 0} (f : ℕ × Entry → List X) where
  -- what is made of the entries of a pass
  abbrev made_for : List (ℕ × Entry) → Holder → List X
  made_for xs p = flat_map f (made_by p.number xs)

  made_for_none : (passes : List Holder) → flat_map (made_for []) passes ≡ []
  made_for_none [] = refl
  made_for_none (p ∷ ps) = made_for_none ps

  made_for_others : (x : ℕ × Entry) (xs : List (ℕ × Entry)) (passes : List Holder) → AllByRecursion (λ k. k.number ≢ pass_of x.1) passes → flat_map (made_for (x ∷ xs)) passes ≡ flat_map (made_for xs) passes
  made_for_others x xs [] apart = refl
  made_for_others x xs (p ∷ ps) apart =
      ap (λ (l : List (ℕ × Entry)). flat_map f l ++ flat_map (made_for (x ∷ xs)) ps) (made_apart p.number x xs (λ is. apart.0 (sym is)))
      ∙ ap (λ (l : List X). made_for xs p ++ l) (made_for_others x xs ps apart.1)

  -- the entry is of the first pass
  made_for_first : (x : ℕ × Entry) (xs : List (ℕ × Entry)) (p : Holder) (ps : List Holder) → AllByRecursion (λ k. k.number ≢ p.number) ps → p.number ≡ pass_of x.1
      → IsPermutation (f x ++ flat_map (made_for xs) (p ∷ ps)) (flat_map (made_for (x ∷ xs)) (p ∷ ps))
  made_for_first x xs p ps differ is =
      let rest : List X = flat_map (made_for xs) ps in
      let same : flat_map (made_for (x ∷ xs)) (p ∷ ps) ≡ f x ++ (made_for xs p ++ rest) =
      ap (λ (l : List (ℕ × Entry)). flat_map f l ++ flat_map (made_for (x ∷ xs)) ps) (made_here p.number x xs (sym is))
      ∙ ap (λ (l : List X). (f x ++ made_for xs p) ++ l) (made_for_others x xs ps (subst (λ (n : ℕ). AllByRecursion (λ k. k.number ≢ n) ps) is differ))
      ∙ append_assoc (f x) (made_for xs p) rest in
      subst (IsPermutation (f x ++ (made_for xs p ++ rest))) (sym same) (IsPermutation-refl (f x ++ (made_for xs p ++ rest)))

  -- it is of a later one
  made_for_later : (x : ℕ × Entry) (xs : List (ℕ × Entry)) (p : Holder) (ps : List Holder) → p.number ≢ pass_of x.1 → IsPermutation (f x ++ flat_map (made_for xs) ps) (flat_map (made_for (x ∷ xs)) ps)
      → IsPermutation (f x ++ flat_map (made_for xs) (p ∷ ps)) (flat_map (made_for (x ∷ xs)) (p ∷ ps))
  made_for_later x xs p ps apart more =
      let mine : List X = made_for xs p in
      let rest : List X = flat_map (made_for xs) ps in
      let next : List X = flat_map (made_for (x ∷ xs)) ps in
      let same : flat_map (made_for (x ∷ xs)) (p ∷ ps) ≡ mine ++ next = ap (λ (l : List (ℕ × Entry)). flat_map f l ++ next) (made_apart p.number x xs (λ is. apart (sym is))) in
      let swapped : IsPermutation ((f x ++ mine) ++ rest) ((mine ++ f x) ++ rest) = IsPermutation-append_left rest (f x ++ mine) (mine ++ f x) (IsPermutation-append_comm (f x) mine) in
      let moved : IsPermutation (f x ++ (mine ++ rest)) (mine ++ (f x ++ rest)) =
      subst (λ (l : List X). IsPermutation l (mine ++ (f x ++ rest))) (append_assoc (f x) mine rest) (subst (IsPermutation ((f x ++ mine) ++ rest)) (append_assoc mine (f x) rest) swapped) in
      subst (IsPermutation (f x ++ (mine ++ rest))) (sym same)
      (IsPermutation-trans (f x ++ (mine ++ rest)) (mine ++ (f x ++ rest)) (mine ++ next) moved (IsPermutation-append_right mine (f x ++ rest) next more))

  made_for_more : (x : ℕ × Entry) (xs : List (ℕ × Entry)) (passes : List Holder) → NumbersDiffer passes → HasPass passes (pass_of x.1) → IsPermutation (f x ++ flat_map (made_for xs) passes) (flat_map (made_for (x ∷ xs)) passes)
  made_for_more x xs [] differ has = absurd has
  made_for_more x xs (p ∷ ps) differ (inl is) = made_for_first x xs p ps differ.0 is
  made_for_more x xs (p ∷ ps) differ (inr has) = elim (cases_eq p.number (pass_of x.1)) [
    | inl is ↦ made_for_first x xs p ps differ.0 is
    | inr apart ↦ made_for_later x xs p ps apart (made_for_more x xs ps differ.1 has)
  ]

  -- What is made of entries of these passes is what is made of those of each, in some order.
  pub flat_map_parted : (passes : List Holder) (xs : List (ℕ × Entry)) → NumbersDiffer passes → AllByRecursion (λ x. HasPass passes (pass_of x.1)) xs
      → IsPermutation (flat_map f xs) (flat_map (λ p. flat_map f (made_by p.number xs)) passes)
  flat_map_parted passes [] differ all = subst (IsPermutation []) (sym (made_for_none passes)) (IsPermutation-refl [])
  flat_map_parted passes (x ∷ xs) differ all =
      IsPermutation-trans (f x ++ flat_map f xs) (f x ++ flat_map (made_for xs) passes) (flat_map (made_for (x ∷ xs)) passes)
      (IsPermutation-append_right (f x) (flat_map f xs) (flat_map (made_for xs) passes) (flat_map_parted passes xs differ all.1))
      (made_for_more x xs passes differ all.0)

-- ---- sums over the entries, pass after pass

module _ (g : ℕ × Entry → ℕ) where
  -- the sum over the entries of a pass
  abbrev sum_for : List (ℕ × Entry) → Holder → ℕ
  sum_for xs p = sum_by g (made_by p.number xs)

  sum_for_none : (passes : List Holder) → sum_by (sum_for []) passes ≡ 0
  sum_for_none [] = refl
  sum_for_none (p ∷ ps) = omega (arith, sum_by-cons (sum_for []) p ps, sum_for_none ps)

  sum_for_others : (x : ℕ × Entry) (xs : List (ℕ × Entry)) (passes : List Holder) → AllByRecursion (λ k. k.number ≢ pass_of x.1) passes → sum_by (sum_for (x ∷ xs)) passes ≡ sum_by (sum_for xs) passes
  sum_for_others x xs [] apart = refl
  sum_for_others x xs (p ∷ ps) apart =
      let same : sum_for (x ∷ xs) p ≡ sum_for xs p = ap (sum_by g) (made_apart p.number x xs (λ is. apart.0 (sym is))) in
      omega (arith, same, sum_by-cons (sum_for (x ∷ xs)) p ps, sum_by-cons (sum_for xs) p ps, sum_for_others x xs ps apart.1)

  sum_for_first : (x : ℕ × Entry) (xs : List (ℕ × Entry)) (p : Holder) (ps : List Holder) → AllByRecursion (λ k. k.number ≢ p.number) ps → p.number ≡ pass_of x.1
      → sum_by (sum_for (x ∷ xs)) (p ∷ ps) ≡ g x + sum_by (sum_for xs) (p ∷ ps)
  sum_for_first x xs p ps differ is =
      let mine : sum_for (x ∷ xs) p ≡ g x + sum_for xs p = ap (sum_by g) (made_here p.number x xs (sym is)) ∙ sum_by-cons g x (made_by p.number xs) in
      let rest = sum_for_others x xs ps (subst (λ (n : ℕ). AllByRecursion (λ k. k.number ≢ n) ps) is differ) in
      omega (arith, mine, rest, sum_by-cons (sum_for (x ∷ xs)) p ps, sum_by-cons (sum_for xs) p ps)

  sum_for_more : (x : ℕ × Entry) (xs : List (ℕ × Entry)) (passes : List Holder) → NumbersDiffer passes → HasPass passes (pass_of x.1) → sum_by (sum_for (x ∷ xs)) passes ≡ g x + sum_by (sum_for xs) passes
  sum_for_more x xs [] differ has = absurd has
  sum_for_more x xs (p ∷ ps) differ (inl is) = sum_for_first x xs p ps differ.0 is
  sum_for_more x xs (p ∷ ps) differ (inr has) = elim (cases_eq p.number (pass_of x.1)) [
    | inl is ↦ sum_for_first x xs p ps differ.0 is
    | inr apart ↦
        let same : sum_for (x ∷ xs) p ≡ sum_for xs p = ap (sum_by g) (made_apart p.number x xs (λ is. apart (sym is))) in
        omega (arith, same, sum_by-cons (sum_for (x ∷ xs)) p ps, sum_by-cons (sum_for xs) p ps, sum_for_more x xs ps differ.1 has)
  ]

  -- The sum over entries of these passes is that of the sums over those of each.
  pub sum_by_parted : (passes : List Holder) (xs : List (ℕ × Entry)) → NumbersDiffer passes → AllByRecursion (λ x. HasPass passes (pass_of x.1)) xs → sum_by g xs ≡ sum_by (λ p. sum_by g (made_by p.number xs)) passes
  sum_by_parted passes [] differ all = sym (sum_for_none passes)
  sum_by_parted passes (x ∷ xs) differ all = omega (arith, sum_by-cons g x xs, sum_for_more x xs passes differ all.0, sum_by_parted passes xs differ all.1)
