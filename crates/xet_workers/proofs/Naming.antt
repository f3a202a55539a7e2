-- The numbers that passes name differ, if each names some of its own, and no number is of two passes.
use Rattle.std.proofs.Common.{◌≡◌, ◌≢◌, ◌⊎◌, inl, inr, ℕ, zero, suc, ◌≤◌, ◌<◌, List, [], ◌∷◌, ◌++◌, length, map, Option, slice_index_or, refl, sym, ap, arith, AllPairs, Contains}
use Rattle.std.specs.List.{AllByRecursion, flat_map}
use Rattle.std.specs.List.Sorted.{IsStrictlyIncreasing}
use Rattle.std.proofs.lemmas.Bool.{cases_eq}
use Rattle.std.proofs.lemmas.Bool.Decides.{nat_tests}
use Rattle.std.proofs.lemmas.List.Elements.{All-from_recursion, Contains-append_cases}
use Rattle.std.proofs.lemmas.List.Kept.{AllPairs-cons}
use Rattle.xet_choices.specs.Calls.Call.{Asked}
use Rattle.xet_history.specs.declared.entry.Entry.{Entry}
use Rattle.xet_history.specs.declared.entry.Entry.TheVariants.{Query, Register, Complete, Flush, Fault}
use Rattle.xet_locked_session.specs.Passes.{own_numbers}
use Rattle.xet_shared_history.specs.Owned.{HasEachOnce, count_of, one_within}
use Rattle.xet_store.specs.Holders.{Holder, call_at, calls_in}
use Rattle.xet_workers.proofs.Parting.{Rise, count_here, count_of-append, count_there, none_below, numbers_of, rise_next}

-- ---- the number of a query is that of its entry

contains_next : {X : Type 0} (x y : X) (xs : List X) (k : ℕ) → k < length (x ∷ xs) → slice_index_or (x ∷ xs) k y ≡ y → (x ≡ y) ⊎ Contains xs y
contains_next x y xs zero within is = inl is
contains_next x y xs (suc k) within is = inr (k, omega arith, is)

contains_none : {X : Type 0} (y : X) → Contains [] y → ⊥
contains_none y has = absurd (omega (arith, has.1))

module _ (n : ℕ) (hashes : List (List ℕ)) (reply : Option ℕ) where
  call_number : (m : ℕ) (e : Entry) → Contains (call_at m e) (Asked n hashes reply) → m ≡ n
  call_number m (Query pass hs r) has = elim (contains_next _ (Asked n hashes reply) [] has.0 has.1 has.2) [ inl is ↦ cc is | inr none ↦ absurd (contains_none (Asked n hashes reply) none) ]
  call_number m (Register pass chunks next added) has = elim (contains_next _ (Asked n hashes reply) [] has.0 has.1 has.2) [ inl is ↦ absurd (cc is) | inr none ↦ absurd (contains_none (Asked n hashes reply) none) ]
  call_number m (Complete pass file added) has = absurd (contains_none (Asked n hashes reply) has)
  call_number m (Flush pass shard) has = absurd (contains_none (Asked n hashes reply) has)
  call_number m (Fault pass kind) has = absurd (contains_none (Asked n hashes reply) has)

  -- a query among the calls of entries has the number of one of them
  pub asked_among : (xs : List (ℕ × Entry)) → Contains (calls_in xs) (Asked n hashes reply) → Contains (numbers_of xs) n
  asked_among [] has = absurd (contains_none (Asked n hashes reply) has)
  asked_among (x ∷ xs) has = elim (Contains-append_cases (call_at x.0 x.1) (calls_in xs) (Asked n hashes reply) has) [
    | inl here ↦ (0, omega arith, call_number x.0 x.1 here)
    | inr later ↦ let at = asked_among xs later in (suc at.0, omega (arith, at.1), at.2)
  ]

-- ---- how often a number is named

count_some : (n : ℕ) (ns : List ℕ) (k : ℕ) → k < length ns → slice_index_or ns k n ≡ n → 0 < count_of n ns
count_some n [] k within is = absurd (omega arith)
count_some n (m ∷ ns) zero within is = omega (arith, count_here n ns m is)
count_some n (m ∷ ns) (suc k) within is = elim (cases_eq m n) [
  | inl here ↦ omega (arith, count_here n ns m here)
  | inr apart ↦ omega (arith, count_there n ns m apart, count_some n ns k (omega arith) is)
]

-- numbers that rise, each among others, are no more often there than among these
rise_within : (own : List ℕ) (k : ℕ) (ns : List ℕ) → Rise k ns → AllByRecursion (Contains own) ns → (n : ℕ) → count_of n ns ≤ count_of n own
rise_within own k [] rise among n = omega arith
rise_within own k (m ∷ ns) rise among n = elim (cases_eq m n) [
  | inl is ↦ let has = among.0 in
      omega (arith, count_here n ns m is, none_below (suc m) ns rise.1 n (omega (arith, is)), ap (λ (j : ℕ). count_of j own) is, count_some m own has.0 has.1 has.2)
  | inr apart ↦ omega (arith, count_there n ns m apart, rise_within own (suc m) ns rise.1 among.1 n)
]

named_within : (own named : List ℕ) → IsStrictlyIncreasing named → AllByRecursion (Contains own) named → (n : ℕ) → count_of n named ≤ count_of n own
named_within own [] up among n = omega arith
named_within own (m ∷ named) up among n = rise_within own m (m ∷ named) (rise_next m m named (omega arith) up) among n

-- ---- numbers of which none is there twice

apart_from : (m : ℕ) (ns : List ℕ) → count_of m ns ≡ 0 → AllByRecursion (λ n. m ≢ n) ns
apart_from m [] none = tt
apart_from m (n ∷ ns) none = elim (cases_eq n m) [
  | inl is ↦ absurd (omega (arith, count_here m ns n is))
  | inr apart ↦ ((λ is. apart (sym is)), apart_from m ns (omega (arith, count_there m ns n apart)))
]

differ_once : (ns : List ℕ) → ((n : ℕ) → count_of n ns ≤ 1) → AllPairs (λ a b. a ≢ b) ns
differ_once [] once = λ i j d lt within. absurd (omega arith)
differ_once (m ∷ ns) once =
    AllPairs-cons (λ a b. a ≢ b) m ns (All-from_recursion (λ n. m ≢ n) ns (apart_from m ns (omega (arith, once m, count_here m ns m refl)))) (differ_once ns (λ n. fewer n (once n)))
  where
    fewer : (n : ℕ) → count_of n (m ∷ ns) ≤ 1 → count_of n ns ≤ 1
    fewer n few = elim (cases_eq m n) [ inl is ↦ omega (arith, count_here n ns m is) | inr apart ↦ omega (arith, count_there n ns m apart) ]

-- ---- all passes

-- the own numbers of all, as those of each
pub own_numbers_each : {X : Type 0} (pass : X → Holder) (ws : List X) → own_numbers (map pass ws) ≡ flat_map (λ w. numbers_of (pass w).own) ws
own_numbers_each pass [] = refl
own_numbers_each pass (w ∷ ws) = ap (λ (l : List ℕ). numbers_of (pass w).own ++ l) (own_numbers_each pass ws)

module _ {X : Type 0} (named own : X → List ℕ) where
  all_within : (ws : List X) → AllByRecursion (λ w. IsStrictlyIncreasing (named w) × AllByRecursion (Contains (own w)) (named w)) ws → (n : ℕ) → count_of n (flat_map named ws) ≤ count_of n (flat_map own ws)
  all_within [] all n = omega arith
  all_within (w ∷ ws) all n =
      omega (
        arith,
        named_within (own w) (named w) all.0.0 all.0.1 n,
        count_of-append n (named w) (flat_map named ws),
        count_of-append n (own w) (flat_map own ws),
        all_within ws all.1 n,
      )

  one_at_most : (from to n : ℕ) → one_within from to n ≤ 1
  one_at_most from to n = grind (arith, nat_tests)

  -- Each names numbers that rise and are among its own, and no number is of two: no number is named twice.
  pub names_differ : (from to : ℕ) (ws : List X) → AllByRecursion (λ w. IsStrictlyIncreasing (named w) × AllByRecursion (Contains (own w)) (named w)) ws → HasEachOnce from to (flat_map own ws)
      → AllPairs (λ a b. a ≢ b) (flat_map named ws)
  names_differ from to ws all once = differ_once (flat_map named ws) (λ n. omega (arith, all_within ws all n, once n, one_at_most from to n))
