-- Lists whose elements are pairwise apart: in another order, and sorted.
use Rattle.std.proofs.Common.{◌≡◌, ◌≢◌, ℕ, ◌<◌, ◌==◌, Bool, true, false, cond, IsTrue, List, length, get_or, refl, sym, ap, subst, ◌∙◌, arith}
use Rattle.std.proofs.lemmas.Bool.Decides.{nat_tests}
use Rattle.std.proofs.lemmas.Cmp.{by_ranked, ranked}
use Rattle.std.proofs.lemmas.List.Edits.{length-swap, swapped_from_swap}
use Rattle.std.proofs.lemmas.List.MinMax.{ranks_by}
use Rattle.std.proofs.lemmas.List.Sorted.{IsPermutation-keeps, sorted_far}
use Rattle.std.specs.Cmp.{IsTotalOrder}
use Rattle.std.specs.List.{AllPairs, swap}
use Rattle.std.specs.List.Sorted.{IsPermutation, IsSorted}
use Rattle.std.specs.Ordering.{is_lt, nat_cmp, ordering_reverse}
use Rattle.std.specs.declared.cmp.Ordering.{Ordering}
use Rattle.std.specs.declared.cmp.Ordering.TheVariants.{Less, Equal, Greater}

-- where the element at an index was before a swap
abbrev source : ℕ → ℕ → ℕ → ℕ
source i j k = cond (k == i) j (cond (k == j) i k)

source_apart : (i j p q : ℕ) → p ≢ q → source i j p ≢ source i j q
source_apart i j p q differ same = absurd (grind (arith, nat_tests))

source_below : (i j k n : ℕ) → i < n → j < n → k < n → source i j k < n
source_below i j k n below_i below_j below = grind (arith, nat_tests)

less_of : (o : Ordering) → is_lt (ordering_reverse o) ≡ false → o ≢ Equal → IsTrue (is_lt o)
less_of Less not_more differ = refl
less_of Equal not_more differ = absurd (differ refl)
less_of Greater not_more differ = absurd (cc not_more)

module _ {X : Type 0} where
  source_at : (l : List X) (i j k : ℕ) (d : X) → i < length l → j < length l → get_or (swap l i j) k d ≡ get_or l (source i j k) d
  source_at l i j k d below_i below_j =
      go (k == i) (k == j) refl refl
    where
      go : (b c : Bool) → (k == i) ≡ b → (k == j) ≡ c → get_or (swap l i j) k d ≡ get_or l (cond b j (cond c i k)) d
      go true c e f =
          let same : k ≡ i = grind (arith, nat_tests) in
          ap (λ (n : ℕ). get_or (swap l i j) n d) same ∙ (swapped_from_swap l (swap l i j) i j d below_i below_j refl).0
      go false true e f =
          let same : k ≡ j = grind (arith, nat_tests) in
          ap (λ (n : ℕ). get_or (swap l i j) n d) same ∙ (swapped_from_swap l (swap l i j) i j d below_i below_j refl).1
      go false false e f =
          let not_i : k ≢ i = grind (arith, nat_tests) in
          let not_j : k ≢ j = grind (arith, nat_tests) in
          (swapped_from_swap l (swap l i j) i j d below_i below_j refl).2 k not_i not_j

  module _ (R : X → X → Type 0) (back : (a b : X) → R a b → R b a) where
    -- at any two indices
    apart_at : (l : List X) → AllPairs R l → (p q : ℕ) (d : X) → p ≢ q → p < length l → q < length l → R (get_or l p d) (get_or l q d)
    apart_at l pairs p q d differ below_p below_q =
        by_ranked (p < q) (p ≡ q) (q < p) (nat_cmp p q) (ranked p q _ refl) (λ _ lt. pairs p q d lt below_q) (λ _ same. absurd (differ same)) (λ _ gt. back _ _ (pairs q p d gt below_p))

    apart_swap : (l : List X) (i j : ℕ) → i < length l → j < length l → AllPairs R l → AllPairs R (swap l i j)
    apart_swap l i j below_i below_j pairs p q d lt below =
        let long = length-swap l i j in
        let differ : p ≢ q = omega arith in
        let here = apart_at l pairs (source i j p) (source i j q) d (source_apart i j p q differ)
        (source_below i j p (length l) below_i below_j (omega (arith, long))) (source_below i j q (length l) below_i below_j (omega (arith, long))) in
        subst (λ (b : X). R (get_or (swap l i j) p d) b) (sym (source_at l i j q d below_i below_j))
        (subst (λ (a : X). R a (get_or l (source i j q) d)) (sym (source_at l i j p d below_i below_j)) here)

    -- in another order
    pub apart_moved : (xs ys : List X) → IsPermutation xs ys → AllPairs R xs → AllPairs R ys
    apart_moved xs ys moved pairs = IsPermutation-keeps xs (AllPairs R) pairs apart_swap ys moved

  -- a sorted list, no two of whose elements compare as equal
  pub strictly_sorted : (cmp : X → X → Ordering) → IsTotalOrder cmp → (xs : List X) → IsSorted cmp xs → AllPairs (λ a b. cmp a b ≢ Equal) xs → AllPairs (λ a b. IsTrue (is_lt (cmp a b))) xs
  strictly_sorted cmp total xs up apart i j d lt below =
      let a = get_or xs i d in
      let b = get_or xs j d in
      let far : is_lt (cmp b a) ≡ false = sorted_far (λ x y. is_lt (cmp x y)) (ranks_by total (λ (x : X). x)) xs up i j d (omega arith) below in
      less_of (cmp a b) (sym (ap is_lt (total.antisymm b a)) ∙ far) (apart i j d lt below)
