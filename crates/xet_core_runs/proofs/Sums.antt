-- Sums over the different elements of a list, where a test tells whether two are equal.
use Rattle.std.proofs.Common.{◌≡◌, ◌≢◌, ◌⊎◌, inl, inr, ℕ, ◌+◌, Bool, true, false, not, if◌then◌else◌, List, [], ◌∷◌, filter, refl, sym, ap, ◌∙◌, arith}
use Rattle.std.proofs.lemmas.List.Sums.{sum_by-cons}
use Rattle.std.specs.List.{list_any, sum_by}
use Rattle.xet_shard_index.specs.Different.{different}
use Rattle.xet_shard_index.specs.theorems.Different.{Distinct, any_different, different_is_distinct}

-- sums of equal numbers
pub sum_same : {X : Type 0} (f g : X → ℕ) (xs : List X) → ((x : X) → f x ≡ g x) → sum_by f xs ≡ sum_by g xs
sum_same f g [] same = refl
sum_same f g (x ∷ xs) same = omega (arith, sum_by-cons f x xs, sum_by-cons g x xs, same x, sum_same f g xs same)

module _ {X : Type 0} (eq : X → X → Bool) (tells : (a b : X) → ((eq a b ≡ true) × (a ≡ b)) ⊎ ((eq a b ≡ false) × (a ≢ b))) where
  abbrev Told : X → X → Type 0
  Told a b = ((eq a b ≡ true) × (a ≡ b)) ⊎ ((eq a b ≡ false) × (a ≢ b))

  abbrev others : X → List X → List X
  others k xs = filter (λ x. not (eq x k)) xs

  -- the numbers, with zero at one element
  abbrev but : X → (X → ℕ) → X → ℕ
  but k f x = if eq x k then 0 else f x

  sum_of_others : (k : X) (f : X → ℕ) (xs : List X) → sum_by f (others k xs) ≡ sum_by (but k f) xs
  sum_of_others k f [] = refl
  sum_of_others k f (x ∷ xs) = by (eq x k) refl (sum_of_others k f xs)
    where
      by : (b : Bool) → eq x k ≡ b → sum_by f (others k xs) ≡ sum_by (but k f) xs → sum_by f (others k (x ∷ xs)) ≡ sum_by (but k f) (x ∷ xs)
      by true e later =
          let gone : others k (x ∷ xs) ≡ others k xs = rw e refl in
          let none : but k f x ≡ 0 = rw e refl in
          ap (λ (ys : List X). sum_by f ys) gone ∙ omega (arith, later, none, sum_by-cons (but k f) x xs)
      by false e later =
          let stays : others k (x ∷ xs) ≡ x ∷ others k xs = rw e refl in
          let same : but k f x ≡ f x = rw e refl in
          ap (λ (ys : List X). sum_by f ys) stays ∙ omega (arith, later, same, sum_by-cons f x (others k xs), sum_by-cons (but k f) x xs)

  -- nothing changes where the element is not among them
  sum_without : (k : X) (f : X → ℕ) (xs : List X) → list_any (eq k) xs ≡ false → sum_by (but k f) xs ≡ sum_by f xs
  sum_without k f [] none = refl
  sum_without k f (x ∷ xs) none = by (tells k x) (tells x k) (sum_without k f xs)
    where
      by : Told k x → Told x k → (list_any (eq k) xs ≡ false → sum_by (but k f) xs ≡ sum_by f xs) → sum_by (but k f) (x ∷ xs) ≡ sum_by f (x ∷ xs)
      by (inl a) b later = absurd (cc (a.0, none))
      by (inr a) (inl b) later = absurd (a.1 (sym b.1))
      by (inr a) (inr b) later =
          let same : but k f x ≡ f x = rw b.0 refl in
          omega (arith, sum_by-cons (but k f) x xs, sum_by-cons f x xs, same, later (rw a.0 at none))

  -- where it is among them, it is once
  sum_with : (k : X) (f : X → ℕ) (xs : List X) → Distinct eq tells xs → (list_any (eq k) xs ≡ false → f k ≡ 0) → f k + sum_by (but k f) xs ≡ sum_by f xs
  unfolding Distinct
  sum_with k f [] distinct none = omega (arith, none refl)
  sum_with k f (x ∷ xs) distinct none = by (tells k x) (tells x k) (sum_with k f xs distinct.1)
    where
      by : Told k x → Told x k → ((list_any (eq k) xs ≡ false → f k ≡ 0) → f k + sum_by (but k f) xs ≡ sum_by f xs) → f k + sum_by (but k f) (x ∷ xs) ≡ sum_by f (x ∷ xs)
      by (inl a) (inr b) later = absurd (b.1 (sym a.1))
      by (inr a) (inl b) later = absurd (a.1 (sym b.1))
      by (inl a) (inl b) later =
          let gone : but k f x ≡ 0 = rw b.0 refl in
          let own : f x ≡ f k = ap f b.1 in
          let absent : list_any (eq k) xs ≡ false = rw b.1 at distinct.0 in
          omega (arith, sum_by-cons (but k f) x xs, sum_by-cons f x xs, gone, own, sum_without k f xs absent)
      by (inr a) (inr b) later =
          let same : but k f x ≡ f x = rw b.0 refl in
          omega (arith, sum_by-cons (but k f) x xs, sum_by-cons f x xs, same, later (λ absent. none (rw a.0 absent)))

  -- numbers that are zero outside a list and an element are then zero outside the list
  but_none : (k : X) (f : X → ℕ) (ls : List X) → ((l : X) → eq l k ≡ false → list_any (eq l) ls ≡ false → f l ≡ 0) → (l : X) → list_any (eq l) ls ≡ false → but k f l ≡ 0
  but_none k f ls none l absent = by (eq l k) refl
    where
      by : (b : Bool) → eq l k ≡ b → but k f l ≡ 0
      by true e = rw e refl
      by false e = rw e (none l e absent)

  -- The different ones of two lists have the same sum of any numbers that are zero outside the second.
  abbrev pub AddUp : List X → List X → Type 0
  AddUp ks ls = (f : X → ℕ) → ((k : X) → list_any (eq k) ls ≡ false → f k ≡ 0) → sum_by f (different eq ks) ≡ sum_by f (different eq ls)

  -- one more element before both
  pub first_same : (k : X) (ks ls : List X) → AddUp ks ls → AddUp (k ∷ ks) (k ∷ ls)
  unfolding different
  first_same k ks ls same f none =
      sum_by-cons f k (others k (different eq ks))
      ∙ ap (λ (n : ℕ). f k + n)
      (sum_of_others k f (different eq ks) ∙ same (but k f) (but_none k f ls (λ l other absent. none l (rw other absent))) ∙ sym (sum_of_others k f (different eq ls)))
      ∙ sym (sum_by-cons f k (others k (different eq ls)))

  -- one more element before the first list
  pub first_other : (k : X) (ks ls : List X) → AddUp ks ls → AddUp (k ∷ ks) ls
  unfolding different
  first_other k ks ls same f none =
      sum_by-cons f k (others k (different eq ks))
      ∙ ap (λ (n : ℕ). f k + n) (sum_of_others k f (different eq ks) ∙ same (but k f) (but_none k f ls (λ l other absent. none l absent)))
      ∙ sum_with k f (different eq ls) (different_is_distinct eq tells ls) (λ absent. none k (sym (any_different eq tells k ls) ∙ absent))
