-- The elements of a list, of its parts, and of what is made of it.
use Rattle.std.proofs.Common.{◌≡◌, ◌∙◌, ◌⊎◌, inl, inr, ℕ, zero, suc, Bool, true, false, cond, ◌||◌, List, [], ◌∷◌, ◌++◌, All, Contains, IsPermutation, filter, flat_map, map, take, refl, sym, ap, subst, arith}
use Rattle.std.proofs.lemmas.Bool.{true≢false}
use Rattle.std.proofs.lemmas.List.Elements.{Contains-append_cases, Contains-append_left, Contains-append_right}
use Rattle.std.proofs.lemmas.List.Sorted.{Contains-permutation, IsPermutation-cons, IsPermutation-middle, IsPermutation-refl, IsPermutation-sym, IsPermutation-trans}
use Rattle.std.specs.List.{IsAmong, list_any}
use Rattle.std.specs.Ordering.{is_lt}
use Rattle.std.specs.declared.cmp.Ordering.{Ordering}
use Rattle.xet_shard_format.specs.Sorted.{put_in, sorted}

module _ {X : Type 0} where
  pub among_none : (x : X) → IsAmong [] x → ⊥
  among_none x (i, (below, is)) = absurd (omega (arith, below))

  pub among_first : (x : X) (xs : List X) → IsAmong (x ∷ xs) x
  among_first x xs = (0, (omega arith, refl))

  pub among_later : (y : X) (xs : List X) (x : X) → IsAmong xs x → IsAmong (y ∷ xs) x
  among_later y xs x (i, (below, is)) = (suc i, (omega (arith, below), is))

  pub among_cons : (y : X) (xs : List X) (x : X) → IsAmong (y ∷ xs) x → (x ≡ y) ⊎ IsAmong xs x
  among_cons y xs x (zero, (below, is)) = inl is
  among_cons y xs x (suc i, (below, is)) = inr (i, (omega (arith, below), is))

  pub among_one : (y x : X) → IsAmong (y ∷ []) x → x ≡ y
  among_one y x a = by (among_cons y [] x a)
    where
      by : (x ≡ y) ⊎ IsAmong [] x → x ≡ y
      by (inl same) = same
      by (inr later) = absurd (among_none x later)

  -- what holds of all
  pub among_all : (P : X → Type 0) (xs : List X) → All P xs → (x : X) → IsAmong xs x → P x
  among_all P xs all x (i, (below, is)) = subst P (sym is) (all i x below)

  -- ---- parts

  contained : (xs : List X) (x : X) → IsAmong xs x → Contains xs x
  contained xs x (i, (below, is)) = (i, below, sym is)

  of_contained : (xs : List X) (x : X) → Contains xs x → IsAmong xs x
  of_contained xs x (i, below, is) = (i, (below, sym is))

  pub among_left : (xs ys : List X) (x : X) → IsAmong xs x → IsAmong (xs ++ ys) x
  among_left xs ys x a = of_contained (xs ++ ys) x (Contains-append_left xs ys x (contained xs x a))

  pub among_right : (xs ys : List X) (x : X) → IsAmong ys x → IsAmong (xs ++ ys) x
  among_right xs ys x a = of_contained (xs ++ ys) x (Contains-append_right xs ys x (contained ys x a))

  pub among_either : (xs ys : List X) (x : X) → IsAmong (xs ++ ys) x → IsAmong xs x ⊎ IsAmong ys x
  among_either xs ys x a = by (Contains-append_cases xs ys x (contained (xs ++ ys) x a))
    where
      by : Contains xs x ⊎ Contains ys x → IsAmong xs x ⊎ IsAmong ys x
      by (inl c) = inl (of_contained xs x c)
      by (inr c) = inr (of_contained ys x c)

  pub among_take : (n : ℕ) (xs : List X) (x : X) → IsAmong (take n xs) x → IsAmong xs x
  among_take zero xs x a = absurd (among_none x a)
  among_take (suc n) [] x a = a
  among_take (suc n) (y ∷ ys) x a = by (among_cons y (take n ys) x a) (λ later. among_take n ys x later)
    where
      by : (x ≡ y) ⊎ IsAmong (take n ys) x → (IsAmong (take n ys) x → IsAmong ys x) → IsAmong (y ∷ ys) x
      by (inl same) rest = subst (IsAmong (y ∷ ys)) (sym same) (among_first y ys)
      by (inr later) rest = among_later y ys x (rest later)

  -- ---- those that pass a test

  module _ (p : X → Bool) where
    pub among_filter : (xs : List X) (x : X) → IsAmong xs x → p x ≡ true → IsAmong (filter p xs) x
    among_filter [] x a passes = a
    among_filter (y ∷ ys) x a passes = by (p y) refl (among_cons y ys x a) (λ later. among_filter ys x later passes)
      where
        by : (t : Bool) → p y ≡ t → (x ≡ y) ⊎ IsAmong ys x → (IsAmong ys x → IsAmong (filter p ys) x) → IsAmong (cond t (y ∷ filter p ys) (filter p ys)) x
        by true e (inl same) rest = subst (IsAmong (y ∷ filter p ys)) (sym same) (among_first y (filter p ys))
        by true e (inr later) rest = among_later y (filter p ys) x (rest later)
        by false e (inl same) rest = absurd (true≢false (sym passes ∙ ap p same ∙ e))
        by false e (inr later) rest = rest later

    pub filter_among : (xs : List X) (x : X) → IsAmong (filter p xs) x → IsAmong xs x × (p x ≡ true)
    filter_among [] x a = absurd (among_none x a)
    filter_among (y ∷ ys) x a = by (p y) refl a (λ later. filter_among ys x later)
      where
        first : p y ≡ true → (x ≡ y) ⊎ IsAmong (filter p ys) x → (IsAmong (filter p ys) x → IsAmong ys x × (p x ≡ true)) → IsAmong (y ∷ ys) x × (p x ≡ true)
        first e (inl same) rest = (subst (IsAmong (y ∷ ys)) (sym same) (among_first y ys), ap p same ∙ e)
        first e (inr later) rest = (among_later y ys x (rest later).0, (rest later).1)

        by : (t : Bool) → p y ≡ t → IsAmong (cond t (y ∷ filter p ys) (filter p ys)) x → (IsAmong (filter p ys) x → IsAmong ys x × (p x ≡ true)) → IsAmong (y ∷ ys) x × (p x ≡ true)
        by true e there rest = first e (among_cons y (filter p ys) x there) rest
        by false e there rest = (among_later y ys x (rest there).0, (rest there).1)

    pub any_among : (xs : List X) (x : X) → IsAmong xs x → p x ≡ true → list_any p xs ≡ true
    any_among [] x a passes = absurd (among_none x a)
    any_among (y ∷ ys) x a passes = by (p y) refl (among_cons y ys x a) (λ later. any_among ys x later passes)
      where
        by : (t : Bool) → p y ≡ t → (x ≡ y) ⊎ IsAmong ys x → (IsAmong ys x → list_any p ys ≡ true) → (t || list_any p ys) ≡ true
        by true e there rest = refl
        by false e (inl same) rest = absurd (true≢false (sym passes ∙ ap p same ∙ e))
        by false e (inr later) rest = rest later

  -- ---- in another order

  pub among_moved : (xs ys : List X) → IsPermutation xs ys → (x : X) → IsAmong xs x → IsAmong ys x
  among_moved xs ys moved x a = of_contained ys x (Contains-permutation xs ys x moved (contained xs x a))

  module _ (cmp : X → X → Ordering) where
    put_moves : (x : X) (ys : List X) → IsPermutation (x ∷ ys) (put_in cmp x ys)
    unfolding put_in
    put_moves x [] = IsPermutation-refl (x ∷ [])
    put_moves x (y ∷ ys) =
        elim (is_lt (cmp y x)) as (λ (b : Bool). IsPermutation (x ∷ y ∷ ys) (elim b as (λ _. List X) [ true ↦ y ∷ put_in cmp x ys | false ↦ x ∷ y ∷ ys ])) [
          | true ↦ IsPermutation-trans (x ∷ y ∷ ys) (y ∷ x ∷ ys) (y ∷ put_in cmp x ys) (IsPermutation-middle (x ∷ []) y ys) (IsPermutation-cons y (x ∷ ys) (put_in cmp x ys) (put_moves x ys))
          | false ↦ IsPermutation-refl (x ∷ y ∷ ys)
        ]

    sorted_moves : (xs : List X) → IsPermutation xs (sorted cmp xs)
    unfolding sorted
    sorted_moves [] = IsPermutation-refl []
    sorted_moves (x ∷ xs) = IsPermutation-trans (x ∷ xs) (x ∷ sorted cmp xs) (sorted cmp (x ∷ xs)) (IsPermutation-cons x xs (sorted cmp xs) (sorted_moves xs)) (put_moves x (sorted cmp xs))

    pub among_sorted : (xs : List X) (x : X) → IsAmong xs x → IsAmong (sorted cmp xs) x
    among_sorted xs x a = among_moved xs (sorted cmp xs) (sorted_moves xs) x a

    pub sorted_among : (xs : List X) (x : X) → IsAmong (sorted cmp xs) x → IsAmong xs x
    sorted_among xs x a = among_moved (sorted cmp xs) xs (IsPermutation-sym xs (sorted cmp xs) (sorted_moves xs)) x a

-- ---- what is made of each

module _ {X Y : Type 0} where
  pub among_map : (f : X → Y) (xs : List X) (x : X) → IsAmong xs x → IsAmong (map f xs) (f x)
  among_map f [] x a = absurd (among_none x a)
  among_map f (y ∷ ys) x a = by (among_cons y ys x a) (λ later. among_map f ys x later)
    where
      by : (x ≡ y) ⊎ IsAmong ys x → (IsAmong ys x → IsAmong (map f ys) (f x)) → IsAmong (f y ∷ map f ys) (f x)
      by (inl same) rest = subst (IsAmong (f y ∷ map f ys)) (ap f (sym same)) (among_first (f y) (map f ys))
      by (inr later) rest = among_later (f y) (map f ys) (f x) (rest later)

  pub map_among : (f : X → Y) (xs : List X) (v : Y) → IsAmong (map f xs) v → (x : X) × IsAmong xs x × (v ≡ f x)
  map_among f [] v a = absurd (among_none v a)
  map_among f (y ∷ ys) v a = by (among_cons (f y) (map f ys) v a) (λ later. map_among f ys v later)
    where
      by : (v ≡ f y) ⊎ IsAmong (map f ys) v → (IsAmong (map f ys) v → (x : X) × IsAmong ys x × (v ≡ f x)) → (x : X) × IsAmong (y ∷ ys) x × (v ≡ f x)
      by (inl same) rest = (y, among_first y ys, same)
      by (inr later) rest = let r = rest later in (r.0, among_later y ys r.0 r.1, r.2)

  pub flat_among : (f : X → List Y) (xs : List X) (v : Y) → IsAmong (flat_map f xs) v → (x : X) × IsAmong xs x × IsAmong (f x) v
  flat_among f [] v a = absurd (among_none v a)
  flat_among f (y ∷ ys) v a = by (among_either (f y) (flat_map f ys) v a) (λ later. flat_among f ys v later)
    where
      by : IsAmong (f y) v ⊎ IsAmong (flat_map f ys) v → (IsAmong (flat_map f ys) v → (x : X) × IsAmong ys x × IsAmong (f x) v) → (x : X) × IsAmong (y ∷ ys) x × IsAmong (f x) v
      by (inl here) rest = (y, among_first y ys, here)
      by (inr later) rest = let r = rest later in (r.0, among_later y ys r.0 r.1, r.2)
