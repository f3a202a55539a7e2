-- Membership in lists, and lookups in tables.
use Rattle.std.proofs.Common.{◌≡◌, ◌≢◌, ◌⊎◌, inl, inr, ℕ, zero, suc, Bool, true, false, cond, ◌&&◌, nat_eq, filter, List, [], ◌∷◌, ◌++◌, Option, Some, None, IsSome, refl, sym, ap, subst, arith, ◌∙◌}
use Rattle.std.proofs.lemmas.Bool.{and_parts, eqb-true}
use Rattle.std.specs.Cmp.Lexicographic.{bytes_decides, pointwise}
use Rattle.std.specs.List.{IsAmong}
use Rattle.std.specs.declared.cmp.Ordering.{Ordering}
use Rattle.std.specs.Ordering.{is_lt}
use Rattle.xet_shard_format.specs.Sorted.{put_in, sorted}
use Rattle.xet_folder.specs.Xorbs.{found}
use Rattle.xet_folder.specs.theorems.Tables.{found_either}
use Rattle.xet_store_disk.specs.Separate.{Among}

module _ {X : Type 0} where
  pub to_among : (xs : List X) (x : X) → IsAmong xs x → Among xs x
  to_among [] x (i, (below, is)) = absurd (omega (arith, below))
  to_among (y ∷ xs) x (zero, (below, is)) = inl (sym is)
  to_among (y ∷ xs) x (suc i, (below, is)) = inr (to_among xs x (i, (omega (arith, below), is)))

  pub from_among : (xs : List X) (x : X) → Among xs x → IsAmong xs x
  from_among [] x a = absurd a
  from_among (y ∷ xs) x (inl is) = (0, (omega arith, sym is))
  from_among (y ∷ xs) x (inr a) = let r = from_among xs x a in (suc r.0, (omega (arith, r.1.0), r.1.1))

  pub among_more : (xs ys : List X) (x : X) → Among xs x → Among (xs ++ ys) x
  among_more [] ys x a = absurd a
  among_more (z ∷ xs) ys x (inl is) = inl is
  among_more (z ∷ xs) ys x (inr a) = inr (among_more xs ys x a)

  pub among_after : (xs ys : List X) (x : X) → Among ys x → Among (xs ++ ys) x
  among_after [] ys x a = a
  among_after (z ∷ xs) ys x a = inr (among_after xs ys x a)

  pub among_last : (xs : List X) (x : X) → Among (xs ++ x ∷ []) x
  among_last [] x = inl refl
  among_last (z ∷ xs) x = inr (among_last xs x)

  -- what passes a test stays
  pub among_filter : (test : X → Bool) (xs : List X) (x : X) → test x ≡ true → Among xs x → Among (filter test xs) x
  among_filter test [] x passes a = a
  among_filter test (y ∷ xs) x passes (inl is) =
      let here : test y ≡ true = ap test is ∙ passes in subst (λ (b : Bool). Among (cond b (y ∷ filter test xs) (filter test xs)) x) (sym here) (inl is)
  among_filter test (y ∷ xs) x passes (inr a) = go (test y) (among_filter test xs x passes a)
    where
      go : (b : Bool) → Among (filter test xs) x → Among (cond b (y ∷ filter test xs) (filter test xs)) x
      go true later = inr later
      go false later = later

  -- in another order
  module _ (cmp : X → X → Ordering) where
    put_here : (y : X) (xs : List X) → Among (put_in cmp y xs) y
    unfolding put_in
    put_here y [] = inl refl
    put_here y (z ∷ xs) =
        elim (is_lt (cmp z y)) as (λ (b : Bool). Among (elim b as (λ _. List X) [ true ↦ z ∷ put_in cmp y xs | false ↦ y ∷ z ∷ xs ]) y) [
          | true ↦ inr (put_here y xs)
          | false ↦ inl refl
        ]

    put_other : (y : X) (xs : List X) (x : X) → Among xs x → Among (put_in cmp y xs) x
    unfolding put_in
    put_other y [] x a = absurd a
    put_other y (z ∷ xs) x a =
        elim (is_lt (cmp z y)) as (λ (b : Bool). Among (elim b as (λ _. List X) [ true ↦ z ∷ put_in cmp y xs | false ↦ y ∷ z ∷ xs ]) x) [
          | true ↦ later (λ b. put_other y xs x b) a
          | false ↦ inr a
        ]
      where
        later : (Among xs x → Among (put_in cmp y xs) x) → Among (z ∷ xs) x → Among (z ∷ put_in cmp y xs) x
        later f (inl is) = inl is
        later f (inr b) = inr (f b)

    pub among_sorted : (xs : List X) (x : X) → Among xs x → Among (sorted cmp xs) x
    unfolding sorted
    among_sorted [] x a = a
    among_sorted (y ∷ xs) x (inl is) = subst (λ (z : X). Among (put_in cmp y (sorted cmp xs)) z) is (put_here y (sorted cmp xs))
    among_sorted (y ∷ xs) x (inr a) = put_other y (sorted cmp xs) x (among_sorted xs x a)

module _ {X : Type 0} where
  pub is_some_found : (rows : List (List ℕ × X)) (h : List ℕ) (v : X) → found rows h ≡ Some v → IsSome (found rows h)
  is_some_found rows h v e = subst (λ (o : Option X). IsSome o) (sym e) refl

  pub is_some_either : (rows : List (List ℕ × X)) (k h : List ℕ) (v : X) → IsSome (found (rows ++ (k, v) ∷ []) h) → IsSome (found rows h) ⊎ (k ≡ h)
  is_some_either rows k h v is = go (found (rows ++ (k, v) ∷ []) h) refl is
    where
      step : (w : X) → (found rows h ≡ Some w) ⊎ ((k ≡ h) × (v ≡ w)) → IsSome (found rows h) ⊎ (k ≡ h)
      step w (inl e) = inl (is_some_found rows h w e)
      step w (inr p) = inr p.0

      go : (o : Option X) → found (rows ++ (k, v) ∷ []) h ≡ o → IsSome o → IsSome (found rows h) ⊎ (k ≡ h)
      go None e bad = absurd (cc bad)
      go (Some w) e ok = step w (found_either rows k h v w e)

  -- what is found has another hash than what is not
  pub apart_found : (rows : List (List ℕ × X)) (h k : List ℕ) → found rows h ≡ None → IsSome (found rows k) → k ≢ h
  apart_found rows h k none is same = let e : IsSome {T = X} None = subst (λ (o : Option X). IsSome o) (ap (found rows) same ∙ none) is in absurd (cc e)

-- ---- the comparison of lists of chunks

abbrev is_leaf : List ℕ × ℕ → List ℕ × ℕ → Bool
is_leaf x y = pointwise nat_eq x.0 y.0 && nat_eq x.1 y.1

-- lists that the comparison takes as equal are equal
pub same_leaves : (xs ys : List (List ℕ × ℕ)) → pointwise is_leaf xs ys ≡ true → xs ≡ ys
same_leaves [] [] e = refl
same_leaves [] (y ∷ ys) e = absurd (cc e)
same_leaves (x ∷ xs) [] e = absurd (cc e)
same_leaves (x ∷ xs) (y ∷ ys) e =
    let both = and_parts (is_leaf x y) (pointwise is_leaf xs ys) e in
    let one = and_parts (pointwise nat_eq x.0 y.0) (nat_eq x.1 y.1) both.0 in
    let hashes : x.0 ≡ y.0 = (bytes_decides x.0 y.0).0 one.0 in
    let lengths : x.1 ≡ y.1 = eqb-true x.1 y.1 one.1 in
    let rest : xs ≡ ys = same_leaves xs ys both.1 in
    λ i. (hashes i, lengths i) ∷ rest i
