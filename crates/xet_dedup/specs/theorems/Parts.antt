-- Lists that have some items of another, in order.
use Rattle.std.proofs.Common.{◌≡◌, ℕ, zero, suc, ◌+◌, ◌≤◌, List, [], ◌∷◌, ◌++◌, length, take, drop, Some, sym, ap, ◌∙◌, subst, arith}
use Rattle.std.specs.Prelude.{slice_get}
use Rattle.std.proofs.lemmas.List.{append-nil, take-append-drop}
use Rattle.xet_dedup.specs.Adding.{IsSomeOf}
use Rattle.xet_dedup.specs.Adding.IsSomeOf.{nothing, skips, takes}

module _ {X : Type 0} where
  pub some_nothing : (ys : List X) → IsSomeOf [] ys
  some_nothing [] = nothing
  some_nothing (y ∷ ys) = skips y [] ys (some_nothing ys)

  pub some_both : (xs ys more all : List X) → IsSomeOf xs ys → IsSomeOf more all → IsSomeOf (xs ++ more) (ys ++ all)
  some_both xs ys more all nothing rest = rest
  some_both xs ys more all (takes x us vs is) rest = takes x (us ++ more) (vs ++ all) (some_both us vs more all is rest)
  some_both xs ys more all (skips y us vs is) rest = skips y (us ++ more) (vs ++ all) (some_both us vs more all is rest)

  pub length-some : (xs ys : List X) → IsSomeOf xs ys → length xs ≤ length ys
  length-some xs ys nothing = omega arith
  length-some xs ys (takes x us vs is) = omega (arith, length-some us vs is)
  length-some xs ys (skips y us vs is) = omega (arith, length-some us vs is)

  take_further : (ys : List X) (m n : ℕ) → take (m + n) ys ≡ take m ys ++ take n (drop m ys)
  take_further ys zero n = ap (λ (k : ℕ). take k ys) (omega arith)
  take_further [] (suc m) zero = let on : suc m + zero ≡ suc (m + zero) = omega arith in ap (λ (k : ℕ). take {A = X} k []) on
  take_further [] (suc m) (suc n) = let on : suc m + suc n ≡ suc (m + suc n) = omega arith in ap (λ (k : ℕ). take {A = X} k []) on
  take_further (y ∷ ys) (suc m) n = let on : suc m + n ≡ suc (m + n) = omega arith in ap (λ (k : ℕ). take k (y ∷ ys)) on ∙ ap (λ (l : List X). y ∷ l) (take_further ys m n)

  -- some of the first items are some of more of them
  pub some_further : (xs ys : List X) (m n : ℕ) → IsSomeOf xs (take m ys) → IsSomeOf xs (take (m + n) ys)
  some_further xs ys m n is =
      subst (IsSomeOf xs) (sym (take_further ys m n))
      (subst (λ (l : List X). IsSomeOf l (take m ys ++ take n (drop m ys))) (append-nil xs) (some_both xs (take m ys) [] (take n (drop m ys)) is (some_nothing (take n (drop m ys)))))

  pub some_all : (xs ys : List X) (m : ℕ) → IsSomeOf xs (take m ys) → IsSomeOf xs ys
  some_all xs ys m is =
      subst (IsSomeOf xs) (take-append-drop m ys)
      (subst (λ (l : List X). IsSomeOf l (take m ys ++ drop m ys)) (append-nil xs) (some_both xs (take m ys) [] (drop m ys) is (some_nothing (drop m ys))))

  take_push : (ys : List X) (m : ℕ) (y : X) → slice_get ys m ≡ Some y → take (m + 1) ys ≡ take m ys ++ y ∷ []
  take_push [] m y here = absurd (cc here)
  take_push (z ∷ ys) zero y here = let same : z ≡ y = cc here in ap (λ (x : X). x ∷ []) same
  take_push (z ∷ ys) (suc m) y here = let on : suc m + 1 ≡ suc (m + 1) = omega arith in ap (λ (k : ℕ). take k (z ∷ ys)) on ∙ ap (λ (l : List X). z ∷ l) (take_push ys m y here)

  -- and with the item after these they are some of one more
  pub some_push : (xs ys : List X) (m : ℕ) (y : X) → slice_get ys m ≡ Some y → IsSomeOf xs (take m ys) → IsSomeOf (xs ++ y ∷ []) (take (m + 1) ys)
  some_push xs ys m y here is = subst (IsSomeOf (xs ++ y ∷ [])) (sym (take_push ys m y here)) (some_both xs (take m ys) (y ∷ []) (y ∷ []) is (takes y [] [] nothing))

  length-take_some : (ys : List X) (m : ℕ) → (length (take m ys) ≤ m) × (length (take m ys) ≤ length ys)
  length-take_some ys zero = (omega arith, omega arith)
  length-take_some [] (suc m) = (omega arith, omega arith)
  length-take_some (y ∷ ys) (suc m) = let rest = length-take_some ys m in (omega (arith, rest.0), omega (arith, rest.1))

  -- there are no more of them than first items
  pub some_within : (xs ys : List X) (m : ℕ) → IsSomeOf xs (take m ys) → (length xs ≤ m) × (length xs ≤ length ys)
  some_within xs ys m is =
      let few = length-some xs (take m ys) is in
      let within = length-take_some ys m in
      (omega (arith, few, within.0), omega (arith, few, within.1))
