use Rattle.std.proofs.Common.{◌≡◌, ℕ, ◌+◌, ◌≤◌, List, [], ◌∷◌, suc, zero, ◌++◌, drop, length, get_or, set, refl, ap, arith}
use Rattle.std.proofs.lemmas.List.Sums.{sum_by-cons, sum_by_push, sum_by-take-drop}
use Rattle.std.specs.List.{sum_by}
use Rattle.xet_fragmentation.specs.Fragmentation.{grown}

-- the last number of a list that is not empty, made greater by n
pub set_last-grown : (n : ℕ) (xs : List ℕ) (i : ℕ) → length xs ≡ i + 1 → set xs i (get_or xs i 0 + n) ≡ grown n xs
set_last-grown n [] i h = refl
set_last-grown n (x ∷ []) zero h = refl
set_last-grown n (x ∷ []) (suc i) h = grind arith
set_last-grown n (x ∷ y ∷ xs) zero h = grind arith
set_last-grown n (x ∷ y ∷ xs) (suc i) h = ap (λ ys. x ∷ ys) (set_last-grown n (y ∷ xs) i (omega arith))

-- that number is no greater than the sum
pub last-le-grown : (n : ℕ) (xs : List ℕ) (i : ℕ) → length xs ≡ i + 1 → get_or xs i 0 + n ≤ sum_by (λ k. k) (grown n xs)
last-le-grown n [] i h = omega arith
last-le-grown n (x ∷ []) zero h = omega arith
last-le-grown n (x ∷ []) (suc i) h = omega arith
last-le-grown n (x ∷ y ∷ xs) zero h = omega arith
last-le-grown n (x ∷ y ∷ xs) (suc i) h =
    let read : get_or (x ∷ y ∷ xs) (suc i) 0 ≡ get_or (y ∷ xs) i 0 = refl in
    let sum : sum_by (λ k. k) (grown n (x ∷ y ∷ xs)) ≡ x + sum_by (λ k. k) (grown n (y ∷ xs)) = sum_by-cons (λ k. k) x (grown n (y ∷ xs)) in
    omega (arith, read, sum, last-le-grown n (y ∷ xs) i (omega arith))

-- a list has at most n more once its last number is greater by n
pub grown-le : (n : ℕ) (xs : List ℕ) → sum_by (λ k. k) (grown n xs) ≤ sum_by (λ k. k) xs + n
grown-le n [] = omega arith
grown-le n (x ∷ []) = omega arith
grown-le n (x ∷ y ∷ xs) =
    let one : sum_by (λ k. k) (x ∷ y ∷ xs) ≡ x + sum_by (λ k. k) (y ∷ xs) = sum_by-cons (λ k. k) x (y ∷ xs) in
    let sum : sum_by (λ k. k) (grown n (x ∷ y ∷ xs)) ≡ x + sum_by (λ k. k) (grown n (y ∷ xs)) = sum_by-cons (λ k. k) x (grown n (y ∷ xs)) in
    omega (arith, one, sum, grown-le n (y ∷ xs))

-- what is left of a list with one more number
pub drop_push-le : (k n : ℕ) (xs : List ℕ) → sum_by (λ j. j) (drop k (xs ++ n ∷ [])) ≤ sum_by (λ j. j) xs + n
drop_push-le k n xs = omega (arith, sum_by-take-drop (λ j. j) (xs ++ n ∷ []) k, sum_by_push (λ j. j) xs n)
