-- Lists read and written by index.
use Rattle.std.proofs.Common.{◌≡◌, ◌≢◌, ℕ, zero, suc, ◌+◌, ◌<◌, List, [], ◌∷◌, Option, Some, length, map, take, drop, set, replicate, refl, sym, ap, ◌∙◌, arith}
use Rattle.std.specs.List.{slice_get}

pub get-set_here : {X : Type 0} (xs : List X) (i : ℕ) (y : X) → i < length xs → slice_get (set xs i y) i ≡ Some y
get-set_here [] i y lt = absurd (omega arith)
get-set_here (x ∷ xs) zero y lt = refl
get-set_here (x ∷ xs) (suc i) y lt = get-set_here xs i y (omega arith)

pub get-set_other : {X : Type 0} (xs : List X) (i j : ℕ) (y : X) → j ≢ i → slice_get (set xs i y) j ≡ slice_get xs j
get-set_other [] i j y other = refl
get-set_other (x ∷ xs) zero zero y other = absurd (other refl)
get-set_other (x ∷ xs) zero (suc j) y other = refl
get-set_other (x ∷ xs) (suc i) zero y other = refl
get-set_other (x ∷ xs) (suc i) (suc j) y other = get-set_other xs i j y (λ e. other (ap suc e))

-- the element at an index within the list
pub get_within : {X : Type 0} (xs : List X) (i : ℕ) → i < length xs → (x : X) × (slice_get xs i ≡ Some x)
get_within [] i lt = absurd (omega arith)
get_within (x ∷ xs) zero lt = (x, refl)
get_within (x ∷ xs) (suc i) lt = get_within xs i (omega arith)

-- what is left of the list begins with it
pub drop_from : {X : Type 0} (xs : List X) (i : ℕ) (x : X) → slice_get xs i ≡ Some x → drop i xs ≡ x ∷ drop (suc i) xs
drop_from [] i x is = absurd (cc is)
drop_from (y ∷ ys) zero x is = let e : y ≡ x = cc is in ap (λ z. z ∷ ys) e
drop_from (y ∷ ys) (suc i) x is = drop_from ys i x is

pub take_from : {X : Type 0} (xs : List X) (i n : ℕ) (x : X) → slice_get xs i ≡ Some x → take (n + 1) (drop i xs) ≡ x ∷ take n (drop (suc i) xs)
take_from {X} xs i n x is =
    let on : n + 1 ≡ suc n = omega arith in ap (λ (k : ℕ). take k (drop i xs)) on ∙ ap (λ (ys : List X). take (suc n) ys) (drop_from xs i x is)

-- one list has one element at an index
pub same_at : {X : Type 0} (o : Option X) (x y : X) → o ≡ Some x → o ≡ Some y → x ≡ y
same_at o x y a b = let e : Some x ≡ Some y = sym a ∙ b in cc e

pub get-replicate : {X : Type 0} (n i : ℕ) (y x : X) → slice_get (replicate n y) i ≡ Some x → x ≡ y
get-replicate zero i y x is = absurd (cc is)
get-replicate (suc n) zero y x is = cc is
get-replicate (suc n) (suc i) y x is = get-replicate n i y x is

pub map-replicate : {X Y : Type 0} (f : X → Y) (n : ℕ) (x : X) → map f (replicate n x) ≡ replicate n (f x)
map-replicate f zero x = refl
map-replicate f (suc n) x = ap (λ ys. f x ∷ ys) (map-replicate f n x)

-- an element of which a function's list says what it gives
pub get_mapped : {X Y : Type 0} (f : X → Y) (xs : List X) (i : ℕ) (y : Y) → slice_get (map f xs) i ≡ Some y → (x : X) × (slice_get xs i ≡ Some x) × (f x ≡ y)
get_mapped f [] i y is = absurd (cc is)
get_mapped f (x ∷ xs) zero y is = (x, refl, cc is)
get_mapped f (x ∷ xs) (suc i) y is = get_mapped f xs i y is
