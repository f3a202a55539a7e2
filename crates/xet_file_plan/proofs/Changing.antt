-- What is changed in place, one after the other.
use Rattle.std.proofs.Common.{◌≡◌, ◌∙◌, ℕ, zero, suc, ◌+◌, ◌<◌, ◌≤◌, List, [], ◌∷◌, length, get_or, map, set, refl, ap, arith}

-- the first ones changed, the others as they are
unfoldable pub changed : {X : Type 0} → (X → X) → ℕ → List X → List X
changed f zero xs = xs
changed f (suc n) [] = []
changed f (suc n) (x ∷ xs) = f x ∷ changed f n xs

pub changed_none : {X : Type 0} (f : X → X) (xs : List X) → xs ≡ changed f 0 xs
unfolding changed
changed_none f xs = refl

next_changed : {X : Type 0} (f : X → X) (xs : List X) (n : ℕ) (d : X) → n < length xs → set (changed f n xs) n (f (get_or (changed f n xs) n d)) ≡ changed f (suc n) xs
unfolding changed
next_changed f [] n d lt = absurd (omega arith)
next_changed f (x ∷ xs) zero d lt = refl
next_changed f (x ∷ xs) (suc n) d lt = ap (λ (ys : List _). f x ∷ ys) (next_changed f xs n d (omega arith))

-- the next one is changed
pub changed_more : {X : Type 0} (f : X → X) (xs now : List X) (n : ℕ) (d new : X) → n < length xs → now ≡ changed f n xs → new ≡ f (get_or now n d) → set now n new ≡ changed f (n + 1) xs
changed_more {X} f xs now n d new lt e made =
    let next : suc n ≡ n + 1 = omega arith in
    ap (set now n) made ∙ ap (λ (ys : List X). set ys n (f (get_or ys n d))) e ∙ next_changed f xs n d lt ∙ ap (λ (k : ℕ). changed f k xs) next

pub changed_all : {X : Type 0} (f : X → X) (xs : List X) (n : ℕ) → length xs ≤ n → changed f n xs ≡ map f xs
unfolding changed
changed_all f [] zero le = refl
changed_all f [] (suc n) le = refl
changed_all f (x ∷ xs) zero le = absurd (omega arith)
changed_all f (x ∷ xs) (suc n) le = ap (λ (ys : List _). f x ∷ ys) (changed_all f xs n (omega arith))
