-- A list that is changed in place, one item after the other.
use Rattle.std.proofs.Common.{◌≡◌, ◌∙◌, ℕ, ◌+◌, ◌<◌, List, ◌++◌, length, drop, get_or, map, set, take, ap, arith}
use Rattle.std.proofs.lemmas.List.{get_or_default, length-append, length-drop, length-map, length-take}
use Rattle.std.proofs.lemmas.List.Edits.{map_over_more}

-- the first i items are changed, the others are as they were
abbrev pub changed : {X : Type 0} → (X → X) → ℕ → List X → List X
changed f i xs = map f (take i xs) ++ drop i xs

-- one more item is changed
pub changed_more : {X : Type 0} (f : X → X) (xs now : List X) (i : ℕ) (d new : X) → i < length xs → now ≡ changed f i xs → new ≡ f (get_or now i d) → set now i new ≡ changed f (i + 1) xs
changed_more {X} f xs now i d new within is made =
    let size : length now ≡ length xs =
    ap length is ∙ length-append (map f (take i xs)) (drop i xs) ∙ omega (arith, length-map (take i xs) f, length-take i xs, length-drop i xs) in
    ap (λ (y : X). set now i y) made ∙ map_over_more f xs now i (get_or now i d) within is (get_or_default now i d (get_or now i d) (omega arith))
