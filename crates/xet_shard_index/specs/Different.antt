-- The different elements of a list.
use Rattle.std.specs.Prelude.{Bool, List, [], ◌∷◌, filter, not}

-- each element once, in order of first occurrence; `eq` tells whether two are equal
unfoldable pub different : {X : Type 0} → (X → X → Bool) → List X → List X
different eq [] = []
different eq (x ∷ xs) = x ∷ filter (λ y. not (eq y x)) (different eq xs)
