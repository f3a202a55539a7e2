-- Sorting of a list by a comparison. Elements that compare as equal keep their order.
use Rattle.std.specs.Prelude.{true, false, List, [], ◌∷◌}
use Rattle.std.specs.declared.cmp.Ordering.{Ordering}
use Rattle.std.specs.Ordering.{is_lt}

-- inserts x into a sorted list, before the first element that is not below it
unfoldable pub put_in : {X : Type 0} → (X → X → Ordering) → X → List X → List X
put_in cmp x [] = x ∷ []
put_in cmp x (y ∷ ys) = elim (is_lt (cmp y x)) [ true ↦ y ∷ put_in cmp x ys | false ↦ x ∷ y ∷ ys ]

unfoldable pub sorted : {X : Type 0} → (X → X → Ordering) → List X → List X
sorted cmp [] = []
sorted cmp (x ∷ xs) = put_in cmp x (sorted cmp xs)
