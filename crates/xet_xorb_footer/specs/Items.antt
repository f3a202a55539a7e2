-- List items in the bytes that encode them.
use Rattle.std.specs.Prelude.{ℕ, zero, suc, List, [], ◌∷◌, take, drop}

-- The first `n` items, of `size` bytes each.
unfoldable pub items_in : {X : Type 0} → (List ℕ → X) → ℕ → ℕ → List ℕ → List X
items_in of size zero bytes = []
items_in of size (suc n) bytes = of (take size bytes) ∷ items_in of size n (drop size bytes)
