-- Bisection of a lookup table, for private functions.
use Rattle.std.specs.Prelude.{ℕ, zero, suc, List, [], ◌∷◌, drop}

-- the bytes from the start of each of n items of `size` bytes on
unfoldable pub slots : ℕ → ℕ → List ℕ → List (List ℕ)
slots size zero bytes = []
slots size (suc n) bytes = bytes ∷ slots size n (drop size bytes)
