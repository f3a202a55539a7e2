-- The Gear hash as it is computed, byte by byte, by the Gear table and the mask alone, for private functions.
use Rattle.std.specs.Prelude.{ℕ, ◌+◌, ◌*◌, ◌%◌, ◌^◌, ◌==◌, Bool, List, [], ◌∷◌, length, take, Option, bit_and, slice_index}
use Rattle.xet_base.specs.Pieces.{first_of}

-- the Gear hash after these bytes, from the hash before them
unfoldable pub rolled : List ℕ → ℕ → List ℕ → ℕ
rolled gear hash [] = hash
rolled gear hash (b ∷ bs) = rolled gear ((hash * 2 % 2 ^ 64 + slice_index gear b) % 2 ^ 64) bs

-- whether the hash after the first k of these bytes has no bit in common with the mask
unfoldable pub is_match : List ℕ → ℕ → ℕ → List ℕ → ℕ → Bool
is_match gear mask hash bs k = bit_and (rolled gear hash (take k bs)) mask == 0

-- the smallest number of these bytes, from 1 on, after which the hash has no bit in common with the mask
unfoldable pub first_match : List ℕ → ℕ → ℕ → List ℕ → Option ℕ
first_match gear mask hash bs = first_of (is_match gear mask hash bs) 1 (length bs)
