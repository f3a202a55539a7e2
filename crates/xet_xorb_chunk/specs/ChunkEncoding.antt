-- The encoding of a stored chunk. Numbers are little-endian.
use Rattle.std.specs.Prelude.{ℕ, List, ◌∷◌, ◌++◌, length, take}
use Rattle.std.specs.Int.{w32, to_le_bytes}

-- A number below 2 ^ 24, in three bytes.
abbrev pub le24 : ℕ → List ℕ
le24 n = take 3 (to_le_bytes w32 n)

-- Version 0, compressed length, scheme 0, uncompressed length, and the bytes.
unfoldable pub encoded_chunk : List ℕ → List ℕ
encoded_chunk bytes = 0 ∷ le24 (length bytes) ++ 0 ∷ le24 (length bytes) ++ bytes
