-- A row of a section: a hash and four little-endian numbers below 2 ^ 32, 48 bytes.
use Rattle.std.specs.Prelude.{◌≡◌, ℕ, zero, suc, ◌^◌, ◌<◌, List, [], ◌∷◌, ◌++◌, length, take, drop}
use Rattle.std.specs.List.{flat_map, All}
use Rattle.std.specs.Int.{w32, to_le_bytes}
use Rattle.xet_shard_format.specs.declared.row.Row.{Row}
use Rattle.xet_codec.specs.Numbers.{half_word}

abbrev pub row : List ℕ → ℕ → ℕ → ℕ → ℕ → Row
row hash a b c d = record { hash = hash; a = a; b = b; c = c; d = d }

unfoldable pub row_bytes : Row → List ℕ
row_bytes r = r.hash ++ (to_le_bytes w32 r.a ++ (to_le_bytes w32 r.b ++ (to_le_bytes w32 r.c ++ to_le_bytes w32 r.d)))

abbrev pub rows_bytes : List Row → List ℕ
rows_bytes rs = flat_map row_bytes rs

-- the row in the first 48 bytes
unfoldable pub row_of : List ℕ → Row
row_of bytes = row (take 32 bytes) (half_word bytes 32) (half_word bytes 36) (half_word bytes 40) (half_word bytes 44)

-- the first n rows
unfoldable pub rows_in : ℕ → List ℕ → List Row
rows_in zero bytes = []
rows_in (suc n) bytes = row_of bytes ∷ rows_in n (drop 48 bytes)

-- a hash is 32 bytes
abbrev pub IsHashBytes : List ℕ → Type 0
IsHashBytes h = (length h ≡ 32) × All (λ b. b < 256) h

-- The fields of a row fit in their bytes.
pub record RowFits (r : Row) : Type 0 where
  pub hash : IsHashBytes r.hash
  pub a : r.a < 2 ^ 32
  pub b : r.b < 2 ^ 32
  pub c : r.c < 2 ^ 32
  pub d : r.d < 2 ^ 32
