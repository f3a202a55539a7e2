-- Numbers and hashes as bytes. Numbers are little-endian.
use Rattle.std.specs.Prelude.{ℕ, List, take, drop}
use Rattle.std.specs.Int.{w32, to_le_bytes, w64, from_le_bytes}
use Rattle.std.specs.List.{flat_map}

abbrev pub number : ℕ → List ℕ
number n = to_le_bytes w32 n

abbrev pub numbers : List ℕ → List ℕ
numbers ns = flat_map number ns

abbrev pub joined : List (List ℕ) → List ℕ
joined hashes = flat_map (λ h. h) hashes

-- the number in the four, or in the eight, bytes at an offset
abbrev pub half_word : List ℕ → ℕ → ℕ
half_word bytes at = from_le_bytes w32 (take 4 (drop at bytes))

abbrev pub word : List ℕ → ℕ → ℕ
word bytes at = from_le_bytes w64 (take 8 (drop at bytes))
