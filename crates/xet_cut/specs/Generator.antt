-- SplitMix64, the generator of Gear tables and of files for tests. Words have 64 bits.
use Rattle.std.specs.Prelude.{ℕ, zero, suc, ◌+◌, ◌*◌, ◌/◌, ◌%◌, ◌^◌, List, bit_xor, map, slice_index}
use Rattle.std.specs.List.{range_with_len}
use Rattle.std.specs.Int.{w64, to_le_bytes}

-- the state after n outputs from a seed: each output adds the same word
unfoldable pub state : ℕ → ℕ → ℕ
state seed zero = seed
state seed (suc n) = (state seed n + 0x9E3779B97F4A7C15) % 2 ^ 64

abbrev pub xor_shifted : ℕ → ℕ → ℕ
xor_shifted z shift = bit_xor z (z / 2 ^ shift)

-- the output for a state
unfoldable pub mixed : ℕ → ℕ
mixed s = xor_shifted (xor_shifted (xor_shifted s 30 * 0xBF58476D1CE4E5B9 % 2 ^ 64) 27 * 0x94D049BB133111EB % 2 ^ 64) 31

-- output n of a seed, from 0
abbrev pub output : ℕ → ℕ → ℕ
output seed n = mixed (state seed (suc n))

-- the Gear table of a seed: its first 256 outputs
abbrev pub gear_table : ℕ → List ℕ
gear_table seed = map (output seed) (range_with_len 0 256)

-- byte i of the little-endian bytes of all outputs, concatenated
abbrev pub generated_byte : ℕ → ℕ → ℕ
generated_byte seed i = slice_index (to_le_bytes w64 (output seed (i / 8))) (i % 8)

-- a generated file of this many bytes
abbrev pub generated : ℕ → ℕ → List ℕ
generated seed length = map (generated_byte seed) (range_with_len 0 length)
