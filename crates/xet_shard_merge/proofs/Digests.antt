-- A digest is a hash: 32 bytes.
use Rattle.std.proofs.Common.{◌≡◌, ◌<◌, ◌*◌, ◌^◌, ◌/◌, ℕ, zero, suc, List, length, length-append, mod-lt, refl, slice_index, arith}
use Rattle.std.proofs.lemmas.List.Elements.{All-from_recursion}
use Rattle.std.specs.Int.{byte_at, bytes_low_first, to_le_bytes, w32}
use Rattle.std.specs.List.{AllByRecursion}
use Rattle.xet_hash.specs.Blake3.{keyed_digest, output_bytes}
use Rattle.xet_hash.specs.Merkle.{chunk_hash}
use Rattle.xet_hash.specs.theorems.Texts.{bytes-append}
use Rattle.xet_shard_file.specs.Names.{IsHash}
use Rattle.xet_shard_format.specs.theorems.Bytes.{IsBytes, all_are_bytes}

byte_below : (i n : ℕ) → byte_at i n < 256
byte_below zero n = mod-lt n (omega arith)
byte_below (suc i) n = mod-lt (n / 256 ^ suc i) (omega arith)

all_below : (i k n : ℕ) → AllByRecursion (λ b. b < 256) (bytes_low_first i k n)
all_below i zero n = tt
all_below i (suc k) n = (byte_below i n, all_below (suc i) k n)

word_is_bytes : (n : ℕ) → IsBytes (to_le_bytes w32 n)
word_is_bytes n = all_are_bytes (to_le_bytes w32 n) (All-from_recursion (λ b. b < 256) (to_le_bytes w32 n) (all_below 0 4 n))

output_is_bytes : (h : List ℕ) (n : ℕ) → IsBytes (output_bytes h n)
unfolding output_bytes
output_is_bytes h zero = λ i. omega arith
output_is_bytes h (suc n) = bytes-append (output_bytes h n) (to_le_bytes w32 (slice_index h n)) (output_is_bytes h n) (word_is_bytes (slice_index h n))

length-output : (h : List ℕ) (n : ℕ) → length (output_bytes h n) ≡ 4 * n
unfolding output_bytes
length-output h zero = refl
length-output h (suc n) =
    let word : length (to_le_bytes w32 (slice_index h n)) ≡ 4 = refl in
    omega (arith, length-append (output_bytes h n) (to_le_bytes w32 (slice_index h n)), length-output h n)

keyed_is_hash : (key bytes : List ℕ) → IsHash (keyed_digest key bytes)
unfolding keyed_digest
keyed_is_hash key bytes = (length-output _ 8, output_is_bytes _ 8)

pub digest_is_hash : (bytes : List ℕ) → IsHash (chunk_hash bytes)
digest_is_hash bytes = keyed_is_hash _ bytes
