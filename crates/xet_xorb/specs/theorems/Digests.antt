-- Digests have 32 bytes, and so has a xorb hash of hashes of 32 bytes.
use Rattle.std.proofs.Common.{◌≡◌, ℕ, zero, suc, ◌*◌, List, [], ◌∷◌, length, map, true, false, refl, arith, length-append, slice_index}
use Rattle.std.specs.List.{AllByRecursion}
use Rattle.std.specs.Prelude.{nat_le, Bool}
use Rattle.std.specs.Int.{w32, to_le_bytes}
use Rattle.xet_hash.specs.Blake3.{output_bytes, keyed_digest}
use Rattle.xet_hash.specs.Merkle.{hash_of_first, leaves_of, next_level, node_of, reduced, root_level, xorb_hash}
use Rattle.xet_base.specs.Pieces.{pieces}

length-bytes_of : (h : List ℕ) (n : ℕ) → length (output_bytes h n) ≡ 4 * n
unfolding output_bytes
length-bytes_of h zero = refl
length-bytes_of h (suc n) =
    let word : length (to_le_bytes w32 (slice_index h n)) ≡ 4 = refl in
    omega (arith, length-append (output_bytes h n) (to_le_bytes w32 (slice_index h n)), length-bytes_of h n)

pub length-keyed_digest : (key bytes : List ℕ) → length (keyed_digest key bytes) ≡ 32
unfolding keyed_digest
length-keyed_digest key bytes = length-bytes_of _ 8

-- each leaf's hash has 32 bytes
abbrev pub AreHashed : List (List ℕ × ℕ) → Type 0
AreHashed ms = AllByRecursion (λ m. length m.0 ≡ 32) ms

nodes_hashed : (groups : List (List (List ℕ × ℕ))) → AreHashed (map node_of groups)
unfolding node_of
nodes_hashed [] = tt
nodes_hashed (g ∷ gs) = (length-keyed_digest _ _, nodes_hashed gs)

reduced_hashed : (n : ℕ) (ms : List (List ℕ × ℕ)) → AreHashed ms → AreHashed (reduced n ms)
unfolding reduced
reduced_hashed zero ms h = h
reduced_hashed (suc n) ms h =
    elim (nat_le (length ms) 1) as (λ (b : Bool). AreHashed (elim b as (λ _. List (List ℕ × ℕ)) [ true ↦ ms | false ↦ reduced n (next_level ms) ])) [
      | true ↦ h
      | false ↦ reduced_hashed n (next_level ms) (nodes_hashed (pieces _ ms))
    ]

first_hashed : (ms : List (List ℕ × ℕ)) → AreHashed ms → length (hash_of_first ms) ≡ 32
first_hashed [] h = refl
first_hashed (m ∷ ms) h = h.0

pub length-xorb_hash : (ms : List (List ℕ × ℕ)) → AreHashed ms → length (xorb_hash ms) ≡ 32
length-xorb_hash ms h = first_hashed (root_level ms) (reduced_hashed (length ms) ms h)

pub leaves_hashed : (chunks : List (List ℕ)) → AreHashed (leaves_of chunks)
leaves_hashed [] = tt
leaves_hashed (b ∷ bs) = (length-keyed_digest _ b, leaves_hashed bs)
