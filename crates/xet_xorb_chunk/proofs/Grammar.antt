-- The program's chunks, seen as their bytes.
use Rattle.std.proofs.Common.{◌≡◌, ℕ, List, [], ◌∷◌, length, map, refl, arith}
use Rattle.std.proofs.lemmas.List.Sums.{sum_by-cons}
use Rattle.xet_hash.specs.Merkle.{total_len}
use Rattle.xet_xorb_chunk.specs.declared.chunk.Chunk.{Chunk}
use Rattle.xet_xorb_chunk.specs.Chunks.{chunk_leaf, total}

pub total-leaves : (chunks : List Chunk) → total_len (map chunk_leaf chunks) ≡ total chunks
total-leaves [] = refl
total-leaves (c ∷ cs) =
    omega (arith, sum_by-cons (λ (m : List ℕ × ℕ). m.1) (chunk_leaf c) (map chunk_leaf cs), sum_by-cons (λ (c : Chunk). length c.bytes) c cs, total-leaves cs)
