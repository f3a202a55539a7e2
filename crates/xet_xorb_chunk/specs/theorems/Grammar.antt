-- (hash, length) pairs of chunks.
use Rattle.std.proofs.Common.{◌≡◌, List, [], ◌∷◌, length, map, refl, arith}
use Rattle.std.proofs.lemmas.List.Elements.{All-head, All-tail}
use Rattle.std.proofs.lemmas.List.Sums.{sum_by-cons}
use Rattle.std.specs.List.{All, sum_by}
use Rattle.xet_hash.specs.Merkle.{chunk_hash, leaves_of}
use Rattle.xet_xorb_chunk.specs.declared.chunk.Chunk.{Chunk}
use Rattle.xet_xorb_chunk.specs.Chunks.{bytes_of_chunk, chunk_leaf, total}

pub total-bytes : (chunks : List Chunk) → sum_by length (map bytes_of_chunk chunks) ≡ total chunks
total-bytes [] = refl
total-bytes (c ∷ cs) =
    omega (arith, sum_by-cons length c.bytes (map bytes_of_chunk cs), sum_by-cons (λ (c : Chunk). length c.bytes) c cs, total-bytes cs)

-- chunks that carry their own digests have the leaves of their bytes
pub leaves_are : (chunks : List Chunk) → All (λ c. c.hash ≡ chunk_hash c.bytes) chunks → map chunk_leaf chunks ≡ leaves_of (map bytes_of_chunk chunks)
leaves_are [] own = refl
leaves_are (c ∷ cs) own =
    let head : c.hash ≡ chunk_hash c.bytes = All-head (λ (c : Chunk). c.hash ≡ chunk_hash c.bytes) c cs own in
    let rest : map chunk_leaf cs ≡ leaves_of (map bytes_of_chunk cs) = leaves_are cs (All-tail (λ (c : Chunk). c.hash ≡ chunk_hash c.bytes) c cs own) in
    λ i. (head i, length c.bytes) ∷ rest i
