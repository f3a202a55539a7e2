-- Chunks in memory, each with the hash that it carries.
use Rattle.std.specs.Prelude.{ℕ, List, length}
use Rattle.std.specs.List.{sum_by}
use Rattle.xet_hash.specs.Merkle.{chunk_hash}
use Rattle.xet_xorb_chunk.specs.declared.chunk.Chunk.{Chunk}

-- The chunk of these bytes, with their chunk hash.
abbrev pub chunk_of : List ℕ → Chunk
chunk_of bytes = record { hash = chunk_hash bytes; bytes = bytes }

abbrev pub bytes_of_chunk : Chunk → List ℕ
bytes_of_chunk c = c.bytes

-- The (hash, length) pair of a chunk, with the hash that it carries.
abbrev pub chunk_leaf : Chunk → List ℕ × ℕ
chunk_leaf c = (c.hash, length c.bytes)

-- Number of bytes of all chunks.
abbrev pub total : List Chunk → ℕ
total chunks = sum_by (λ c. length c.bytes) chunks
