-- Bytes that are encoded chunks and nothing else.
use Rattle.std.specs.Prelude.{◌≡◌, ℕ, ◌<◌, ◌≤◌, ◌^◌, List, length}
use Rattle.std.specs.List.{AllByRecursion, flat_map, sum_by}
use Rattle.xet_xorb_chunk.specs.ChunkEncoding.{encoded_chunk}

-- `bytes` is the encodings of `chunks`, concatenated. Each chunk has at most `max_chunk` bytes, and all have fewer
-- than 2 ^ 32.
pub record AreEncoded (max_chunk : ℕ) (bytes : List ℕ) (chunks : List (List ℕ)) : Type 0 where
  pub fit : AllByRecursion (λ b. length b ≤ max_chunk) chunks
  pub total : sum_by length chunks < 2 ^ 32
  pub encoded : bytes ≡ flat_map encoded_chunk chunks
