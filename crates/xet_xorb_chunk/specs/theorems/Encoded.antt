-- The encoding of a chunk, written in two parts: header and body.
use Rattle.std.proofs.Common.{◌≡◌, ◌+◌, ℕ, List, ◌++◌, ap, length}
use Rattle.xet_xorb_chunk.specs.Header.{Header, header_bytes}
use Rattle.xet_xorb_chunk.specs.ChunkEncoding.{encoded_chunk}

-- a chunk is spelled by its header and its bytes
pub encoded_by : (h : Header) (chunk : List ℕ) → h ≡ record { version = 0; stored = length chunk; scheme = 0; plain = length chunk } → header_bytes h ++ chunk ≡ encoded_chunk chunk
unfolding encoded_chunk
encoded_by h chunk e = ap (λ (x : Header). header_bytes x ++ chunk) e
