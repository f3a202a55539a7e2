-- Forwarding of whole chunks from the start of some bytes, and how it ends, for private functions.
use Rattle.std.specs.Prelude.{◌≡◌, ℕ, ◌+◌, ◌≤◌, List, length}
use Rattle.xet_xorb_chunk.specs.Stream.{Short, Whole, prefix_of}

-- For `bytes` to which `n` bytes of `piece` were appended: these are all of it if `bytes` is still an incomplete
-- chunk, and none after the chunk if it is whole.
pub record Gathers (max_chunk : ℕ) (bytes piece : List ℕ) (n : ℕ) : Type 0 where
  pub all : prefix_of max_chunk bytes ≡ Short → n ≡ length piece
  pub one : (chunk : List ℕ) → prefix_of max_chunk bytes ≡ Whole chunk → length bytes ≤ 8 + length chunk
