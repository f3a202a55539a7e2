-- A block of a stream that is partly split, for private functions.
use Rattle.std.specs.Prelude.{◌≡◌, ℕ, zero, suc, ◌≤◌, List, [], ◌++◌, length, drop, map}
use Rattle.xet_xorb_chunk.specs.declared.chunk.Chunk.{Chunk}
use Rattle.xet_xorb_chunk.specs.Chunks.{chunk_of}
use Rattle.xet_cut.specs.declared.limits.LimitSettings.{LimitSettings}
use Rattle.xet_cut.specs.Chunking.{chunking}

-- the buffered bytes that are in no chunk yet: the first chunk that takes new bytes begins with all of them
abbrev pub unsplit : List ℕ → ℕ → List ℕ
unsplit buffered zero = buffered
unsplit buffered (suc taken) = []

-- the bytes that are in no chunk yet, if the chunks took so many new bytes
abbrev pub left : List ℕ → List ℕ → ℕ → List ℕ
left buffered bytes taken = unsplit buffered taken ++ drop taken bytes

-- these chunks took so many of the new bytes: whatever follows, the chunks of the whole are these, and then those of
-- what is left with what follows
pub record IsCut (s : LimitSettings) (buffered bytes : List ℕ) (taken : ℕ) (chunks : List Chunk) : Type 0 where
  pub within : taken ≤ length bytes
  pub parts : List (List ℕ)
  pub made : chunks ≡ map chunk_of parts
  pub joined : (rest : List ℕ) → chunking s ((buffered ++ bytes) ++ rest) ≡ parts ++ chunking s (left buffered bytes taken ++ rest)
