-- Stored chunks that are copied, up to their end or to a footer.
use Rattle.std.specs.Prelude.{◌≡◌, ◌≢◌, ◌⊎◌, ℕ, ◌+◌, ◌<◌, ◌≤◌, List, [], length, take, drop, Option, Some, None, Result, Ok, Err}
use Rattle.std.specs.List.{flat_map, sum_by}
use Rattle.xet_hash.specs.Merkle.{leaves_of}
use Rattle.xet_hash.specs.declared.error.Reason.TheVariants.{ChunkCount}
use Rattle.xet_hash.specs.declared.error.StoreError.{StoreError}
use Rattle.xet_hash.specs.declared.error.StoreError.TheVariants.{ChunkHeaderParse, MalformedData, OutOfMemory, UnexpectedEof}
use Rattle.xet_xorb_chunk.specs.Passing.{Passes}
use Rattle.xet_xorb_chunk.specs.ChunkEncoding.{encoded_chunk}
use Rattle.xet_xorb_chunk.specs.Stream.{Fails, Short, Whole, prefix_of}
use Rattle.xet_xorb.specs.Building.{AreCopied, FailsCheck, HasTooManyChunks}

-- Results of reading the next chunk: the length of its body, none if the bytes end or a footer begins, or an
-- error.
abbrev pub ShowsNext : ℕ → List ℕ → Result (Option ℕ) StoreError → Type 0
ShowsNext max_chunk bytes (Ok (Some n)) = (prefix_of max_chunk bytes ≡ Whole (take n (drop 8 bytes))) × (8 + n ≤ length bytes)
ShowsNext max_chunk bytes (Ok None) = (bytes ≡ []) ⊎ (prefix_of max_chunk bytes ≡ Fails ChunkHeaderParse)
ShowsNext max_chunk bytes (Err e) = (e ≢ ChunkHeaderParse) × (((prefix_of max_chunk bytes ≡ Short) × (0 < length bytes) × (e ≡ UnexpectedEof)) ⊎ (prefix_of max_chunk bytes ≡ Fails e))

-- `raw` begins with these whole chunks, which end at offset `at`.
pub record AreBefore (max_chunk : ℕ) (raw : List ℕ) (chunks : List (List ℕ)) (at : ℕ) : Type 0 where
  pub passes : Passes max_chunk 0 raw chunks (sum_by length chunks) (drop at raw)
  pub encoded : take at raw ≡ flat_map encoded_chunk chunks
  pub within : at ≤ length raw

-- The stored chunks of `raw` have these (hash, length) pairs, and end at offset `at`.
pub record IsCopied (max_chunk : ℕ) (raw : List ℕ) (leaves : List (List ℕ × ℕ)) (at : ℕ) : Type 0 where
  pub chunks : List (List ℕ)
  pub copied : AreCopied max_chunk raw chunks
  pub of_chunks : leaves ≡ leaves_of chunks
  pub encoded : take at raw ≡ flat_map encoded_chunk chunks
  pub within : at ≤ length raw

-- Errors of reading them: the first check that fails, too many chunks, or out of memory.
abbrev pub IsNoCopy : ℕ → List ℕ → StoreError → Type 0
IsNoCopy max_chunk raw e = FailsCheck max_chunk raw e ⊎ ((e ≡ MalformedData ChunkCount) × HasTooManyChunks max_chunk raw) ⊎ (e ≡ OutOfMemory)
