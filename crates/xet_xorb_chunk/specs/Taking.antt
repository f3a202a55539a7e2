-- One chunk that is read from the start of some bytes, and how many bytes are taken.
use Rattle.std.specs.Prelude.{◌≡◌, ◌⊎◌, ℕ, ◌+◌, nat_lt, List, ◌++◌, length, take, drop, Result, Ok, Err, if◌then◌else◌}
use Rattle.xet_hash.specs.declared.error.StoreError.{StoreError}
use Rattle.xet_hash.specs.declared.error.StoreError.TheVariants.{UnexpectedEof}
use Rattle.xet_xorb_chunk.specs.Header.{Header, header_at}
use Rattle.xet_xorb_chunk.specs.Checks.{IsCheck}
use Rattle.xet_xorb_chunk.specs.Stream.{chunk_at}

-- The header at the start of the bytes, or the error of the first check that fails.
abbrev pub header_in : ℕ → List ℕ → Result Header StoreError
header_in max_chunk bytes = if nat_lt (length bytes) 8 then Err UnexpectedEof else header_at max_chunk (take 8 bytes)

-- The bytes begin with a whole chunk, and its content was written.
abbrev pub WritesChunk : ℕ → List ℕ → List ℕ → List ℕ → Type 0
WritesChunk max_chunk bytes before now = (chunk : List ℕ) × (chunk_at max_chunk bytes ≡ Ok chunk) × (now ≡ before ++ chunk)

-- Nothing was written, or the bytes begin with a whole chunk, and a prefix of its content was written.
abbrev pub WritesChunkPrefix : ℕ → List ℕ → List ℕ → List ℕ → Type 0
WritesChunkPrefix max_chunk bytes before now =
    (now ≡ before) ⊎ ((chunk : List ℕ) × (n : ℕ) × (chunk_at max_chunk bytes ≡ Ok chunk) × (now ≡ before ++ take n chunk))

-- A prefix of the bytes left was taken.
abbrev pub TakesPrefix : List ℕ → List ℕ → Type 0
TakesPrefix left rest = (n : ℕ) × (rest ≡ drop n left)

-- What was taken after the error `e` of reading a header: a prefix; after a failed check its eight bytes, or
-- all if fewer were left.
pub record TakesFailedHeader (max_chunk : ℕ) (left rest : List ℕ) (e : StoreError) : Type 0 where
  pub consumed : TakesPrefix left rest
  pub header : header_in max_chunk left ≡ Err e → rest ≡ drop 8 left

-- The same of reading a chunk. If its header is valid and a later check failed, the body was taken too, or
-- all if less was left.
pub record TakesFailedChunk (max_chunk : ℕ) (left rest : List ℕ) (e : StoreError) : Type 0 where
  pub consumed : TakesPrefix left rest
  pub header : header_in max_chunk left ≡ Err e → rest ≡ drop 8 left
  pub body : (h : Header) → header_in max_chunk left ≡ Ok h → IsCheck e → rest ≡ drop (8 + h.stored) left
