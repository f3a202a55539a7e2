-- The bytes of a block of a reader, and why reading from it fails.
use Rattle.std.specs.Prelude.{◌≡◌, ◌⊎◌, ◌≤◌, ◌<◌, ℕ, ◌+◌, Bool, true, List, drop, length, take, Err}
use Rattle.xet_hash.specs.declared.error.Place.TheVariants.{Input}
use Rattle.xet_hash.specs.declared.error.StoreError.{StoreError}
use Rattle.xet_hash.specs.declared.error.StoreError.TheVariants.{Io, OutOfMemory, UnexpectedEof}
use Rattle.xet_codec.specs.declared.block.Block.{Block}
use Rattle.xet_codec.specs.Parsing.{Parsed}

-- the reader is observable, and its bytes are these, `end` in number
pub record Tells (tells : Bool) (seen bytes : List ℕ) (end : ℕ) : Type 0 where
  pub told : tells ≡ true
  pub same : seen ≡ bytes
  pub all : end ≡ length bytes

-- the block's bytes are those of the reader from the block's offset on
pub record IsPart (b : Block) (bytes : List ℕ) : Type 0 where
  pub is : b.bytes.items ≡ take (length b.bytes.items) (drop b.from bytes)

-- the block has the n bytes from offset `at`
pub record HasBytes (b : Block) (at n : ℕ) : Type 0 where
  pub from : b.from ≤ at
  pub to : at + n ≤ b.from + length b.bytes.items

-- the reader is observable, its bytes are these, `end` in number, and the block is a part of them
pub record Sees (tells : Bool) (seen bytes : List ℕ) (end : ℕ) (block : Block) : Type 0 where
  pub told : tells ≡ true
  pub same : seen ≡ bytes
  pub all : end ≡ length bytes
  pub part : IsPart block bytes

-- the error: there are fewer than n bytes from offset `at`, the reader failed, or out of memory
abbrev pub EndsBefore : List ℕ → ℕ → ℕ → StoreError → Type 0
EndsBefore bytes at n e = ((e ≡ UnexpectedEof) × (length (drop at bytes) < n)) ⊎ (e ≡ Io Input) ⊎ (e ≡ OutOfMemory)

-- the error: parsing fails with it, the reader failed, or out of memory
abbrev pub RefusedBy : {X : Type 0} → Parsed X → StoreError → Type 0
RefusedBy read e = (read ≡ Err e) ⊎ (e ≡ Io Input) ⊎ (e ≡ OutOfMemory)
