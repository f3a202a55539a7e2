-- The state of an incremental chunk decoder.
use Rattle.std.specs.Prelude.{◌≡◌, ◌⊎◌, ℕ, ◌+◌, Bool, List, [], ◌∷◌, ◌++◌, length, vec_len, Result, Ok, Err, Vec}
use Rattle.std.specs.declared.alloc.Global.{Global}
use Rattle.std.specs.List.{sum_by}
use Rattle.xet_xorb_chunk.specs.Passing.{Passes}
use Rattle.xet_hash.specs.declared.error.StoreError.{StoreError}
use Rattle.xet_hash.specs.declared.error.StoreError.TheVariants.{OutOfMemory}
use Rattle.xet_xorb_chunk.specs.Stream.{Decodes, IsStream, offsets_from, stored_bytes}
use Rattle.xet_xorb_chunk.specs.declared.decoder.ChunkDecoder.{ChunkDecoder}
use Rattle.xet_xorb_chunk.specs.declared.decoder.Tally.{Tally}

-- Maximum length of a chunk, in bytes.
abbrev pub max_chunk_of : ChunkDecoder → ℕ
max_chunk_of d = d.max_chunk

-- No call has failed.
abbrev pub is_intact : ChunkDecoder → Bool
is_intact d = d.whole

-- Number of bytes fed, headers included.
abbrev pub fed_len : ChunkDecoder → ℕ
fed_len d = d.passed.stored + vec_len d.held

-- The totals `t` are those of these chunks: their offsets, uncompressed bytes and stored bytes.
pub record Counts (t : Tally) (chunks : List (List ℕ)) : Type 0 where
  pub starts : t.starts.items ++ t.total ∷ [] ≡ offsets_from 0 chunks
  pub total : t.total ≡ sum_by length chunks
  pub stored : t.stored ≡ stored_bytes chunks

-- The decoder was fed `fed`: these whole chunks, followed by the buffered start of another, which may be
-- empty.
pub record WasFed (d : ChunkDecoder) (fed : List ℕ) (chunks : List (List ℕ)) : Type 0 where
  pub decodes : Decodes d.max_chunk 0 fed chunks (Ok d.held.items)
  pub counts : Counts d.passed chunks

-- Between the totals `old` and `new`, these chunks were forwarded from the start of `bytes`, and `rest`
-- remains.
pub record Forwards (max_chunk : ℕ) (old new : Tally) (bytes rest : List ℕ) (chunks : List (List ℕ)) : Type 0 where
  pub passes : Passes max_chunk old.total bytes chunks new.total rest
  pub counts : (before : List (List ℕ)) → Counts old before → Counts new (before ++ chunks)
  pub stored : new.stored + length rest ≡ old.stored + length bytes

-- Results of ending a stream after these bytes: the stored length and the offsets of its chunks, or an error:
-- it ends inside a chunk, or out of memory.
abbrev pub FinishesStream : ℕ → List ℕ → List (List ℕ) → Result (ℕ × Vec ℕ Global) StoreError → Type 0
FinishesStream max_chunk bytes chunks (Ok x) = IsStream max_chunk bytes chunks (Ok tt) × (x.0 ≡ stored_bytes chunks) × (x.1.items ≡ offsets_from 0 chunks)
FinishesStream max_chunk bytes chunks (Err e) = IsStream max_chunk bytes chunks (Err e) ⊎ ((e ≡ OutOfMemory) × IsStream max_chunk bytes chunks (Ok tt))
