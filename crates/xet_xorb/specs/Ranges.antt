-- Uncompressed bytes of chunks that are read at the offsets that a footer lists.
use Rattle.std.specs.Prelude.{◌≡◌, ℕ, nat_le, List, slice_range, Result, Ok, Err}
use Rattle.std.specs.List.{concat}
use Rattle.xet_hash.specs.declared.error.StoreError.{StoreError}
use Rattle.xet_xorb_footer.specs.declared.info.XorbObjectInfoV1.{XorbObjectInfoV1}
use Rattle.xet_codec.specs.Parsing.{reaches, ◌>>=◌}
use Rattle.xet_xorb_chunk.specs.Stream.{IsStream}
use Rattle.xet_xorb.specs.Object.{between, byte_offset, contents_length}

-- The offsets between which chunks are stored, as listed: those of a range, and those of all.
abbrev pub listed_range : XorbObjectInfoV1 → ℕ → ℕ → Result (ℕ × ℕ) StoreError
listed_range i start end = do
  ends ← byte_offset i start end
  _ ← between ends.0 ends.1
  Ok ends

abbrev pub listed_contents : XorbObjectInfoV1 → Result (ℕ × ℕ) StoreError
listed_contents i = contents_length i >>= λ end. Ok (0, end)

-- A check that these offsets lie within a file of `len` bytes.
abbrev pub in_file : ℕ → Result (ℕ × ℕ) StoreError → Result (ℕ × ℕ) StoreError
in_file len places = do
  ends ← places
  _ ← reaches (nat_le ends.1 len)
  Ok ends

-- `stored`, read as a stream of chunks: their uncompressed bytes, or the error of the first check that fails.
abbrev pub IsUncompressed : ℕ → List ℕ → Result (List ℕ) StoreError → Type 0
IsUncompressed max_chunk stored (Ok plain) = (chunks : List (List ℕ)) × IsStream max_chunk stored chunks (Ok tt) × (plain ≡ concat chunks)
IsUncompressed max_chunk stored (Err e) = (chunks : List (List ℕ)) × IsStream max_chunk stored chunks (Err e)

-- The same of the bytes between two offsets.
abbrev pub ReadsPlain : ℕ → List ℕ → Result (ℕ × ℕ) StoreError → Result (List ℕ) StoreError → Type 0
ReadsPlain max_chunk bytes (Ok ends) read = IsUncompressed max_chunk (slice_range bytes ends.0 ends.1) read
ReadsPlain max_chunk bytes (Err e) read = read ≡ Err e
