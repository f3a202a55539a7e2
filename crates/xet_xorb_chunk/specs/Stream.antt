-- Streams of stored chunks: what their first chunk is, and how they are read to their end.
use Rattle.std.specs.Prelude.{◌≡◌, ◌⊎◌, ℕ, ◌+◌, ◌<◌, ◌≤◌, ◌^◌, ◌==◌, nat_lt, List, [], ◌∷◌, length, take, drop, Result, Ok, Err, if◌then◌else◌}
use Rattle.xet_hash.specs.declared.error.StoreError.{StoreError}
use Rattle.xet_hash.specs.declared.error.StoreError.TheVariants.{CompressionError, MalformedData, UnexpectedEof}
use Rattle.xet_hash.specs.declared.error.Reason.TheVariants.{AutoScheme, BodyLength, TotalLength}
use Rattle.xet_xorb_chunk.specs.Header.{Header, header_at}

-- Result of reading the first chunk of some bytes: it is incomplete, it is whole, or a check fails.
pub data Prefix : Type 0 where
  Short : Prefix
  Whole : (chunk : List ℕ) → Prefix
  Fails : (error : StoreError) → Prefix

-- The checks of a complete body: the scheme must be 0, and both lengths equal.
abbrev pub body_of : Header → List ℕ → Prefix
body_of h body =
    if h.scheme == 99 then Fails (MalformedData AutoScheme)
    else if h.scheme == 0 then (if h.stored == h.plain then Whole body else Fails (MalformedData BodyLength))
    else Fails (CompressionError h.scheme)

abbrev pub after_header : Result Header StoreError → List ℕ → Prefix
after_header (Err e) body = Fails e
after_header (Ok h) body = if nat_lt (length body) h.stored then Short else body_of h (take h.stored body)

-- The header is checked as soon as its eight bytes are there, the body as soon as it is complete.
unfoldable pub prefix_of : ℕ → List ℕ → Prefix
prefix_of max_chunk bytes = if nat_lt (length bytes) 8 then Short else after_header (header_at max_chunk (take 8 bytes)) (drop 8 bytes)

-- The chunk of such a result, or its error. An incomplete chunk is `UnexpectedEof`.
abbrev pub chunk_of_prefix : Prefix → Result (List ℕ) StoreError
chunk_of_prefix Short = Err UnexpectedEof
chunk_of_prefix (Whole chunk) = Ok chunk
chunk_of_prefix (Fails e) = Err e

abbrev pub chunk_at : ℕ → List ℕ → Result (List ℕ) StoreError
chunk_at max_chunk bytes = chunk_of_prefix (prefix_of max_chunk bytes)

-- After chunks of `total` uncompressed bytes, `bytes` is these whole chunks, with fewer than 2 ^ 32 in all,
-- followed by `rest`: an incomplete chunk, which may be empty, or the error of the first check that fails.
abbrev pub Decodes : ℕ → ℕ → List ℕ → List (List ℕ) → Result (List ℕ) StoreError → Type 0
Decodes max_chunk total bytes [] rest =
    ((prefix_of max_chunk bytes ≡ Short) × (rest ≡ Ok bytes))
    ⊎ ((e : StoreError) × (prefix_of max_chunk bytes ≡ Fails e) × (rest ≡ Err e))
    ⊎ ((chunk : List ℕ) × (prefix_of max_chunk bytes ≡ Whole chunk) × (2 ^ 32 ≤ total + length chunk) × (rest ≡ Err (MalformedData TotalLength)))
Decodes max_chunk total bytes (chunk ∷ chunks) rest =
    (prefix_of max_chunk bytes ≡ Whole chunk) × (total + length chunk < 2 ^ 32) × Decodes max_chunk (total + length chunk) (drop (8 + length chunk) bytes) chunks rest

-- Result of a stream that ends with this rest: `UnexpectedEof` if bytes are left over.
abbrev pub end_of_stream : Result (List ℕ) StoreError → Result (Unit {0}) StoreError
end_of_stream (Ok []) = Ok tt
end_of_stream (Ok (b ∷ bs)) = Err UnexpectedEof
end_of_stream (Err e) = Err e

-- `bytes`, read as a stream to its end: these whole chunks, followed by the end or by an error.
pub record IsStream (max_chunk : ℕ) (bytes : List ℕ) (chunks : List (List ℕ)) (end : Result (Unit {0}) StoreError) : Type 0 where
  pub rest : Result (List ℕ) StoreError
  pub decodes : Decodes max_chunk 0 bytes chunks rest
  pub ends : end_of_stream rest ≡ end

-- Offsets among the uncompressed bytes, if the first chunk starts at `at`: `at`, and the end of each chunk.
abbrev pub offsets_from : ℕ → List (List ℕ) → List ℕ
offsets_from at [] = at ∷ []
offsets_from at (chunk ∷ chunks) = at ∷ offsets_from (at + length chunk) chunks

-- Number of stored bytes of these chunks, headers included.
abbrev pub stored_bytes : List (List ℕ) → ℕ
stored_bytes [] = 0
stored_bytes (chunk ∷ chunks) = 8 + length chunk + stored_bytes chunks
