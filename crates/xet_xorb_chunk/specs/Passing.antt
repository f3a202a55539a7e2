-- Forwarding of whole chunks from the start of some bytes, and how it ends.
use Rattle.std.specs.Prelude.{◌≡◌, ◌⊎◌, ℕ, ◌+◌, ◌<◌, ◌≤◌, ◌^◌, List, [], ◌∷◌, ◌++◌, length, take, drop, Option, Some, None, Result, Ok, Err}
use Rattle.std.specs.List.{concat}
use Rattle.xet_hash.specs.declared.error.StoreError.{StoreError}
use Rattle.xet_hash.specs.declared.error.StoreError.TheVariants.{Io, MalformedData}
use Rattle.xet_hash.specs.declared.error.Place.TheVariants.{Input}
use Rattle.xet_hash.specs.declared.error.Reason.TheVariants.{TotalLength}
use Rattle.xet_codec.specs.Stops.{StopsWriting}
use Rattle.xet_xorb_chunk.specs.Stream.{Decodes, IsStream, Short, Whole, Fails, prefix_of}

-- Results of reading the first chunk of some bytes: none if it is incomplete, the length of its body, or the
-- error of a failed check.
abbrev pub ShowsPrefix : ℕ → List ℕ → Result (Option ℕ) StoreError → Type 0
ShowsPrefix max_chunk bytes (Ok None) = prefix_of max_chunk bytes ≡ Short
ShowsPrefix max_chunk bytes (Ok (Some n)) = (prefix_of max_chunk bytes ≡ Whole (take n (drop 8 bytes))) × (8 + n ≤ length bytes)
ShowsPrefix max_chunk bytes (Err e) = prefix_of max_chunk bytes ≡ Fails e

-- These whole chunks are forwarded from the start of `bytes`, after chunks of `total` uncompressed bytes.
-- `rest` remains, and `behind` is the new total.
abbrev pub Passes : ℕ → ℕ → List ℕ → List (List ℕ) → ℕ → List ℕ → Type 0
Passes max_chunk total bytes [] behind rest = (behind ≡ total) × (rest ≡ bytes)
Passes max_chunk total bytes (chunk ∷ chunks) behind rest =
    (prefix_of max_chunk bytes ≡ Whole chunk) × (total + length chunk < 2 ^ 32) × Passes max_chunk (total + length chunk) (drop (8 + length chunk) bytes) chunks behind rest

-- `bytes` begins with these whole chunks.
abbrev pub Begins : ℕ → ℕ → List ℕ → List (List ℕ) → Type 0
Begins max_chunk total bytes chunks = (behind : ℕ) × (rest : List ℕ) × Passes max_chunk total bytes chunks behind rest

-- A prefix of the contents of some whole chunks at the start of `bytes` was written.
abbrev pub WritesSome : ℕ → ℕ → List ℕ → List ℕ → List ℕ → Type 0
WritesSome max_chunk total bytes before now =
    (chunks : List (List ℕ)) × (n : ℕ) × Begins max_chunk total bytes chunks × (now ≡ before ++ take n (concat chunks))

-- Errors of a call that forwards chunks: the first check that fails, with all chunks before it written; or a
-- failure of the sink or out of memory, with a prefix of the whole chunks written. `told`: the sink is
-- observable, so that its contents can be stated.
abbrev pub FailsPassing : ℕ → ℕ → List ℕ → Type 0 → List ℕ → List ℕ → StoreError → Type 0
FailsPassing max_chunk total bytes told before now e =
    ((chunks : List (List ℕ)) × Decodes max_chunk total bytes chunks (Err e) × (told → now ≡ before ++ concat chunks))
    ⊎ (StopsWriting e × (told → WritesSome max_chunk total bytes before now))

-- Errors of forwarding one whole chunk after chunks of `total` bytes: `TotalLength` if all would have 2 ^ 32
-- bytes or more, with nothing written; or a failure of the sink or out of memory, with a prefix of the chunk
-- written.
abbrev pub RefusesOne : ℕ → List ℕ → Type 0 → List ℕ → List ℕ → StoreError → Type 0
RefusesOne total chunk told before now e =
    ((e ≡ MalformedData TotalLength) × (2 ^ 32 ≤ total + length chunk) × (told → now ≡ before))
    ⊎ (StopsWriting e × (total + length chunk < 2 ^ 32) × (told → (n : ℕ) × (now ≡ before ++ take n chunk)))

-- The same errors, of a call that forwards more chunks of `bytes` after these.
abbrev pub RefusesMore : ℕ → List ℕ → List (List ℕ) → Type 0 → List ℕ → List ℕ → StoreError → Type 0
RefusesMore max_chunk bytes chunks told before now e =
    ((more : List (List ℕ)) × Decodes max_chunk 0 bytes (chunks ++ more) (Err e) × (told → now ≡ before ++ concat more))
    ⊎ (StopsWriting e × (told → (more : List (List ℕ)) × (n : ℕ) × Begins max_chunk 0 bytes (chunks ++ more) × (now ≡ before ++ take n (concat more))))

-- The contents of some whole chunks at the start of `bytes` were written.
abbrev pub WritesWhole : ℕ → List ℕ → List ℕ → List ℕ → Type 0
WritesWhole max_chunk bytes before now = (chunks : List (List ℕ)) × Begins max_chunk 0 bytes chunks × (now ≡ before ++ concat chunks)

-- `bytes` is a stream of some chunks, read to its end. Their contents were written, and `Told` holds of them.
abbrev pub WritesStream : ℕ → List ℕ → Type 0 → List ℕ → List ℕ → (List (List ℕ) → Type 0) → Type 0
WritesStream max_chunk bytes told before now Told =
    (chunks : List (List ℕ)) × IsStream max_chunk bytes chunks (Ok tt) × Told chunks × (told → now ≡ before ++ concat chunks)

-- Errors of reading a stream: the first check that fails, with all chunks before it written; a failure of the
-- sink or out of memory, with a prefix of the whole chunks written; or a failure of the source, with some
-- whole chunks written.
abbrev pub RefusesStream : ℕ → List ℕ → Type 0 → List ℕ → List ℕ → StoreError → Type 0
RefusesStream max_chunk bytes told before now e =
    ((chunks : List (List ℕ)) × IsStream max_chunk bytes chunks (Err e) × (told → now ≡ before ++ concat chunks))
    ⊎ (StopsWriting e × (told → WritesSome max_chunk 0 bytes before now))
    ⊎ ((e ≡ Io Input) × (told → WritesWhole max_chunk bytes before now))
