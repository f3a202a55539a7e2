-- The chunks of bytes are not empty and have at most the maximum length.
use Rattle.std.proofs.Common.{◌≡◌, ◌∙◌, ℕ, zero, suc, ◌-◌, ◌<◌, ◌≤◌, Bool, true, false, List, [], ◌∷◌, ◌++◌, length, map, Option, Some, None, unwrap_or, refl, ap, arith, length-take}
use Rattle.std.specs.List.{AllByRecursion}
use Rattle.xet_base.specs.Pieces.{pieces_after}
use Rattle.xet_base.specs.theorems.Elements.{all_prefix}
use Rattle.xet_hash.specs.Merkle.{chunk_hash}
use Rattle.xet_xorb_chunk.specs.declared.chunk.Chunk.{Chunk}
use Rattle.xet_xorb_chunk.specs.Chunks.{chunk_of}
use Rattle.xet_cut.specs.declared.limits.LimitSettings.{LimitSettings}
use Rattle.xet_cut.specs.Chunking.{chunking, first_chunk_len}
use Rattle.xet_cut.specs.Streams.{IsBlock, IsSplit, boundary_in}
use Rattle.xet_cut.specs.theorems.FirstBoundary.{first_chunk_len_is, is_first, is_none}

-- the length of a chunk
abbrev pub HasChunkLength : LimitSettings → List ℕ → Type 0
HasChunkLength s c = (0 < length c) × (length c ≤ s.maximum_chunk)

-- the same in memory, with the digest of its bytes
abbrev pub IsChunkOf : LimitSettings → Chunk → Type 0
IsChunkOf s c = (c.hash ≡ chunk_hash c.bytes) × (0 < length c.bytes) × (length c.bytes ≤ s.maximum_chunk)

-- the first chunk of bytes, if there are any
pub first_chunk_len_within : (s : LimitSettings) (bs : List ℕ) → 1 ≤ s.minimum_chunk → s.minimum_chunk < s.maximum_chunk → 0 < length bs
    → (0 < first_chunk_len s bs) × (first_chunk_len s bs ≤ s.maximum_chunk)
first_chunk_len_within s bs least order some = by_boundary (boundary_in s bs) refl
  where
    by_boundary : (o : Option ℕ) → boundary_in s bs ≡ o → (0 < first_chunk_len s bs) × (first_chunk_len s bs ≤ s.maximum_chunk)
    by_boundary None found =
        let n : first_chunk_len s bs ≡ length bs = first_chunk_len_is s bs ∙ ap (λ (o : Option ℕ). unwrap_or o (length bs)) found in
        let no = is_none s bs found in
        (omega arith, omega (arith, no.short))
    by_boundary (Some k) found =
        let n : first_chunk_len s bs ≡ k = first_chunk_len_is s bs ∙ ap (λ (o : Option ℕ). unwrap_or o (length bs)) found in
        let f = is_first s bs k (omega arith) found in
        (omega (arith, f.low), omega (arith, f.high))

-- each chunk after the first k bytes
pieces_have_length : (s : LimitSettings) (k : ℕ) (bs : List ℕ) → 1 ≤ s.minimum_chunk → s.minimum_chunk < s.maximum_chunk → AllByRecursion (HasChunkLength s) (pieces_after (first_chunk_len s) k bs)
unfolding pieces_after
pieces_have_length s k [] least order = tt
pieces_have_length s zero (b ∷ bs) least order =
    let n : ℕ = first_chunk_len s (b ∷ bs) in
    let within = first_chunk_len_within s (b ∷ bs) least order (omega arith) in
    let len = length-take n (b ∷ bs) in
    ((omega (arith, len, within.0), omega (arith, len, within.1)), pieces_have_length s (n - 1) bs least order)
pieces_have_length s (suc k) (b ∷ bs) least order = pieces_have_length s k bs least order

-- each chunk of bytes
pub chunking_lengths : (s : LimitSettings) (bs : List ℕ) → 1 ≤ s.minimum_chunk → s.minimum_chunk < s.maximum_chunk → AllByRecursion (HasChunkLength s) (chunking s bs)
chunking_lengths s bs least order = pieces_have_length s 0 bs least order

-- each chunk into which bytes are split
pub split_lengths : (s : LimitSettings) (bs : List ℕ) (chunks : List (List ℕ)) (left : List ℕ) → 1 ≤ s.minimum_chunk → s.minimum_chunk < s.maximum_chunk → IsSplit s bs chunks left
    → AllByRecursion (HasChunkLength s) chunks
split_lengths s bs chunks left least order is =
    all_prefix (HasChunkLength s) chunks (chunking s (left ++ [])) (rw (← is.joined []) (chunking_lengths s (bs ++ []) least order))

-- what these parts are in memory
made_chunks : (s : LimitSettings) (parts : List (List ℕ)) → AllByRecursion (HasChunkLength s) parts → AllByRecursion (IsChunkOf s) (map chunk_of parts)
made_chunks s [] all = tt
made_chunks s (p ∷ parts) all = ((refl, all.0.0, all.0.1), made_chunks s parts all.1)

-- each chunk of a block
pub block_chunks : (s : LimitSettings) (bs : List ℕ) (last : Bool) (chunks : List Chunk) (buffered : List ℕ) → 1 ≤ s.minimum_chunk → s.minimum_chunk < s.maximum_chunk
    → IsBlock s bs last chunks buffered → AllByRecursion (IsChunkOf s) chunks
block_chunks s bs false chunks buffered least order is =
    rw is.made (made_chunks s is.parts (split_lengths s bs is.parts buffered least order (is.split refl)))
block_chunks s bs true chunks buffered least order is =
    let ended = is.ended refl in
    let lengths : AllByRecursion (HasChunkLength s) is.parts = rw ended.0 (chunking_lengths s bs least order) in
    rw is.made (made_chunks s is.parts lengths)
