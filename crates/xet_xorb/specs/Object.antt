-- A xorb's footer with its length, and what its lists give: each a value, or the error of the first check
-- that fails.
use Rattle.std.specs.Prelude.{ℕ, zero, suc, ◌-◌, ◌==◌, nat_eq, nat_le, nat_lt, Bool, true, false, not, ◌&&◌, ◌||◌, List, length, Result, Ok, Err, if◌then◌else◌, slice_index, slice_range}
use Rattle.std.specs.Cmp.Lexicographic.{pointwise}
use Rattle.xet_hash.specs.Hash.{zero_hash}
use Rattle.xet_hash.specs.Merkle.{range_hash}
use Rattle.xet_hash.specs.declared.error.Reason.TheVariants.{Incomplete, Offsets}
use Rattle.xet_hash.specs.declared.error.StoreError.{StoreError}
use Rattle.xet_hash.specs.declared.error.StoreError.TheVariants.{InvalidArguments}
use Rattle.xet_xorb_footer.specs.declared.info.XorbObjectInfoV1.{XorbObjectInfoV1}
use Rattle.xet_codec.specs.Parsing.{◌>>=◌, wants}
use Rattle.xet_xorb.specs.declared.object.XorbObject.{XorbObject}
use Rattle.xet_xorb.specs.Footer.{Version, footer_info, footer_len}

-- The footer, with its length, of a xorb with this hash and these (hash, length) pairs.
abbrev pub object_of : Version → List ℕ → List (List ℕ × ℕ) → List ℕ → XorbObject
object_of version hash ms spare = record { info = footer_info version hash ms spare; info_length = footer_len version (length ms) }

-- Whether a footer lists all its chunks, at least one, and its hash is not zero. If its boundary section has
-- not version 1, there need be no uncompressed boundary offsets.
abbrev pub is_complete : XorbObjectInfoV1 → Bool
is_complete i =
    nat_lt 0 i.num_chunks
    && (length i.chunk_boundary_offsets == i.num_chunks)
    && (length i.chunk_hashes == i.num_chunks)
    && (not (i.boundaries_version == 1) || (length i.unpacked_chunk_offsets == i.num_chunks))
    && not (pointwise nat_eq i.xorb_hash zero_hash)

abbrev pub complete : XorbObjectInfoV1 → Result (Unit {0}) StoreError
complete i = wants (is_complete i) Incomplete

-- A check of the arguments.
abbrev pub fits : Bool → Result (Unit {0}) StoreError
fits true = Ok tt
fits false = Err InvalidArguments

-- The chunks `start..end` exist, and are at least one.
abbrev pub some_chunks : XorbObjectInfoV1 → ℕ → ℕ → Result (Unit {0}) StoreError
some_chunks i start end = complete i >>= λ _. fits (nat_lt start end && nat_le end i.num_chunks)

-- The offset at which the first chunks end, as many as the second argument says.
abbrev pub end_of : List ℕ → ℕ → ℕ
end_of ends zero = 0
end_of ends (suc n) = slice_index ends n

-- The number of bytes between two offsets, the second not below the first.
abbrev pub between : ℕ → ℕ → Result ℕ StoreError
between from to = wants (nat_le from to) Offsets >>= λ _. Ok (to - from)

-- The range hash of these chunks, from the listed chunk hashes.
abbrev pub chunk_range_hash : XorbObjectInfoV1 → ℕ → ℕ → Result (List ℕ) StoreError
chunk_range_hash i start end = some_chunks i start end >>= λ _. Ok (range_hash (slice_range i.chunk_hashes start end))

-- The offsets at which these chunks start and end among the stored bytes.
abbrev pub byte_offset : XorbObjectInfoV1 → ℕ → ℕ → Result (ℕ × ℕ) StoreError
byte_offset i start end = some_chunks i start end >>= λ _. Ok (end_of i.chunk_boundary_offsets start, end_of i.chunk_boundary_offsets end)

-- The offset at which the last chunk ends among the stored bytes.
abbrev pub contents_length : XorbObjectInfoV1 → Result ℕ StoreError
contents_length i = complete i >>= λ _. Ok (end_of i.chunk_boundary_offsets i.num_chunks)

-- The uncompressed length of chunk k.
abbrev pub chunk_length : XorbObjectInfoV1 → ℕ → Result ℕ StoreError
chunk_length i k = do
  _ ← complete i
  _ ← fits (nat_lt k (length i.unpacked_chunk_offsets))
  between (end_of i.unpacked_chunk_offsets k) (end_of i.unpacked_chunk_offsets (suc k))

-- The uncompressed length of the chunks `start..end`, which may be none.
abbrev pub range_length : XorbObjectInfoV1 → ℕ → ℕ → Result ℕ StoreError
range_length i start end = do
  _ ← complete i
  _ ← fits (nat_le start end && nat_le end i.num_chunks && nat_lt start i.num_chunks && ((start == end) || nat_le end (length i.unpacked_chunk_offsets)))
  if start == end then Ok 0 else between (end_of i.unpacked_chunk_offsets start) (end_of i.unpacked_chunk_offsets end)
