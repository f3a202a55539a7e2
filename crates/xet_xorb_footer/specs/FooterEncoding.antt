-- The encoding of footers. Numbers are little-endian.
use Rattle.std.specs.Prelude.{◌≡◌, ℕ, ◌+◌, ◌*◌, ◌≤◌, List, [], ◌∷◌, ◌++◌, codes, length, replicate}
use Rattle.xet_hash.specs.Hash.{zero_hash}
use Rattle.xet_xorb_footer.specs.declared.info.XorbObjectInfoV0.{XorbObjectInfoV0}
use Rattle.xet_xorb_footer.specs.declared.info.XorbObjectInfoV1.{XorbObjectInfoV1}
use Rattle.xet_codec.specs.Numbers.{joined, number, numbers}

-- The magics of a footer, of its hash section and of its boundary section.
abbrev pub footer_magic : List ℕ
footer_magic = codes "XETBLOB"

abbrev pub hashes_magic : List ℕ
hashes_magic = codes "XBLBHSH"

abbrev pub boundaries_magic : List ℕ
boundaries_magic = codes "XBLBBND"

-- Maximum number of chunks of a footer. A footer of version 1 then has fewer than 2 ^ 32 bytes.
abbrev pub max_chunks : ℕ
max_chunks = 107374180

-- Version 0: magic, version, xorb hash, number of chunks, boundary offsets, chunk hashes, spare bytes.
unfoldable pub footer_bytes_v0 : XorbObjectInfoV0 → List ℕ
footer_bytes_v0 i =
    i.ident ++ (i.version ∷ (i.xorb_hash
    ++ (number i.num_chunks ++ (numbers i.chunk_boundary_offsets ++ (joined i.chunk_hashes ++ i.spare)))))

-- Version 1: magic, version, xorb hash; the hash section; the boundary section, with the boundary offsets and
-- the uncompressed ones; the number of chunks again, the offsets of both sections from the end of the footer,
-- spare bytes.
unfoldable pub footer_bytes_v1 : XorbObjectInfoV1 → List ℕ
footer_bytes_v1 i =
    i.ident ++ (i.version ∷ (i.xorb_hash
    ++ (i.ident_hash_section ++ (i.hashes_version ∷ (number i.num_chunks ++ (joined i.chunk_hashes
    ++ (i.ident_boundary_section ++ (i.boundaries_version ∷ (number i.num_chunks ++ (numbers i.chunk_boundary_offsets ++ (numbers i.unpacked_chunk_offsets
    ++ (number i.num_chunks ++ (number i.hashes_section_offset_from_end ++ (number i.boundary_section_offset_from_end ++ i.spare))))))))))))))

-- Each list has as many items as there are chunks.
pub record HasLists (i : XorbObjectInfoV1) : Type 0 where
  pub hashes : length i.chunk_hashes ≡ i.num_chunks
  pub stored : length i.chunk_boundary_offsets ≡ i.num_chunks
  pub plain : length i.unpacked_chunk_offsets ≡ i.num_chunks

-- No list has more items than a footer may have chunks.
pub record HasShortLists (i : XorbObjectInfoV1) : Type 0 where
  pub hashes : length i.chunk_hashes ≤ max_chunks
  pub stored : length i.chunk_boundary_offsets ≤ max_chunks
  pub plain : length i.unpacked_chunk_offsets ≤ max_chunks

-- Offsets of the sections, from the end of a footer with these lists.
abbrev pub boundary_offset : XorbObjectInfoV1 → ℕ
boundary_offset i = 40 + 4 * length i.chunk_boundary_offsets + 4 * length i.unpacked_chunk_offsets

abbrev pub hashes_offset : XorbObjectInfoV1 → ℕ
hashes_offset i = boundary_offset i + 12 + 32 * length i.chunk_hashes

-- Length of a footer with these lists, in bytes.
abbrev pub length_of : XorbObjectInfoV1 → ℕ
length_of i = 92 + 32 * length i.chunk_hashes + 4 * length i.chunk_boundary_offsets + 4 * length i.unpacked_chunk_offsets

-- The same of version 0.
abbrev pub length_of_v0 : XorbObjectInfoV0 → ℕ
length_of_v0 i = 60 + 4 * length i.chunk_boundary_offsets + 32 * length i.chunk_hashes

-- ---- Conversion from version 0

-- The same footer in version 1, without uncompressed boundary offsets.
abbrev pub of_v0 : XorbObjectInfoV0 → XorbObjectInfoV1
of_v0 i = record {
  ident = i.ident;
  version = 1;
  xorb_hash = i.xorb_hash;
  ident_hash_section = hashes_magic;
  hashes_version = 0;
  chunk_hashes = i.chunk_hashes;
  ident_boundary_section = boundaries_magic;
  boundaries_version = 0;
  chunk_boundary_offsets = i.chunk_boundary_offsets;
  unpacked_chunk_offsets = [];
  num_chunks = i.num_chunks;
  hashes_section_offset_from_end = 52 + 4 * length i.chunk_boundary_offsets + 32 * length i.chunk_hashes;
  boundary_section_offset_from_end = 40 + 4 * length i.chunk_boundary_offsets;
  spare = i.spare;
}

-- ---- Construction

-- The footers of no chunks.
abbrev pub empty_v0 : XorbObjectInfoV0
empty_v0 = record {
  ident = footer_magic;
  version = 0;
  xorb_hash = zero_hash;
  num_chunks = 0;
  chunk_boundary_offsets = [];
  chunk_hashes = [];
  spare = replicate 16 0;
}

abbrev pub empty_v1 : XorbObjectInfoV1
empty_v1 = record {
  ident = footer_magic;
  version = 1;
  xorb_hash = zero_hash;
  ident_hash_section = hashes_magic;
  hashes_version = 0;
  chunk_hashes = [];
  ident_boundary_section = boundaries_magic;
  boundaries_version = 1;
  chunk_boundary_offsets = [];
  unpacked_chunk_offsets = [];
  num_chunks = 0;
  hashes_section_offset_from_end = 52;
  boundary_section_offset_from_end = 40;
  spare = replicate 16 0;
}

-- The footer with the section offsets that its lists give.
abbrev pub filled : XorbObjectInfoV1 → XorbObjectInfoV1
filled i = record i { hashes_section_offset_from_end = hashes_offset i; boundary_section_offset_from_end = boundary_offset i }

-- A footer of version 0 in version 1, with these uncompressed boundary offsets and zeros as spare bytes.
abbrev pub of_v0_with : XorbObjectInfoV0 → List ℕ → XorbObjectInfoV1
of_v0_with i plain = filled (record (of_v0 i) { boundaries_version = 1; unpacked_chunk_offsets = plain; spare = replicate 16 0 })
