-- The footer of a xorb, from the (hash, length) pairs of its chunks.
use Rattle.std.specs.Prelude.{ℕ, ◌+◌, ◌*◌, List, [], ◌∷◌, length, map}
use Rattle.xet_xorb_footer.specs.declared.info.XorbObjectInfoV0.{XorbObjectInfoV0}
use Rattle.xet_xorb_footer.specs.declared.info.XorbObjectInfoV1.{XorbObjectInfoV1}
use Rattle.xet_xorb_footer.specs.FooterEncoding.{empty_v0, empty_v1, of_v0, footer_bytes_v0, footer_bytes_v1}

-- Where the chunks end, if the first starts at offset `at` and `before` bytes precede the bytes of each: 8
-- for the boundary offsets, 0 for the uncompressed ones.
unfoldable pub ends_from : ℕ → ℕ → List (List ℕ × ℕ) → List ℕ
ends_from before at [] = []
ends_from before at (m ∷ ms) = (at + (m.1 + before)) ∷ ends_from before (at + (m.1 + before)) ms

-- The footer of version 0, without uncompressed boundary offsets.
abbrev pub standard_footer_v0 : List ℕ → List (List ℕ × ℕ) → List ℕ → XorbObjectInfoV0
standard_footer_v0 hash ms spare = record empty_v0 {
  xorb_hash = hash;
  num_chunks = length ms;
  chunk_boundary_offsets = ends_from 8 0 ms;
  chunk_hashes = map (λ m. m.0) ms;
  spare = spare;
}

-- The footer of version 1.
abbrev pub footer_v1 : List ℕ → List (List ℕ × ℕ) → List ℕ → XorbObjectInfoV1
footer_v1 hash ms spare = record empty_v1 {
  xorb_hash = hash;
  chunk_hashes = map (λ m. m.0) ms;
  chunk_boundary_offsets = ends_from 8 0 ms;
  unpacked_chunk_offsets = ends_from 0 0 ms;
  num_chunks = length ms;
  hashes_section_offset_from_end = 52 + 40 * length ms;
  boundary_section_offset_from_end = 40 + 8 * length ms;
  spare = spare;
}

-- The versions of a footer.
pub data Version : Type 0 where
  V0 : Version
  V1 : Version

-- The encoding of a footer, its value as it is read, and its length.
abbrev pub xorb_footer_bytes : Version → List ℕ → List (List ℕ × ℕ) → List ℕ → List ℕ
xorb_footer_bytes V0 hash ms spare = footer_bytes_v0 (standard_footer_v0 hash ms spare)
xorb_footer_bytes V1 hash ms spare = footer_bytes_v1 (footer_v1 hash ms spare)

abbrev pub footer_info : Version → List ℕ → List (List ℕ × ℕ) → List ℕ → XorbObjectInfoV1
footer_info V0 hash ms spare = of_v0 (standard_footer_v0 hash ms spare)
footer_info V1 hash ms spare = footer_v1 hash ms spare

abbrev pub footer_len : Version → ℕ → ℕ
footer_len V0 n = 60 + 36 * n
footer_len V1 n = 92 + 40 * n
