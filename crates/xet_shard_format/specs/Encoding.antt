-- The encoding of a shard: header, file section, xorb section, three lookup tables, footer, without gaps.
-- All numbers are little-endian.
use Rattle.std.specs.Prelude.{◌≡◌, ℕ, ◌+◌, ◌*◌, ◌^◌, ◌<◌, List, ◌∷◌, ◌++◌, length, replicate, None}
use Rattle.std.specs.List.{AllByRecursion, sum_by}
use Rattle.std.specs.Int.{w64, to_le_bytes}
use Rattle.xet_shard_format.specs.declared.record.MDBFileInfo.{MDBFileInfo}
use Rattle.xet_shard_format.specs.declared.record.MDBXorbInfo.{MDBXorbInfo}
use Rattle.xet_shard_format.specs.declared.header_footer.MDBShardFileFooter.{MDBShardFileFooter}
use Rattle.xet_shard_format.specs.declared.header_footer.MDBShardFileHeader.{MDBShardFileHeader}
use Rattle.xet_shard_format.specs.Rows.{IsHashBytes, RowFits, rows_bytes}
use Rattle.xet_shard_format.specs.Records.{AreRecords, IsFile, IsXorb, file_record_hash, file_section, segment_bytes, xorb_record_hash, xorb_section}
use Rattle.xet_shard_format.specs.Lookups.{Lookups, all_lookups, chunk_items, file_items, record_items_bytes, left_in, chunk_items_bytes, xorb_items}

-- ---- header

-- the magic `XETSHARD` and 24 zeros
abbrev pub tag : List ℕ
tag = 88 ∷ 69 ∷ 84 ∷ 83 ∷ 72 ∷ 65 ∷ 82 ∷ 68 ∷ replicate 24 0

-- version 2, and a footer of 200 bytes
abbrev pub header : MDBShardFileHeader
header = record { tag = tag; version = 2; footer_size = 200 }

abbrev pub shard_header_bytes : MDBShardFileHeader → List ℕ
shard_header_bytes h = h.tag ++ (to_le_bytes w64 h.version ++ to_le_bytes w64 h.footer_size)

-- ---- footer

abbrev pub shard_footer_bytes : MDBShardFileFooter → List ℕ
shard_footer_bytes f =
    to_le_bytes w64 f.version
    ++ (to_le_bytes w64 f.file_info_offset
    ++ (to_le_bytes w64 f.xorb_info_offset
    ++ (to_le_bytes w64 f.file_lookup_offset
    ++ (to_le_bytes w64 f.file_lookup_num_entry
    ++ (to_le_bytes w64 f.xorb_lookup_offset
    ++ (to_le_bytes w64 f.xorb_lookup_num_entry
    ++ (to_le_bytes w64 f.chunk_lookup_offset
    ++ (to_le_bytes w64 f.chunk_lookup_num_entry
    ++ (f.chunk_hash_hmac_key
    ++ (to_le_bytes w64 f.shard_creation_timestamp
    ++ (to_le_bytes w64 f.shard_key_expiry
    ++ (replicate 48 0
    ++ (to_le_bytes w64 f.stored_bytes_on_disk
    ++ (to_le_bytes w64 f.materialized_bytes
    ++ (to_le_bytes w64 f.stored_bytes ++ to_le_bytes w64 f.footer_offset)))))))))))))))

-- the uncompressed bytes of all segments of the files, and of all chunks of the xorbs
abbrev pub materialized : List MDBFileInfo → ℕ
materialized files = sum_by (λ f. segment_bytes f.segments) files

abbrev pub stored : List MDBXorbInfo → ℕ
stored blocks = sum_by (λ x. x.metadata.num_bytes_in_xorb) blocks

-- the footer of a shard with these numbers of rows and of lookup items
abbrev pub footer_with : ℕ → ℕ → ℕ → ℕ → ℕ → List ℕ → ℕ → ℕ → ℕ → ℕ → MDBShardFileFooter
footer_with file_rows xorb_rows file_items xorb_items chunk_items key creation expiry bytes stored_bytes = record {
  version = 1;
  file_info_offset = 48;
  xorb_info_offset = 48 + 48 * file_rows;
  file_lookup_offset = 48 + 48 * file_rows + 48 * xorb_rows;
  file_lookup_num_entry = file_items;
  xorb_lookup_offset = 48 + 48 * file_rows + 48 * xorb_rows + 12 * file_items;
  xorb_lookup_num_entry = xorb_items;
  chunk_lookup_offset = 48 + 48 * file_rows + 48 * xorb_rows + 12 * file_items + 12 * xorb_items;
  chunk_lookup_num_entry = chunk_items;
  chunk_hash_hmac_key = key;
  shard_creation_timestamp = creation;
  shard_key_expiry = expiry;
  stored_bytes_on_disk = 0;
  materialized_bytes = bytes;
  stored_bytes = stored_bytes;
  footer_offset = 48 + 48 * file_rows + 48 * xorb_rows + 12 * file_items + 12 * xorb_items + 16 * chunk_items;
}

-- ---- a shard

-- the contents of a shard
pub record Shard : Type 0 where
  pub blocks : List MDBXorbInfo
  pub files : List MDBFileInfo
  pub key : List ℕ
  pub creation : ℕ
  pub expiry : ℕ

abbrev pub shard : List MDBXorbInfo → List MDBFileInfo → List ℕ → ℕ → ℕ → Shard
shard blocks files key creation expiry = record { blocks = blocks; files = files; key = key; creation = creation; expiry = expiry }

unfoldable pub footer_of : Lookups → Shard → MDBShardFileFooter
footer_of w s = footer_with (length (file_section s.files)) (length (xorb_section s.blocks))
    (length (left_in w.files (file_items s.files))) (length (left_in w.xorbs (xorb_items s.blocks))) (length (left_in w.chunks (chunk_items s.blocks)))
    s.key s.creation s.expiry (materialized s.files) (stored s.blocks)

unfoldable pub shard_bytes : Lookups → Shard → List ℕ
shard_bytes w s =
    shard_header_bytes header
    ++ (rows_bytes (file_section s.files)
    ++ (rows_bytes (xorb_section s.blocks)
    ++ (record_items_bytes (left_in w.files (file_items s.files))
    ++ (record_items_bytes (left_in w.xorbs (xorb_items s.blocks))
    ++ (chunk_items_bytes (left_in w.chunks (chunk_items s.blocks))
    ++ shard_footer_bytes (footer_of w s))))))

abbrev pub full_shard_bytes : Shard → List ℕ
full_shard_bytes s = shard_bytes all_lookups s

-- A shard is well formed: its records are, their hashes ascend, and each section has fewer than 2 ^ 32 rows.
pub record IsShard (s : Shard) : Type 0 where
  pub files : AreRecords file_record_hash IsFile None s.files
  pub blocks : AreRecords xorb_record_hash IsXorb None s.blocks
  pub few_files : length (file_section s.files) < 2 ^ 32
  pub few_blocks : length (xorb_section s.blocks) < 2 ^ 32

-- The contents of a shard fit in their bytes.
pub record Fits (s : Shard) : Type 0 where
  pub files : AllByRecursion RowFits (file_section s.files)
  pub blocks : AllByRecursion RowFits (xorb_section s.blocks)
  pub key : IsHashBytes s.key
  pub creation : s.creation < 2 ^ 64
  pub expiry : s.expiry < 2 ^ 64

-- The bytes are the encoding of a well-formed shard, in which each lookup table is complete or omitted.
pub record IsShardEncoding (bytes : List ℕ) (s : Shard) : Type 0 where
  pub shard : IsShard s
  pub fits : Fits s
  pub lookups : Lookups
  pub encoding : bytes ≡ shard_bytes lookups s
