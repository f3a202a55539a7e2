-- How many bytes the text of a shard has.
use Rattle.std.proofs.Common.{◌≡◌, ℕ, ◌+◌, ◌*◌, List, [], ◌∷◌, ◌++◌, length, Option, arith, length-append}
use Rattle.std.specs.List.{sum_by}
use Rattle.std.proofs.lemmas.List.{length-map}
use Rattle.std.proofs.lemmas.List.Sums.{sum_by-cons}
use Rattle.xet_shard_format.specs.declared.record.MDBFileInfo.{MDBFileInfo}
use Rattle.xet_shard_format.specs.declared.record.MDBXorbInfo.{MDBXorbInfo}
use Rattle.xet_shard.specs.Held.{Held, by_hash, held_shard, held_size}
use Rattle.xet_shard_format.specs.RecordSizes.{file_record_size, xorb_record_size}
use Rattle.xet_shard_format.specs.Lookups.{all_lookups, chunk_items, chunks_from, file_items, record_item_bytes, record_items_bytes, chunk_item_bytes, chunk_items_bytes, xorb_items}
use Rattle.xet_shard_format.specs.Records.{chunk_row, file_record_hash, file_rows, file_section, xorb_record_hash, xorb_rows, xorb_section}
use Rattle.xet_shard_format.specs.Rows.{rows_bytes}
use Rattle.xet_shard_format.specs.Encoding.{Fits, Shard, footer_of, shard_footer_bytes, full_shard_bytes, shard_bytes}
use Rattle.xet_hash.specs.Order.{hash_cmp}
use Rattle.xet_shard_format.specs.theorems.Bytes.{length-rows_bytes}
use Rattle.xet_shard_format.specs.theorems.Counts.{chunk_count, chunks_in, length-heads_from, length-section}
use Rattle.xet_shard_format.specs.theorems.Footers.{length-footer_bytes}
use Rattle.xet_shard.proofs.Rising.{rows_sorted}
use Rattle.xet_shard_format.specs.theorems.Sorting.{length-sorted}
use Rattle.xet_shard_format.specs.theorems.WholeTaken.{head_len, length-items_encoding, place_len}

-- header and footer, 48 bytes a row, and 12 or 16 an item
length-full_shard_bytes : (s : Shard) → Fits s
    → length (full_shard_bytes s) ≡ 248 + 48 * length (file_section s.files) + 48 * length (xorb_section s.blocks) + 12 * length s.files + 12 * length s.blocks + 16 * length (chunk_items s.blocks)
unfolding shard_bytes footer_of
length-full_shard_bytes s fits =
    let footer : List ℕ = shard_footer_bytes (footer_of all_lookups s) in
    let chunks : List ℕ = chunk_items_bytes (chunk_items s.blocks) in
    let xorbs : List ℕ = record_items_bytes (xorb_items s.blocks) in
    let files : List ℕ = record_items_bytes (file_items s.files) in
    let blocks : List ℕ = rows_bytes (xorb_section s.blocks) in
    omega (
      arith,
      length-append (rows_bytes (file_section s.files)) (blocks ++ (files ++ (xorbs ++ (chunks ++ footer)))),
      length-append blocks (files ++ (xorbs ++ (chunks ++ footer))),
      length-append files (xorbs ++ (chunks ++ footer)),
      length-append xorbs (chunks ++ footer),
      length-append chunks footer,
      length-rows_bytes (file_section s.files) fits.files,
      length-rows_bytes (xorb_section s.blocks) fits.blocks,
      length-items_encoding record_item_bytes 12 head_len (file_items s.files),
      length-items_encoding record_item_bytes 12 head_len (xorb_items s.blocks),
      length-items_encoding chunk_item_bytes 16 place_len (chunk_items s.blocks),
      length-heads_from file_record_hash file_rows 0 s.files,
      length-heads_from xorb_record_hash xorb_rows 0 s.blocks,
      length-footer_bytes (footer_of all_lookups s) fits.key.0,
    )

-- the rows and the items of records, and the row at the end
files_size : (files : List MDBFileInfo) → 48 * length (file_section files) + 12 * length files ≡ 48 + sum_by file_record_size files
files_size [] = omega arith
files_size (f ∷ files) = omega (arith, length-section file_rows f files, sum_by-cons file_record_size f files, files_size files)

blocks_size : (at : ℕ) (blocks : List MDBXorbInfo) → 48 * length (xorb_section blocks) + 12 * length blocks + 16 * length (chunks_from at blocks) ≡ 48 + sum_by xorb_record_size blocks
blocks_size at [] = omega (arith, chunks_in at [])
blocks_size at (x ∷ xs) =
    let next : ℕ = at + length (xorb_rows x) in
    omega (arith, chunks_in at (x ∷ xs), chunks_in next xs, length-section xorb_rows x xs, length-map x.chunks chunk_row, sum_by-cons xorb_record_size x xs, blocks_size next xs)

pub held_length : (h : Held) (creation : ℕ) (expiry : Option ℕ) → Fits (held_shard h creation expiry) → length (full_shard_bytes (held_shard h creation expiry)) ≡ held_size h
held_length h creation expiry fits =
    let blocks : List MDBXorbInfo = by_hash xorb_record_hash h.blocks in
    let xorb_order = λ (x y : MDBXorbInfo). hash_cmp (xorb_record_hash x) (xorb_record_hash y) in
    let file_order = λ (x y : MDBFileInfo). hash_cmp (file_record_hash x) (file_record_hash y) in
    omega (
      arith,
      length-full_shard_bytes (held_shard h creation expiry) fits,
      rows_sorted file_order file_rows h.files,
      rows_sorted xorb_order xorb_rows h.blocks,
      length-sorted file_order h.files,
      length-sorted xorb_order h.blocks,
      chunk_count blocks,
      chunks_in 0 h.blocks,
      files_size h.files,
      blocks_size 0 h.blocks,
    )
