-- Decoding of a shard, with the first check that fails: header, footer, files, xorbs, lookup tables, totals.
use Rattle.std.specs.Prelude.{◌≡◌, ℕ, zero, suc, ◌+◌, ◌-◌, ◌*◌, ◌/◌, ◌%◌, ◌^◌, ◌<◌, Bool, true, false, List, [], ◌∷◌, length, take, drop, replicate, Option, Some, None, Result, Ok, Err, nat_lt, nat_le, nat_eq, ◌==◌, if◌then◌else◌}
use Rattle.std.specs.Cmp.Lexicographic.{pointwise}
use Rattle.xet_hash.specs.declared.error.Place.TheVariants.{Input}
use Rattle.xet_hash.specs.declared.error.Reason.TheVariants.{Tag, ShardVersion, FooterSize, SectionPlace, SectionEntry, SectionOrder, Lookup, Totals}
use Rattle.xet_hash.specs.declared.error.StoreError.{StoreError}
use Rattle.xet_hash.specs.declared.error.StoreError.TheVariants.{Io, UnexpectedEof, OutOfMemory, MalformedData}
use Rattle.xet_shard_format.specs.declared.row.Row.{Row}
use Rattle.xet_shard_format.specs.declared.record.FileDataSequenceEntry.{FileDataSequenceEntry}
use Rattle.xet_shard_format.specs.declared.record.FileVerificationEntry.{FileVerificationEntry}
use Rattle.xet_shard_format.specs.declared.record.FileMetadataExt.{FileMetadataExt}
use Rattle.xet_shard_format.specs.declared.record.XorbChunkSequenceEntry.{XorbChunkSequenceEntry}
use Rattle.xet_shard_format.specs.declared.record.MDBFileInfo.{MDBFileInfo}
use Rattle.xet_shard_format.specs.declared.record.MDBXorbInfo.{MDBXorbInfo}
use Rattle.xet_shard_format.specs.declared.header_footer.MDBShardFileFooter.{MDBShardFileFooter}
use Rattle.xet_shard_format.specs.Rows.{rows_in}
use Rattle.xet_codec.specs.Numbers.{word}
use Rattle.xet_hash.specs.Hash.{sentinel}
use Rattle.xet_shard_format.specs.Records.{file_record_hash, flags_of, is_after, xorb_record_hash}
use Rattle.xet_shard_format.specs.Lookups.{Lookups, chunk_items, file_items, record_items_bytes, chunk_items_bytes, xorb_items}
use Rattle.xet_shard_format.specs.Encoding.{Fits, IsShard, Shard, footer_of, materialized, shard_bytes, stored, tag}
use Rattle.xet_codec.specs.Parsing.{reaches, wants, ◌>>=◌}

-- the errors of reading a shard
abbrev pub IsShardError : StoreError → Type 0
IsShardError OutOfMemory = Unit {0}
IsShardError UnexpectedEof = Unit {0}
IsShardError (MalformedData reason) = Unit {0}
IsShardError (Io place) = place ≡ Input
IsShardError e = ⊥

-- ---- rows

abbrev pub row_at : List Row → Result (Row × List Row) StoreError
row_at [] = Err (MalformedData SectionPlace)
row_at (r ∷ rows) = Ok (r, rows)

-- n values, read one after the other
unfoldable pub times_rows : {X : Type 0} → (List Row → Result (X × List Row) StoreError) → ℕ → List Row → Result (List X × List Row) StoreError
times_rows read zero rows = Ok ([], rows)
times_rows read (suc n) rows = do
  x ← read rows
  xs ← times_rows read n x.1
  Ok (x.0 ∷ xs.0, xs.1)

unfoldable pub segment_at : List Row → Result (FileDataSequenceEntry × List Row) StoreError
segment_at rows = do
  r ← row_at rows
  _ ← wants (r.0.a == 0) SectionEntry
  Ok (record { xorb_hash = r.0.hash; xorb_flags = r.0.a; unpacked_segment_bytes = r.0.b; chunk_index_start = r.0.c; chunk_index_end = r.0.d }, r.1)

-- the hash of a row whose four numbers must be 0
unfoldable pub hash_in : Row → Result (List ℕ) StoreError
hash_in r = do
  _ ← wants (r.a == 0) SectionEntry
  _ ← wants (r.b == 0) SectionEntry
  _ ← wants (r.c == 0) SectionEntry
  _ ← wants (r.d == 0) SectionEntry
  Ok r.hash

unfoldable pub hash_row_at : List Row → Result (List ℕ × List Row) StoreError
hash_row_at rows = do
  r ← row_at rows
  h ← hash_in r.0
  Ok (h, r.1)

unfoldable pub verification_at : List Row → Result (FileVerificationEntry × List Row) StoreError
verification_at rows = do
  h ← hash_row_at rows
  Ok (record { range_hash = h.0 }, h.1)

unfoldable pub ext_at : Bool → List Row → Result (Option FileMetadataExt × List Row) StoreError
ext_at false rows = Ok (None, rows)
ext_at true rows = do
  h ← hash_row_at rows
  Ok (Some (record { sha256 = h.0 }), h.1)

-- bits 31 and 30 of a number below 2 ^ 32
abbrev pub is_verified : ℕ → Bool
is_verified flags = nat_le (2 ^ 31) flags

abbrev pub has_ext : ℕ → Bool
has_ext flags = nat_le (2 ^ 30) (flags % 2 ^ 31)

-- the number of rows of a file record after its header
abbrev pub rows_after_file : Row → ℕ
rows_after_file head = head.b + ((if is_verified head.a then head.b else 0) + (if has_ext head.a then 1 else 0))

-- A record lies within its section: at least `count` rows are left.
abbrev pub has_rows : ℕ → List Row → Result (Unit {0}) StoreError
has_rows count rows = wants (nat_le count (length rows)) SectionPlace

-- The file record whose header row was read. The checks: its rows lie within the section; then its header;
-- then each entry, in order.
unfoldable pub file_record_at : Row → List Row → Result (MDBFileInfo × List Row) StoreError
file_record_at head rows = do
  _ ← has_rows (rows_after_file head) rows
  _ ← wants (head.a == flags_of (is_verified head.a) (has_ext head.a)) SectionEntry
  _ ← wants (head.c == 0) SectionEntry
  _ ← wants (head.d == 0) SectionEntry
  segments ← times_rows segment_at head.b rows
  verification ← times_rows verification_at (if is_verified head.a then head.b else 0) segments.1
  ext ← ext_at (has_ext head.a) verification.1
  Ok (record { metadata = record { file_hash = head.hash; file_flags = head.a; num_entries = head.b }; segments = segments.0; verification = verification.0; metadata_ext = ext.0 }, ext.1)

-- the chunk in a row, before which there must be `at` bytes in its xorb
unfoldable pub chunk_in : Row → ℕ → Result XorbChunkSequenceEntry StoreError
chunk_in r at = do
  _ ← wants (r.a == at) SectionEntry
  _ ← wants (r.c == 0) SectionEntry
  _ ← wants (r.d == 0) SectionEntry
  Ok (record { chunk_hash = r.hash; chunk_byte_range_start = r.a; unpacked_segment_bytes = r.b })

-- n chunks, the first of which starts at offset `at`, and the offset at which the last one ends
unfoldable pub chunks_at : ℕ → ℕ → List Row → Result (List XorbChunkSequenceEntry × ℕ × List Row) StoreError
chunks_at zero at rows = Ok ([], at, rows)
chunks_at (suc n) at rows = do
  r ← row_at rows
  c ← chunk_in r.0 at
  cs ← chunks_at n (r.0.a + r.0.b) r.1
  Ok (c ∷ cs.0, cs.1, cs.2)

-- The xorb record whose header row was read, by the same checks. Its total is checked after its chunks.
unfoldable pub xorb_at : Row → List Row → Result (MDBXorbInfo × List Row) StoreError
xorb_at head rows = do
  _ ← has_rows head.b rows
  _ ← wants (head.a == 0) SectionEntry
  _ ← wants (head.d == 0) SectionEntry
  chunks ← chunks_at head.b 0 rows
  _ ← wants (chunks.1 == head.c) SectionEntry
  Ok (record { metadata = record { xorb_hash = head.hash; xorb_flags = head.a; num_entries = head.b; num_bytes_in_xorb = head.c; num_bytes_on_disk = head.d }; chunks = chunks.0 }, chunks.2)

-- the end row, which no row follows
unfoldable pub end_at : Row → List Row → Result (Unit {0}) StoreError
end_at r rows = do
  _ ← hash_in r
  wants (length rows == 0) SectionPlace

-- The next record; none at the end row. Its hash must be above that of the record before, which is checked
-- after all else in the record.
unfoldable pub step_at : {X : Type 0} → (Row → List Row → Result (X × List Row) StoreError) → Option (List ℕ) → List Row → Result (Option X × List Row) StoreError
step_at record_at last rows = do
  r ← row_at rows
  if pointwise nat_eq r.0.hash sentinel then (end_at r.0 r.1 >>= λ _. Ok (None, r.1)) else (record_at r.0 r.1 >>= λ x. wants (is_after last r.0.hash) SectionOrder >>= λ _. Ok (Some x.0, x.1))

-- the records up to the end row, which must come within n steps
unfoldable pub section_at : {X : Type 0} → (Row → List Row → Result (X × List Row) StoreError) → (X → List ℕ) → ℕ → Option (List ℕ) → List Row → Result (List X) StoreError
section_at record_at hash zero last rows = Err (MalformedData SectionPlace)
section_at record_at hash (suc n) last rows = do
  x ← step_at record_at last rows
  elim (x.0) [ None ↦ Ok [] | Some y ↦ section_at record_at hash n (Some (hash y)) x.1 >>= λ ys. Ok (y ∷ ys) ]

-- ---- header and footer

unfoldable pub shard_header_at : List ℕ → Result (Unit {0}) StoreError
shard_header_at bytes = do
  _ ← reaches (nat_le 32 (length bytes))
  _ ← wants (pointwise nat_eq (take 32 bytes) tag) Tag
  _ ← reaches (nat_le 40 (length bytes))
  _ ← wants (word bytes 32 == 2) ShardVersion
  _ ← reaches (nat_le 48 (length bytes))
  _ ← wants (word bytes 40 == 200) FooterSize
  reaches (nat_le 248 (length bytes))

-- the fields of a footer of 200 bytes
unfoldable pub footer_in : List ℕ → MDBShardFileFooter
footer_in bytes = record {
  version = word bytes 0;
  file_info_offset = word bytes 8;
  xorb_info_offset = word bytes 16;
  file_lookup_offset = word bytes 24;
  file_lookup_num_entry = word bytes 32;
  xorb_lookup_offset = word bytes 40;
  xorb_lookup_num_entry = word bytes 48;
  chunk_lookup_offset = word bytes 56;
  chunk_lookup_num_entry = word bytes 64;
  chunk_hash_hmac_key = take 32 (drop 72 bytes);
  shard_creation_timestamp = word bytes 104;
  shard_key_expiry = word bytes 112;
  stored_bytes_on_disk = word bytes 168;
  materialized_bytes = word bytes 176;
  stored_bytes = word bytes 184;
  footer_offset = word bytes 192;
}

abbrev pub file_row_count : MDBShardFileFooter → ℕ
file_row_count f = (f.xorb_info_offset - f.file_info_offset) / 48

abbrev pub xorb_row_count : MDBShardFileFooter → ℕ
xorb_row_count f = (f.file_lookup_offset - f.xorb_info_offset) / 48

-- The parts have no gaps, and the footer ends the bytes. A section has 1 to 2 ^ 32 - 1 rows.
unfoldable pub places_at : ℕ → MDBShardFileFooter → Result (Unit {0}) StoreError
places_at len f = do
  _ ← wants (f.file_info_offset == 48) SectionPlace
  _ ← wants (f.xorb_info_offset == f.file_info_offset + 48 * file_row_count f) SectionPlace
  _ ← wants (nat_lt 0 (file_row_count f)) SectionPlace
  _ ← wants (nat_lt (file_row_count f) (2 ^ 32)) SectionPlace
  _ ← wants (f.file_lookup_offset == f.xorb_info_offset + 48 * xorb_row_count f) SectionPlace
  _ ← wants (nat_lt 0 (xorb_row_count f)) SectionPlace
  _ ← wants (nat_lt (xorb_row_count f) (2 ^ 32)) SectionPlace
  _ ← wants (f.xorb_lookup_offset == f.file_lookup_offset + 12 * f.file_lookup_num_entry) SectionPlace
  _ ← wants (f.chunk_lookup_offset == f.xorb_lookup_offset + 12 * f.xorb_lookup_num_entry) SectionPlace
  _ ← wants (f.footer_offset == f.chunk_lookup_offset + 16 * f.chunk_lookup_num_entry) SectionPlace
  wants (len == f.footer_offset + 200) SectionPlace

-- the offsets of a footer that passes these checks
pub record IsPlaced (len : ℕ) (f : MDBShardFileFooter) : Type 0 where
  pub files : f.file_info_offset ≡ 48
  pub xorbs : f.xorb_info_offset ≡ f.file_info_offset + 48 * file_row_count f
  pub some_files : 0 < file_row_count f
  pub few_files : file_row_count f < 2 ^ 32
  pub file_lookup : f.file_lookup_offset ≡ f.xorb_info_offset + 48 * xorb_row_count f
  pub some_xorbs : 0 < xorb_row_count f
  pub few_xorbs : xorb_row_count f < 2 ^ 32
  pub xorb_lookup : f.xorb_lookup_offset ≡ f.file_lookup_offset + 12 * f.file_lookup_num_entry
  pub chunk_lookup : f.chunk_lookup_offset ≡ f.xorb_lookup_offset + 12 * f.xorb_lookup_num_entry
  pub footer : f.footer_offset ≡ f.chunk_lookup_offset + 16 * f.chunk_lookup_num_entry
  pub end : len ≡ f.footer_offset + 200

unfoldable pub shard_footer_at : List ℕ → Result MDBShardFileFooter StoreError
shard_footer_at bytes = do
  let end = drop (length bytes - 200) bytes
  _ ← wants (word end 0 == 1) ShardVersion
  _ ← wants (pointwise nat_eq (take 48 (drop 120 end)) (replicate 48 0)) SectionPlace
  _ ← places_at (length bytes) (footer_in end)
  Ok (footer_in end)

-- the footer, after the checks of the header
abbrev pub ends_of : List ℕ → Result MDBShardFileFooter StoreError
ends_of bytes = shard_header_at bytes >>= λ _. shard_footer_at bytes

-- ---- lookup tables and totals

-- A lookup table, `len` bytes at offset `at`, is omitted, or it has the bytes `encoding`.
unfoldable pub lookup_at : List ℕ → ℕ → ℕ → List ℕ → Result (Unit {0}) StoreError
lookup_at bytes at len encoding = if len == 0 then Ok tt else wants (pointwise nat_eq (take len (drop at bytes)) encoding) Lookup

unfoldable pub totals_at : MDBShardFileFooter → ℕ → ℕ → Result (Unit {0}) StoreError
totals_at f bytes stored_bytes = do
  _ ← wants (f.stored_bytes_on_disk == 0) Totals
  _ ← wants (f.materialized_bytes == bytes) Totals
  wants (f.stored_bytes == stored_bytes) Totals

-- ---- a shard

abbrev pub ShardParts : Type 0
ShardParts = List MDBXorbInfo × List MDBFileInfo × MDBShardFileFooter

unfoldable pub all_of : List ℕ → Result ShardParts StoreError
all_of bytes = do
  _ ← shard_header_at bytes
  f ← shard_footer_at bytes
  files ← section_at file_record_at file_record_hash (file_row_count f) None (rows_in (file_row_count f) (drop f.file_info_offset bytes))
  blocks ← section_at xorb_at xorb_record_hash (xorb_row_count f) None (rows_in (xorb_row_count f) (drop f.xorb_info_offset bytes))
  _ ← lookup_at bytes f.file_lookup_offset (12 * f.file_lookup_num_entry) (record_items_bytes (file_items files))
  _ ← lookup_at bytes f.xorb_lookup_offset (12 * f.xorb_lookup_num_entry) (record_items_bytes (xorb_items blocks))
  _ ← lookup_at bytes f.chunk_lookup_offset (16 * f.chunk_lookup_num_entry) (chunk_items_bytes (chunk_items blocks))
  _ ← totals_at f (materialized files) (stored blocks)
  Ok (blocks, files, f)

abbrev pub shard_of : ShardParts → Shard
shard_of p = record { blocks = p.0; files = p.1; key = p.2.chunk_hash_hmac_key; creation = p.2.shard_creation_timestamp; expiry = p.2.shard_key_expiry }

-- What was read is a well-formed shard with its footer, and the bytes are its encoding.
pub record IsRead (bytes : List ℕ) (p : ShardParts) : Type 0 where
  pub shard : IsShard (shard_of p)
  pub fits : Fits (shard_of p)
  pub lookups : Lookups
  pub encoding : bytes ≡ shard_bytes lookups (shard_of p)
  pub footer : p.2 ≡ footer_of lookups (shard_of p)

-- what is read of the encoding of a shard
abbrev pub shard_parts_of : Lookups → Shard → ShardParts
shard_parts_of w s = (s.blocks, s.files, footer_of w s)
