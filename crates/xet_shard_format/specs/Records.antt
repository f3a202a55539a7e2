-- The rows of file and xorb records, and when a record is well formed.
use Rattle.std.specs.Prelude.{◌≡◌, ◌≢◌, ℕ, ◌+◌, ◌^◌, Bool, true, false, List, [], ◌∷◌, ◌++◌, length, map, Option, Some, None, is_some, if◌then◌else◌}
use Rattle.std.specs.List.{flat_map, AllByRecursion, sum_by}
use Rattle.std.specs.Ordering.{is_lt}
use Rattle.xet_hash.specs.Hash.{hash_word, sentinel}
use Rattle.xet_hash.specs.Order.{hash_cmp}
use Rattle.xet_shard_format.specs.declared.row.Row.{Row}
use Rattle.xet_shard_format.specs.declared.record.FileDataSequenceEntry.{FileDataSequenceEntry}
use Rattle.xet_shard_format.specs.declared.record.FileVerificationEntry.{FileVerificationEntry}
use Rattle.xet_shard_format.specs.declared.record.FileMetadataExt.{FileMetadataExt}
use Rattle.xet_shard_format.specs.declared.record.XorbChunkSequenceEntry.{XorbChunkSequenceEntry}
use Rattle.xet_shard_format.specs.declared.record.MDBFileInfo.{MDBFileInfo}
use Rattle.xet_shard_format.specs.declared.record.MDBXorbInfo.{MDBXorbInfo}
use Rattle.xet_shard_format.specs.Rows.{row}

-- ---- files

abbrev pub file_record_hash : MDBFileInfo → List ℕ
file_record_hash f = f.metadata.file_hash

abbrev pub file_head : MDBFileInfo → Row
file_head f = row f.metadata.file_hash f.metadata.file_flags f.metadata.num_entries 0 0

abbrev pub segment_row : FileDataSequenceEntry → Row
segment_row s = row s.xorb_hash s.xorb_flags s.unpacked_segment_bytes s.chunk_index_start s.chunk_index_end

abbrev pub verification_row : FileVerificationEntry → Row
verification_row v = row v.range_hash 0 0 0 0

abbrev pub ext_rows : Option FileMetadataExt → List Row
ext_rows None = []
ext_rows (Some m) = row m.sha256 0 0 0 0 ∷ []

-- the rows after the header
abbrev pub file_rest : MDBFileInfo → List Row
file_rest f = map segment_row f.segments ++ (map verification_row f.verification ++ ext_rows f.metadata_ext)

abbrev pub file_rows : MDBFileInfo → List Row
file_rows f = file_head f ∷ file_rest f

-- Bit 31: each segment has a verification row. Bit 30: there is a metadata row.
abbrev pub flags_of : Bool → Bool → ℕ
flags_of false false = 0
flags_of false true = 2 ^ 30
flags_of true false = 2 ^ 31
flags_of true true = 2 ^ 31 + 2 ^ 30

-- A file record is well formed: its counts and flags are those of its rows.
pub record IsFile (f : MDBFileInfo) : Type 0 where
  pub counted : f.metadata.num_entries ≡ length f.segments
  pub plain : AllByRecursion (λ s. s.xorb_flags ≡ 0) f.segments
  pub verified : Bool
  pub verifications : length f.verification ≡ (if verified then length f.segments else 0)
  pub flags : f.metadata.file_flags ≡ flags_of verified (is_some f.metadata_ext)

abbrev pub segment_bytes : List FileDataSequenceEntry → ℕ
segment_bytes segments = sum_by (λ s. s.unpacked_segment_bytes) segments

-- ---- xorbs

abbrev pub xorb_record_hash : MDBXorbInfo → List ℕ
xorb_record_hash x = x.metadata.xorb_hash

abbrev pub xorb_head : MDBXorbInfo → Row
xorb_head x = row x.metadata.xorb_hash x.metadata.xorb_flags x.metadata.num_entries x.metadata.num_bytes_in_xorb x.metadata.num_bytes_on_disk

abbrev pub chunk_row : XorbChunkSequenceEntry → Row
chunk_row c = row c.chunk_hash c.chunk_byte_range_start c.unpacked_segment_bytes 0 0

abbrev pub xorb_rest : MDBXorbInfo → List Row
xorb_rest x = map chunk_row x.chunks

abbrev pub xorb_rows : MDBXorbInfo → List Row
xorb_rows x = xorb_head x ∷ xorb_rest x

-- each chunk starts where the one before ends
abbrev pub StartAt : ℕ → List XorbChunkSequenceEntry → Type 0
StartAt at [] = Unit {0}
StartAt at (c ∷ cs) = (c.chunk_byte_range_start ≡ at) × StartAt (at + c.unpacked_segment_bytes) cs

abbrev pub chunk_bytes : List XorbChunkSequenceEntry → ℕ
chunk_bytes chunks = sum_by (λ c. c.unpacked_segment_bytes) chunks

-- A xorb record is well formed: its counts and totals are those of its chunks.
pub record IsXorb (x : MDBXorbInfo) : Type 0 where
  pub counted : x.metadata.num_entries ≡ length x.chunks
  pub plain : x.metadata.xorb_flags ≡ 0
  pub starts : StartAt 0 x.chunks
  pub total : x.metadata.num_bytes_in_xorb ≡ chunk_bytes x.chunks
  pub on_disk : x.metadata.num_bytes_on_disk ≡ 0

-- ---- sections

-- the end row of a section; its hash is the sentinel, which is the hash of no record
abbrev pub end_row : Row
end_row = row sentinel 0 0 0 0

abbrev pub section : {X : Type 0} → (X → List Row) → List X → List Row
section rows xs = flat_map rows xs ++ end_row ∷ []

abbrev pub file_section : List MDBFileInfo → List Row
file_section files = section file_rows files

abbrev pub xorb_section : List MDBXorbInfo → List Row
xorb_section blocks = section xorb_rows blocks

-- whether a hash is above that of the record before, if there is one
abbrev pub is_after : Option (List ℕ) → List ℕ → Bool
is_after None hash = true
is_after (Some last) hash = is_lt (hash_cmp last hash)

-- The hashes ascend, none of them is the sentinel, and each record is well formed.
abbrev pub AreRecords : {X : Type 0} → (X → List ℕ) → (X → Type 0) → Option (List ℕ) → List X → Type 0
AreRecords hash Form last [] = Unit {0}
AreRecords hash Form last (x ∷ xs) = (is_after last (hash x) ≡ true) × (hash x ≢ sentinel) × Form x × AreRecords hash Form (Some (hash x)) xs

-- the first word of a hash, by which lookup tables are searched
abbrev pub first_word : List ℕ → ℕ
first_word h = hash_word h 0
