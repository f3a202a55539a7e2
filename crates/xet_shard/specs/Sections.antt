-- The parts of a shard, each read on its own at the offset in a footer, with the first check that fails.
use Rattle.std.specs.Prelude.{◌≡◌, ℕ, zero, suc, ◌+◌, ◌-◌, ◌*◌, ◌/◌, ◌^◌, ◌==◌, nat_le, nat_lt, List, [], ◌∷◌, length, drop, Option, Some, None, Result, Ok, if◌then◌else◌}
use Rattle.xet_hash.specs.declared.error.Reason.TheVariants.{SectionPlace}
use Rattle.xet_hash.specs.declared.error.StoreError.{StoreError}
use Rattle.xet_hash.specs.Hash.{zero_hash}
use Rattle.xet_shard_format.specs.declared.header_footer.MDBShardFileFooter.{MDBShardFileFooter}
use Rattle.xet_shard.specs.declared.info.MDBShardInfo.{MDBShardInfo}
use Rattle.xet_shard_format.specs.declared.record.MDBFileInfo.{MDBFileInfo}
use Rattle.xet_shard_format.specs.declared.record.MDBXorbInfo.{MDBXorbInfo}
use Rattle.xet_shard_format.specs.declared.record.XorbChunkSequenceHeader.{XorbChunkSequenceHeader}
use Rattle.xet_shard_format.specs.declared.row.Row.{Row}
use Rattle.xet_shard_format.specs.Lookups.{chunk_items, xorb_items}
use Rattle.xet_codec.specs.Parsing.{◌>>=◌, reaches, wants}
use Rattle.xet_shard_format.specs.Reading.{file_record_at, shard_footer_at, shard_header_at, section_at, xorb_at}
use Rattle.xet_shard_format.specs.Records.{file_record_hash, xorb_record_hash, xorb_rows}
use Rattle.xet_codec.specs.Numbers.{half_word, word}
use Rattle.xet_shard_format.specs.Rows.{rows_in}
use Rattle.xet_shard_format.specs.Encoding.{header}

-- header and footer
unfoldable pub info_at : List ℕ → Result MDBShardInfo StoreError
info_at bytes = do
  _ ← shard_header_at bytes
  f ← shard_footer_at bytes
  Ok (record { header = header; metadata = f })

-- the records of the section of `count` rows at offset `at`
unfoldable pub section_in : {X : Type 0} → (Row → List Row → Result (X × List Row) StoreError) → (X → List ℕ) → ℕ → ℕ → List ℕ → Result (List X) StoreError
section_in record_at hash at count bytes = do
  _ ← wants (nat_lt count (2 ^ 32)) SectionPlace
  _ ← reaches (nat_le (at + 48 * count) (length bytes))
  section_at record_at hash count None (rows_in count (drop at bytes))

-- the number of rows from one offset to another, which must be whole
unfoldable pub row_count : ℕ → ℕ → Result ℕ StoreError
row_count from to = do
  _ ← wants (to == from + 48 * ((to - from) / 48)) SectionPlace
  Ok ((to - from) / 48)

abbrev pub files_in : MDBShardFileFooter → List ℕ → Result (List MDBFileInfo) StoreError
files_in f bytes = row_count f.file_info_offset f.xorb_info_offset >>= λ count. section_in file_record_at file_record_hash f.file_info_offset count bytes

abbrev pub blocks_in : MDBShardFileFooter → List ℕ → Result (List MDBXorbInfo) StoreError
blocks_in f bytes = row_count f.xorb_info_offset f.file_lookup_offset >>= λ count. section_in xorb_at xorb_record_hash f.xorb_info_offset count bytes

-- the header of each xorb, with its row
unfoldable pub heads_of : ℕ → List MDBXorbInfo → List (XorbChunkSequenceHeader × ℕ)
heads_of at [] = []
heads_of at (x ∷ xs) = (x.metadata, at) ∷ heads_of (at + length (xorb_rows x)) xs

unfoldable pub block_heads_in : MDBShardFileFooter → List ℕ → Result (List (XorbChunkSequenceHeader × ℕ)) StoreError
block_heads_in f bytes = blocks_in f bytes >>= λ blocks. Ok (heads_of 0 blocks)

-- n items of a lookup table, of 12 bytes or of 16
unfoldable pub heads_in : ℕ → List ℕ → List (ℕ × ℕ)
heads_in zero bytes = []
heads_in (suc n) bytes = (word bytes 0, half_word bytes 8) ∷ heads_in n (drop 12 bytes)

unfoldable pub places_in : ℕ → List ℕ → List (ℕ × ℕ × ℕ)
places_in zero bytes = []
places_in (suc n) bytes = (word bytes 0, half_word bytes 8, half_word bytes 12) ∷ places_in n (drop 16 bytes)

-- the xorb and the chunk lookup table; an omitted table is made from the xorbs
unfoldable pub xorb_lookup_in : MDBShardFileFooter → List ℕ → Result (List (ℕ × ℕ)) StoreError
xorb_lookup_in f bytes =
    if f.xorb_lookup_num_entry == 0 then (blocks_in f bytes >>= λ blocks. Ok (xorb_items blocks))
    else reaches (nat_le (f.xorb_lookup_offset + 12 * f.xorb_lookup_num_entry) (length bytes)) >>= λ _. Ok (heads_in f.xorb_lookup_num_entry (drop f.xorb_lookup_offset bytes))

unfoldable pub chunk_lookup_in : MDBShardFileFooter → List ℕ → Result (List (ℕ × ℕ × ℕ)) StoreError
chunk_lookup_in f bytes =
    if f.chunk_lookup_num_entry == 0 then (blocks_in f bytes >>= λ blocks. Ok (chunk_items blocks))
    else reaches (nat_le (f.chunk_lookup_offset + 16 * f.chunk_lookup_num_entry) (length bytes)) >>= λ _. Ok (places_in f.chunk_lookup_num_entry (drop f.chunk_lookup_offset bytes))

-- the key of the chunk hashes, if there is one
abbrev pub key_of : MDBShardFileFooter → Option (List ℕ) → Type 0
key_of f None = f.chunk_hash_hmac_key ≡ zero_hash
key_of f (Some key) = (f.chunk_hash_hmac_key ≡ key) × (key ≡ zero_hash → ⊥)
