-- Xorbs before they are encoded: the bytes of their chunks, and their record.
use Rattle.std.specs.Prelude.{◌≡◌, ℕ, ◌+◌, ◌<◌, ◌≤◌, ◌^◌, List, [], ◌∷◌, length, map}
use Rattle.std.specs.List.{AllByRecursion, sum_by}
use Rattle.xet_hash.specs.Merkle.{total_len, xorb_hash}
use Rattle.xet_shard_format.specs.declared.record.MDBXorbInfo.{MDBXorbInfo}
use Rattle.xet_shard_format.specs.declared.record.XorbChunkSequenceEntry.{XorbChunkSequenceEntry}
use Rattle.xet_xorb_chunk.specs.declared.chunk.Chunk.{Chunk}
use Rattle.xet_xorb_chunk.specs.Chunks.{bytes_of_chunk, chunk_leaf}
use Rattle.xet_xorb.specs.declared.raw.RawXorbData.{RawXorbData}

-- The recorded chunks: the first starts at offset `at`, and each other one where the one before it ends.
abbrev pub entries_from : ℕ → List (List ℕ × ℕ) → List XorbChunkSequenceEntry
entries_from at [] = []
entries_from at (m ∷ ms) = record { chunk_hash = m.0; chunk_byte_range_start = at; unpacked_segment_bytes = m.1 } ∷ entries_from (at + m.1) ms

-- The record of the xorb with this hash and these (hash, length) pairs.
abbrev pub xorb_record : List ℕ → List (List ℕ × ℕ) → MDBXorbInfo
xorb_record hash leaves = record {
  metadata = record { xorb_hash = hash; xorb_flags = 0; num_entries = length leaves; num_bytes_in_xorb = total_len leaves; num_bytes_on_disk = 0 };
  chunks = entries_from 0 leaves;
}

-- The raw xorb of these chunks, with the hashes that they carry.
abbrev pub raw_of : List Chunk → List ℕ → RawXorbData
raw_of chunks boundaries = record {
  parts = map bytes_of_chunk chunks;
  xorb_info = xorb_record (xorb_hash (map chunk_leaf chunks)) (map chunk_leaf chunks);
  file_boundaries = boundaries;
}

-- The (hash, length) pairs of the recorded chunks.
abbrev pub raw_leaves : RawXorbData → List (List ℕ × ℕ)
raw_leaves x = map (λ c. (c.chunk_hash, c.unpacked_segment_bytes)) x.xorb_info.chunks

-- Limits on the chunks of a xorb that is built: their number, and their sizes in bytes.
pub record ArePartsOfXorb (parts : List (List ℕ)) : Type 0 where
  pub count : length parts ≤ 65536
  pub small : AllByRecursion (λ p. length p < 2 ^ 24) parts
  pub total : sum_by length parts ≤ 2 ^ 30

-- The parts are within the limits, and have the recorded lengths.
pub record IsRaw (x : RawXorbData) : Type 0 where
  pub parts : ArePartsOfXorb x.parts
  pub listed : map length x.parts ≡ map (λ c. c.unpacked_segment_bytes) x.xorb_info.chunks
