-- What is registered as a new xorb.
use Rattle.std.specs.Prelude.{◌≡◌, ◌≢◌, ◌⊎◌, ◌<◌, ◌≤◌, ◌+◌, ℕ, List, [], length, map, take, drop}
use Rattle.std.specs.List.{AllByRecursion}
use Rattle.xet_hash.specs.Merkle.{chunk_hash, total_len}
use Rattle.xet_shard_format.specs.declared.record.FileDataSequenceEntry.{FileDataSequenceEntry as Segment}
use Rattle.xet_xorb.specs.Raw.{raw_of, raw_leaves}
use Rattle.xet_xorb.specs.declared.raw.RawXorbData.{RawXorbData}
use Rattle.xet_xorb_chunk.specs.declared.chunk.Chunk.{Chunk}

-- The maximum length of a chunk in bytes, as its header can state it.
abbrev pub max_chunk_len : ℕ
max_chunk_len = 8388607

-- The xorb of some chunks with their true hashes, within the limits of bytes and chunks.
pub record IsNewXorb (limits : ℕ × ℕ) (x : RawXorbData) : Type 0 where
  pub chunks : List Chunk
  pub boundaries : List ℕ
  pub made : x ≡ raw_of chunks boundaries
  pub some : chunks ≢ []
  pub hashed : AllByRecursion (λ c. c.hash ≡ chunk_hash c.bytes) chunks
  pub small : AllByRecursion (λ c. length c.bytes ≤ max_chunk_len) chunks
  pub bytes : total_len (raw_leaves x) ≤ limits.0
  pub count : length chunks ≤ limits.1

-- Nothing is left over, or the xorb with it would pass a limit.
abbrev pub IsDue : ℕ × ℕ → List (List ℕ × ℕ) → List (List ℕ × ℕ) → Type 0
IsDue limits leaves next = (next ≡ []) ⊎ (limits.0 < total_len leaves + total_len next) ⊎ (limits.1 < length leaves + length next)

-- the run of these chunks of a xorb
abbrev pub part_run : RawXorbData → ℕ → ℕ → Segment
part_run x start count = record {
  xorb_hash = x.xorb_info.metadata.xorb_hash;
  xorb_flags = 0;
  unpacked_segment_bytes = total_len (take count (drop start (raw_leaves x)));
  chunk_index_start = start;
  chunk_index_end = start + count;
}

-- Each run of chunks of the xorb stands.
abbrev pub EachPartStands : (List (List ℕ) → Segment → Type 0) → RawXorbData → Type 0
EachPartStands standing x =
    (start count : ℕ) → 0 < count → start + count ≤ length (raw_leaves x) → standing (take count (drop start (map (λ m. m.0) (raw_leaves x)))) (part_run x start count)
