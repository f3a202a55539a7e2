-- What files share until a xorb is full: chunks that no xorb has yet, and the records that refer to them.
use Rattle.std.specs.Prelude.{◌≡◌, ℕ, ◌+◌, ◌-◌, ◌≤◌, Bool, true, ◌&&◌, nat_eq, nat_le, List, [], ◌∷◌, ◌++◌, filter, length, map, slice_range, if◌then◌else◌}
use Rattle.std.specs.Cmp.Lexicographic.{pointwise}
use Rattle.std.specs.List.{AllByRecursion}
use Rattle.xet_hash.specs.Hash.{sentinel}
use Rattle.xet_shard_format.specs.declared.record.FileDataSequenceEntry.{FileDataSequenceEntry as Segment}
use Rattle.xet_shard_format.specs.declared.record.MDBFileInfo.{MDBFileInfo}
use Rattle.xet_shard_format.specs.Records.{segment_bytes}
use Rattle.xet_xorb_chunk.specs.declared.chunk.Chunk.{Chunk}
use Rattle.xet_xorb_chunk.specs.Chunks.{bytes_of_chunk, total}
use Rattle.xet_xorb.specs.Raw.{ArePartsOfXorb}
use Rattle.xet_cut.specs.declared.limits.LimitSettings.{LimitSettings}

-- A file that waits for its xorb: its record, the indices of its open segments, and its id.
abbrev pub Pending : Type 0
Pending = MDBFileInfo × List ℕ × ℕ

-- The chunks that will be a xorb, the files that wait for it, and the indices of the chunks with which files begin.
pub record Aggregate : Type 0 where
  pub chunks : List Chunk
  pub files : List Pending
  pub boundaries : List ℕ

-- ---- open segments

-- A segment is open if its xorb hash is the sentinel: its chunks are in the aggregate, which has no hash yet.
abbrev pub is_open : Segment → Bool
is_open s = pointwise nat_eq s.xorb_hash sentinel

-- an open segment moves n chunks up; any other stays
unfoldable pub shifted_segment : ℕ → Segment → Segment
shifted_segment n s =
    if is_open s then record s { chunk_index_start = s.chunk_index_start + n; chunk_index_end = s.chunk_index_end + n } else s

-- an open segment gets the hash; any other stays
unfoldable pub filled_segment : List ℕ → Segment → Segment
filled_segment hash s = if is_open s then record s { xorb_hash = hash } else s

-- the record with its open segments n chunks up
abbrev pub shifted : ℕ → MDBFileInfo → MDBFileInfo
shifted n file = record file { segments = map (shifted_segment n) file.segments }

-- the record whose open segments have the hash
abbrev pub filled : List ℕ → MDBFileInfo → MDBFileInfo
filled hash file = record file { segments = map (filled_segment hash) file.segments }

-- number of bytes of the open segments
abbrev pub open_bytes : MDBFileInfo → ℕ
open_bytes file = segment_bytes (filter is_open file.segments)

-- number of chunks of a segment
abbrev pub chunk_count : Segment → ℕ
chunk_count s = s.chunk_index_end - s.chunk_index_start

-- ---- aggregates

-- no chunks and no files
abbrev pub empty : Aggregate
empty = record { chunks = []; files = []; boundaries = [] }

-- a file begins with the first chunk, if there is one
abbrev pub first_boundary : List Chunk → List ℕ
first_boundary [] = []
first_boundary (c ∷ cs) = 0 ∷ []

-- one file, with the chunks of its open segments
abbrev pub single : List Chunk → MDBFileInfo → List ℕ → ℕ → Aggregate
single chunks file open_segments id = record {
  chunks = chunks;
  files = (file, open_segments, id) ∷ [];
  boundaries = first_boundary chunks;
}

-- the file with the open segments of its record n chunks up
abbrev pub shifted_file : ℕ → Pending → Pending
shifted_file n p = (shifted n p.0, p.1, p.2)

-- The chunks and files of both. Those of the second come after the first's chunks.
abbrev pub merged : Aggregate → Aggregate → Aggregate
merged a b = record {
  chunks = a.chunks ++ b.chunks;
  files = a.files ++ map (shifted_file (length a.chunks)) b.files;
  boundaries = a.boundaries ++ map (λ k. k + length a.chunks) b.boundaries;
}

-- whether the chunks of both are within the limits of a xorb
abbrev pub fits : LimitSettings → Aggregate → Aggregate → Bool
fits s a b =
    nat_le (total a.chunks + total b.chunks) s.cut_bytes && nat_le (length a.chunks + length b.chunks) s.cut_chunks

-- a file that has its xorb: its id, its record, and the number of its bytes in the xorb
abbrev pub finished_file : List ℕ → Pending → ℕ × MDBFileInfo × ℕ
finished_file hash p = (p.2, filled hash p.0, open_bytes p.0)

-- The segment is a run of these chunks, with their bytes.
pub record IsRunOf (chunks : List Chunk) (s : Segment) : Type 0 where
  pub ordered : s.chunk_index_start ≤ s.chunk_index_end
  pub within : s.chunk_index_end ≤ length chunks
  pub bytes : s.unpacked_segment_bytes ≡ total (slice_range chunks s.chunk_index_start s.chunk_index_end)

-- each open segment is a run of these chunks
abbrev pub HasRunsOf : List Chunk → List Segment → Type 0
HasRunsOf chunks segments = AllByRecursion (λ s. is_open s ≡ true → IsRunOf chunks s) segments

-- The chunks can be a xorb, boundaries are indices of chunks or their number, and open segments are runs of the chunks.
pub record IsAggregate (a : Aggregate) : Type 0 where
  pub parts : ArePartsOfXorb (map bytes_of_chunk a.chunks)
  pub boundaries : AllByRecursion (λ k. k ≤ length a.chunks) a.boundaries
  pub runs : AllByRecursion (λ p. HasRunsOf a.chunks p.0.segments) a.files

-- Nothing of the record changed but the xorb hashes of its segments, and where their chunks begin.
pub record KeepsSizes (old new : MDBFileInfo) : Type 0 where
  pub metadata : new.metadata ≡ old.metadata
  pub verification : new.verification ≡ old.verification
  pub metadata_ext : new.metadata_ext ≡ old.metadata_ext
  pub flags : map (λ s. s.xorb_flags) new.segments ≡ map (λ s. s.xorb_flags) old.segments
  pub bytes : map (λ s. s.unpacked_segment_bytes) new.segments ≡ map (λ s. s.unpacked_segment_bytes) old.segments
  pub counts : map chunk_count new.segments ≡ map chunk_count old.segments
