-- The invariant of a plan: its numbers stay within their types, and the open segments lie in the open block.
use Rattle.std.specs.Prelude.{◌≡◌, ◌≤◌, ℕ, true, false, List, length, take}
use Rattle.std.specs.List.{AllByRecursion}
use Rattle.xet_cut.specs.Limits.{AreInRange}
use Rattle.xet_cut.specs.declared.limits.LimitSettings.{LimitSettings}
use Rattle.xet_file_plan.specs.Kept.{IsBlockWithin, max_chunks}
use Rattle.xet_file_plan.specs.Moves.{is_open}
use Rattle.xet_fragmentation.specs.Fragmentation.{Fragmentation, chunks_in}
use Rattle.xet_shard_format.specs.declared.record.FileDataSequenceEntry.{FileDataSequenceEntry as Segment}
use Rattle.xet_xorb_chunk.specs.declared.chunk.Chunk.{Chunk}
use Rattle.xet_xorb_chunk.specs.Chunks.{total}

-- A segment ends within the open block, and has no more bytes than the chunks up to its end.
pub record EndsWithin (block : List Chunk) (s : Segment) : Type 0 where
  pub end : s.chunk_index_end ≤ length block
  pub bytes : s.unpacked_segment_bytes ≤ total (take s.chunk_index_end block)

-- each open segment ends within the open block
abbrev pub OpenEndWithin : List Chunk → List Segment → Type 0
OpenEndWithin block segments = AllByRecursion (λ s. is_open s ≡ true → EndsWithin block s) segments

-- no segment is open
abbrev pub NoneOpen : List Segment → Type 0
NoneOpen segments = AllByRecursion (λ s. is_open s ≡ false) segments

-- A plan whose first segments, `closed` of them, are not open.
pub record IsKept (settings : LimitSettings) (leaves : List (List ℕ × ℕ)) (segments : List Segment) (block : List Chunk) (guard : Fragmentation) (closed : ℕ) : Type 0 where
  pub range : AreInRange settings
  pub few : length leaves ≤ max_chunks
  pub ranges : chunks_in guard ≤ length leaves
  pub within : IsBlockWithin settings block
  pub opened : OpenEndWithin block segments
  pub counted : closed ≤ length segments
  pub none_open : NoneOpen (take closed segments)
