-- The number of chunks of a plan, and the runs that may join it.
use Rattle.std.specs.Prelude.{◌≡◌, ◌≤◌, ◌+◌, ◌^◌, ℕ, List, [], ◌∷◌, length, if◌then◌else◌}
use Rattle.std.specs.List.{AllByRecursion}
use Rattle.xet_cut.specs.declared.limits.LimitSettings.{LimitSettings}
use Rattle.xet_dedup_queries.specs.Interface.{run_len}
use Rattle.xet_dedup_queries.specs.Registering.{max_chunk_len}
use Rattle.xet_file_plan.specs.Moves.{block_run, goes_on}
use Rattle.xet_shard_format.specs.declared.record.FileDataSequenceEntry.{FileDataSequenceEntry as Segment}
use Rattle.xet_xorb_chunk.specs.declared.chunk.Chunk.{Chunk}
use Rattle.xet_xorb_chunk.specs.Chunks.{total}

-- the maximum number of chunks of a file
abbrev pub max_chunks : ℕ
max_chunks = 2 ^ 30

-- the bytes of a run, with those of the last segment if the run goes on where it ends
unfoldable pub joined_bytes : List Segment → Segment → ℕ
joined_bytes [] run = run.unpacked_segment_bytes
joined_bytes (s ∷ []) run = if goes_on s run then s.unpacked_segment_bytes + run.unpacked_segment_bytes else run.unpacked_segment_bytes
joined_bytes (s ∷ t ∷ ss) run = joined_bytes (t ∷ ss) run

-- an open run is one of the open block
pub record IsBlockRun (block : List Chunk) (run : Segment) : Type 0 where
  pub within : run.chunk_index_start + run_len run ≤ length block
  pub same : run ≡ block_run block run.chunk_index_start (run_len run)

-- The open block is within the limits of a xorb.
pub record IsBlockWithin (settings : LimitSettings) (block : List Chunk) : Type 0 where
  pub bytes : total block ≤ settings.cut_bytes
  pub count : length block ≤ settings.cut_chunks
  pub small : AllByRecursion (λ c. length c.bytes ≤ max_chunk_len) block
