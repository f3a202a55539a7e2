-- The deduplication of a file: what a batch of chunks adds to its plan, and its metrics.
use Rattle.std.specs.Prelude.{◌≡◌, ◌<◌, ◌≤◌, ◌+◌, ◌-◌, ◌^◌, ◌++◌, ℕ, Bool, List, [], ◌∷◌, length, min, Option, if◌then◌else◌}
use Rattle.std.specs.List.{AllByRecursion}
use Rattle.xet_aggregate.specs.Metrics.{added}
use Rattle.xet_aggregate.specs.declared.metrics.DeduplicationMetrics.{DeduplicationMetrics}
use Rattle.xet_choices.specs.declared.choice.Choice.{Choice}
use Rattle.xet_choices.specs.Calls.{Call, queries_of}
use Rattle.xet_choices.specs.Choices.{new_chunks}
use Rattle.xet_choices.specs.Sums.{deduped_bytes, deduped_chunks, new_bytes, prevented_bytes, prevented_chunks}
use Rattle.xet_cut.specs.declared.limits.LimitSettings.{LimitSettings}
use Rattle.xet_dedup_queries.specs.Acts.{Act}
use Rattle.xet_dedup_queries.specs.Batch.{IsAsked, IsAskedOnce}
use Rattle.xet_dedup_queries.specs.Registering.{max_chunk_len}
use Rattle.xet_dedup_queries.specs.declared.places.Place.{Place}
use Rattle.xet_file_plan.specs.Moves.{PlanState, is_open}
use Rattle.xet_file_plan.specs.Plan.{IsPlanSince}
use Rattle.xet_hash.specs.Merkle.{chunk_hash, total_len}
use Rattle.xet_shard_format.specs.declared.record.FileDataSequenceEntry.{FileDataSequenceEntry as Segment}
use Rattle.xet_xorb_chunk.specs.declared.chunk.Chunk.{Chunk}

-- a chunk of a file by the chunking of these limits: its hash is that of its bytes
pub record IsChunk (settings : LimitSettings) (c : Chunk) : Type 0 where
  pub hashed : c.hash ≡ chunk_hash c.bytes
  pub some : 0 < length c.bytes
  pub small : length c.bytes ≤ settings.maximum_chunk

-- The sums over the choices for these chunks, and the chunks and bytes of the runs that a second pass found. A sum that
-- would pass 2^64 - 1 stays there.
abbrev pub metrics_of : List (List ℕ × ℕ) → List Choice → ℕ → ℕ → DeduplicationMetrics
metrics_of leaves choices global_chunks global_bytes = record {
  total_bytes = total_len leaves;
  deduped_bytes = deduped_bytes leaves choices;
  new_bytes = new_bytes leaves choices;
  deduped_bytes_by_global_dedup = global_bytes;
  defrag_prevented_dedup_bytes = min (prevented_bytes leaves choices) (2 ^ 64 - 1);
  total_chunks = length leaves;
  deduped_chunks = deduped_chunks choices;
  new_chunks = new_chunks choices;
  deduped_chunks_by_global_dedup = global_chunks;
  defrag_prevented_dedup_chunks = min (prevented_chunks choices) (2 ^ 64 - 1);
  xorb_bytes_uploaded = 0;
  shard_bytes_uploaded = 0;
  total_bytes_uploaded = 0;
}

-- The metrics of a batch of chunks and of the next: each count is the sum of the two. Those of second passes and of rejected
-- runs stay at 2^64 - 1 where they would pass it.
abbrev pub metrics_of_both : DeduplicationMetrics → DeduplicationMetrics → DeduplicationMetrics
metrics_of_both a b = record (added a b) {
  deduped_bytes_by_global_dedup = min (a.deduped_bytes_by_global_dedup + b.deduped_bytes_by_global_dedup) (2 ^ 64 - 1);
  defrag_prevented_dedup_bytes = min (a.defrag_prevented_dedup_bytes + b.defrag_prevented_dedup_bytes) (2 ^ 64 - 1);
  deduped_chunks_by_global_dedup = min (a.deduped_chunks_by_global_dedup + b.deduped_chunks_by_global_dedup) (2 ^ 64 - 1);
  defrag_prevented_dedup_chunks = min (a.defrag_prevented_dedup_chunks + b.defrag_prevented_dedup_chunks) (2 ^ 64 - 1);
}

-- The plan of a file is right by the calls since its deduplication began, over an interface with the limits of the file. No
-- chunk is longer than its header can state.
pub record IsDeduped (listing : List ℕ → Option (List ℕ)) (standing : List (List ℕ) → Segment → Type 0) (before calls : List Call) (cut : ℕ × ℕ) (p : PlanState) : Type 0 where
  pub plan : IsPlanSince listing standing before calls p.leaves p
  pub small : AllByRecursion (λ leaf. leaf.1 ≤ max_chunk_len) p.leaves
  pub limits : cut ≡ (p.settings.cut_bytes, p.settings.cut_chunks)

-- Nothing was asked: xorbs alone were registered.
pub record RegistersAlone (old new : List Call) : Type 0 where
  pub added : List Call
  pub grown : new ≡ old ++ added
  pub none : queries_of added ≡ 0

-- The calls of a batch: its queries, and then registrations alone. These are the numbers of chunks and of bytes of the runs
-- that the second pass of the queries found. `is_first`: the batch begins with the first chunk of its file.
pub record IsQueried {I : Type 0} (calling : I → List Call) (acting : I → List Act) (is_first : Bool) (hashes : List (List ℕ)) (old new : I) (chunks bytes : ℕ) : Type 0 where
  pub places : List Place
  pub queried : I
  pub asked : IsAsked is_first hashes (calling old) (calling queried) (acting old) (acting queried) places chunks bytes
  pub registered : RegistersAlone (calling queried) (calling new)

-- The calls of a batch that was queried in one pass.
pub record IsQueriedOnce {I : Type 0} (calling : I → List Call) (acting : I → List Act) (is_first : Bool) (hashes : List (List ℕ)) (old new : I) : Type 0 where
  pub places : List Place
  pub queried : I
  pub asked : IsAskedOnce is_first hashes (calling old) (calling queried) (acting old) (acting queried) places
  pub registered : RegistersAlone (calling queried) (calling new)

-- the indices of the open ones among these segments, the first of which has this index
unfoldable pub open_from : ℕ → List Segment → List ℕ
open_from at [] = []
open_from at (s ∷ ss) = if is_open s then at ∷ open_from (at + 1) ss else open_from (at + 1) ss

-- the indices of the segments of the open block
abbrev pub open_indices : List Segment → List ℕ
open_indices segments = open_from 0 segments
