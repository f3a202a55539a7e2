-- A file whose deduplication has ended.
use Rattle.std.specs.Prelude.{◌≡◌, ◌≤◌, ◌+◌, ◌*◌, ◌++◌, ℕ, List, Option, length, map}
use Rattle.std.specs.List.{AllByRecursion}
use Rattle.xet_aggregate.specs.Aggregate.{Aggregate, IsAggregate, single}
use Rattle.xet_aggregate.specs.declared.metrics.DeduplicationMetrics.{DeduplicationMetrics}
use Rattle.xet_choices.specs.Calls.{queries_of}
use Rattle.xet_choices.specs.declared.choice.Choice.{Choice}
use Rattle.xet_cut.specs.declared.limits.LimitSettings.{LimitSettings}
use Rattle.xet_dedup.specs.Deduping.{IsDeduped, metrics_of, open_indices}
use Rattle.xet_dedup.specs.Records.{file_record}
use Rattle.xet_dedup_queries.specs.Counting.{HasNext, LandsIn, registered_leaves}
use Rattle.xet_file_plan.specs.Kept.{IsBlockWithin}
use Rattle.xet_file_plan.specs.Moves.{PlanState}
use Rattle.xet_hash.specs.Merkle.{chunk_hash}
use Rattle.xet_store_disk.specs.declared.info.XetFileInfo.{XetFileInfo}
use Rattle.xet_xorb_chunk.specs.Chunks.{chunk_leaf}
use Rattle.xet_xorb_chunk.specs.declared.chunk.Chunk.{Chunk}
use Rattle.xet_store_disk.specs.Separate.{Among}
use Rattle.xet_store.specs.Interface.{Stands}
use Rattle.xet_store.specs.Holders.{Follows, FollowsAsking, Holder, calls_in, calls_of, core_at, xorb_limits, lengths_in}
use Rattle.xet_clean.specs.Files.{leaves_in}
use Rattle.xet_clean.specs.Policies.{info_with}

-- Chunks that can be a xorb within the limits: each has its digest for its hash.
pub record IsWithin (s : LimitSettings) (chunks : List Chunk) : Type 0 where
  pub within : IsBlockWithin s chunks
  pub hashed : AllByRecursion (λ c. c.hash ≡ chunk_hash c.bytes) chunks

-- The deduplication of a file of these bytes has ended, no step of it failed, and this was its plan. There was at most one query
-- for each chunk, and each registration has the chunk that did not fit, which begins the next one, or the open block. The xorbs that
-- were registered and the open block have only chunks of the file.
pub record IsPlanned (start now : Holder) (bytes : List ℕ) (plan : PlanState) : Type 0 where
  pub short : length bytes ≤ now.limits.max_source_bytes
  pub settings : plan.settings ≡ now.limits
  pub leaves : plan.leaves ≡ leaves_in now.limits bytes
  pub deduped : IsDeduped (lengths_in (core_at now)) (Stands now) (calls_of start) (calls_of now) (xorb_limits now.limits) plan
  pub block : IsWithin now.limits plan.block
  pub follows : FollowsAsking start now
  pub passed : now.stopped ≡ start.stopped
  pub asked : queries_of follows.calls ≤ length plan.leaves
  pub nexts : AllByRecursion HasNext follows.calls
  pub lands : LandsIn (map chunk_leaf plan.block) follows.calls
  pub few : length follows.follows.own + 2 * length plan.block ≤ 3 * length plan.leaves
  pub own : AllByRecursion (Among plan.leaves) (registered_leaves follows.calls ++ map chunk_leaf plan.block)

-- A file of which these bytes came was not cleaned: there are at most three entries for each chunk of these, and each registration
-- has the chunk that did not fit.
pub record IsFew (start now : Holder) (bytes : List ℕ) : Type 0 where
  pub follows : FollowsAsking start now
  pub nexts : AllByRecursion HasNext (calls_in follows.follows.own)
  pub few : length follows.follows.own ≤ 3 * length (leaves_in now.limits bytes)

-- The xorbs that were registered have only chunks of a file of these bytes.
pub record RegistersOnly (start now : Holder) (bytes : List ℕ) : Type 0 where
  pub follows : Follows start now
  pub are : AllByRecursion (Among (leaves_in now.limits bytes)) (registered_leaves (calls_in follows.own))

-- What cleaning returns of the file with this SHA-256, or without one, and what is left of it: its last chunks, and its record,
-- which refers to them.
pub record IsFinished (start now : Holder) (id : ℕ) (sha256 : Option (List ℕ)) (bytes : List ℕ) (info : XetFileInfo) (metrics : DeduplicationMetrics) (choices : List Choice) (rest : Aggregate) : Type 0 where
  pub plan : PlanState
  pub planned : IsPlanned start now bytes plan
  pub pointer : info ≡ info_with sha256 now.limits bytes
  pub chosen : choices ≡ plan.choices
  pub counts : metrics ≡ metrics_of plan.leaves plan.choices 0 0
  pub left : rest ≡ single plan.block (file_record plan.leaves plan.segments sha256) (open_indices plan.segments) id
  pub aggregate : IsAggregate rest
