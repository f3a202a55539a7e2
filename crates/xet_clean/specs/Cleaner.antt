-- A file whose bytes come in pieces.
use Rattle.std.specs.Prelude.{◌≡◌, ◌≤◌, ◌+◌, ◌*◌, ◌++◌, ℕ, Bool, true, List, length, map}
use Rattle.std.specs.List.{AllByRecursion}
use Rattle.xet_choices.specs.Calls.{Call, queries_of}
use Rattle.xet_cut.specs.Limits.{AreInRange}
use Rattle.xet_cut.specs.Streams.{IsSplit, Splitting}
use Rattle.xet_dedup_queries.specs.Counting.{BeginsWith, HasNext, LandsIn, entries_at_most, first_registered, registered_leaves}
use Rattle.xet_dedup.specs.Deduping.{IsDeduped}
use Rattle.xet_file_plan.specs.Moves.{PlanState}
use Rattle.xet_hash.specs.Merkle.{leaves_of, total_len}
use Rattle.xet_xorb_chunk.specs.Chunks.{chunk_leaf}
use Rattle.xet_store.specs.Interface.{Stands}
use Rattle.xet_store_disk.specs.Separate.{Among}
use Rattle.xet_store.specs.Holders.{Follows, FollowsAsking, Holder, calls_in, calls_of, core_at, xorb_limits, lengths_in}

-- These bytes of a file came since its deduplication began. They are split into chunks, which are placed, and into what is
-- buffered. There was at most one query for each chunk, and each registration has the chunk that did not fit, which begins the next
-- one, or the open block. The xorbs that were registered and the open block have only chunks of the file.
pub record IsCleaning (start now : Holder) (whole : Bool) (plan : PlanState) (global : ℕ × ℕ) (splitting : Splitting) (count : ℕ) (bytes : List ℕ) : Type 0 where
  pub is_whole : whole ≡ true
  pub none_global : global ≡ (0, 0)
  pub counted : count ≡ length bytes
  pub range : AreInRange now.limits
  pub short : length bytes ≤ now.limits.max_source_bytes
  pub settings : plan.settings ≡ now.limits
  pub same : splitting.settings ≡ now.limits
  pub parts : List (List ℕ)
  pub split : IsSplit now.limits bytes parts splitting.buffered
  pub leaves : plan.leaves ≡ leaves_of parts
  pub long : AllByRecursion (λ leaf. now.limits.minimum_chunk ≤ leaf.1) plan.leaves
  pub taken : total_len plan.leaves + length splitting.buffered ≡ length bytes
  pub deduped : IsDeduped (lengths_in (core_at now)) (Stands now) (calls_of start) (calls_of now) (xorb_limits now.limits) plan
  pub follows : FollowsAsking start now
  pub passed : now.stopped ≡ start.stopped
  pub asked : queries_of follows.calls ≤ length plan.leaves
  pub nexts : AllByRecursion HasNext follows.calls
  pub lands : LandsIn (map chunk_leaf plan.block) follows.calls
  pub few : entries_at_most follows.calls + 2 * length plan.block ≤ queries_of follows.calls + 2 * length plan.leaves
  pub own : AllByRecursion (Among plan.leaves) (registered_leaves follows.calls ++ map chunk_leaf plan.block)

-- the same, whatever the bytes
abbrev pub IsCleaningSome : Holder → Holder → Bool → PlanState → ℕ × ℕ → Splitting → ℕ → Type 0
IsCleaningSome start now whole plan global splitting count = (bytes : List ℕ) × IsCleaning start now whole plan global splitting count bytes

-- the same, where the bytes were counted
abbrev pub IsCleaningBytes : Holder → Holder → Bool → PlanState → ℕ × ℕ → Splitting → List ℕ → Type 0
IsCleaningBytes start now whole plan global splitting bytes = IsCleaning start now whole plan global splitting (length bytes) bytes

-- A batch of chunks was placed, and no step failed: there was at most one query for each, and each registration has the chunk
-- that did not fit. The open block had the leaves `before`, which begin the first registration or the open block now, with the
-- leaves `after`; so do the chunks that did not fit. The xorbs that were registered and the open block have only chunks of the open
-- block before and of the batch. The entries of the registrations are at most two for each chunk that came into a xorb.
pub record IsBatchOf (leaves before after : List (List ℕ × ℕ)) (old new : Holder) : Type 0 where
  pub calls : List Call
  pub added : calls_of new ≡ calls_of old ++ calls
  pub asked : queries_of calls ≤ length leaves
  pub nexts : AllByRecursion HasNext calls
  pub opens : BeginsWith (first_registered calls after) before
  pub lands : LandsIn after calls
  pub few : entries_at_most calls + 2 * length after ≤ queries_of calls + 2 * (length before + length leaves)
  pub own : AllByRecursion (Among (before ++ leaves)) (registered_leaves calls ++ after)

-- A batch of chunks was not placed, where the open block had the leaves `before`: with its chunks, each of which may be two entries
-- more, the entries are at most three for each chunk of the batch. Each registration has the chunk that did not fit. The xorbs have
-- only chunks of the open block and of the batch.
pub record StopsInBatch (leaves before : List (List ℕ × ℕ)) (old new : Holder) : Type 0 where
  pub follows : Follows old new
  pub nexts : AllByRecursion HasNext (calls_in follows.own)
  pub few : length follows.own ≤ 3 * length leaves + 2 * length before
  pub own : AllByRecursion (Among (before ++ leaves)) (registered_leaves (calls_in follows.own))
