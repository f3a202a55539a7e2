-- What becomes of the chunk at a place of a batch: the run that begins with it joins the plan, or it is to be stored.
use Rattle.std.specs.Prelude.{◌≡◌, ◌≢◌, ◌<◌, ◌≤◌, ◌+◌, ◌^◌, ℕ, Bool, true, false, List, length, map, Some, slice_get}
use Rattle.std.specs.List.{AllByRecursion}
use Rattle.xet_choices.specs.Choices.{hashes_of}
use Rattle.xet_dedup.specs.Deduping.{IsChunk}
use Rattle.xet_dedup.specs.declared.walk.Batch.{Batch}
use Rattle.xet_dedup_queries.specs.Interface.{run_len}
use Rattle.xet_dedup_queries.specs.declared.places.Place.{Place}
use Rattle.xet_dedup_queries.specs.declared.places.Place.TheVariants.{Covered, Kept, Unasked}
use Rattle.xet_cut.specs.declared.limits.LimitSettings.{LimitSettings}
use Rattle.xet_file_plan.specs.Kept.{IsBlockRun, joined_bytes}
use Rattle.xet_file_plan.specs.Moves.{PlanState, is_open}
use Rattle.xet_shard_format.specs.declared.record.FileDataSequenceEntry.{FileDataSequenceEntry as Segment}
use Rattle.xet_xorb_chunk.specs.Chunks.{chunk_leaf}

-- the parts of a batch belong together
pub record IsBatch (settings : LimitSettings) (b : Batch) : Type 0 where
  pub chunks : AllByRecursion (IsChunk settings) b.chunks.now
  pub leaves : b.leaves.now ≡ map chunk_leaf b.chunks.now
  pub hashes : b.hashes.now ≡ hashes_of b.leaves.now
  pub places : length b.places.now ≡ length b.chunks.now

-- what a plan and its batch have to meet before the run at a place may join
pub record CanJoin (p : PlanState) (hashes : List (List ℕ)) (places : List Place) (at : ℕ) : Type 0 where
  pub kept : (run : Segment) (is_external : Bool) → slice_get places at ≡ Some (Kept run is_external)
      → (0 < run_len run) × (at + run_len run ≤ length hashes) × (joined_bytes p.segments run < 2 ^ 32) × (is_open run ≡ false)
  pub of_block : (run : Segment) → is_open run ≡ true → IsBlockRun p.block run → joined_bytes p.segments run < 2 ^ 32
  pub covered : (start : ℕ) → slice_get places at ≡ Some (Covered start) → start < at
  pub asked : slice_get places at ≢ Some Unasked
