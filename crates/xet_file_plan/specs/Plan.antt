-- When the plan of a file so far is right.
use Rattle.std.specs.Prelude.{◌≡◌, ◌<◌, ◌≤◌, ◌+◌, ℕ, List, ◌++◌, length, map, Option, Some, slice_get}
use Rattle.std.specs.List.{AllByRecursion}
use Rattle.xet_choices.specs.declared.choice.Choice.TheVariants.{NoPlace}
use Rattle.xet_choices.specs.Calls.{Call, IsAskedIn, registered_chunks}
use Rattle.xet_choices.specs.Choices.{AllTrue, Setting, block_at, guard_at, hashes_of, new_chunks}
use Rattle.xet_dedup_queries.specs.Registering.{max_chunk_len}
use Rattle.xet_file_plan.specs.Moves.{PlanState, counts_of}
use Rattle.xet_file_plan.specs.Placed.{ArePlaced}
use Rattle.xet_hash.specs.Merkle.{chunk_hash}
use Rattle.xet_shard_format.specs.declared.record.FileDataSequenceEntry.{FileDataSequenceEntry as Segment}
use Rattle.xet_xorb_chunk.specs.declared.chunk.Chunk.{Chunk}
use Rattle.xet_xorb_chunk.specs.Chunks.{chunk_leaf}

-- the choices so far with all leaves of the file that are known, among them those of chunks that follow
abbrev pub setting_of : PlanState → List Call → List (List ℕ × ℕ) → Setting
setting_of p calls leaves = record { settings = p.settings; leaves = leaves; calls = calls; counts = counts_of p.segments; choices = p.choices }

-- a chunk that may be stored: its hash is that of its bytes, of which there are some, and few enough for a chunk header
pub record IsStorable (c : Chunk) : Type 0 where
  pub hashed : c.hash ≡ chunk_hash c.bytes
  pub some : 0 < length c.bytes
  pub small : length c.bytes ≤ max_chunk_len

-- A plan is right by these calls, among the leaves of its chunks and of those that follow.
pub record IsPlan (listing : List ℕ → Option (List ℕ)) (standing : List (List ℕ) → Segment → Type 0) (calls : List Call) (leaves : List (List ℕ × ℕ)) (p : PlanState) : Type 0 where
  pub following : List (List ℕ × ℕ)
  pub prefix : leaves ≡ p.leaves ++ following
  pub one_each : length p.choices ≡ length p.leaves
  pub placed : ArePlaced listing standing p.block p.segments (hashes_of p.leaves)
  pub choices : AllTrue (setting_of p calls leaves)
  pub ascend : (i j m n : ℕ) → i < j → slice_get p.choices i ≡ Some (NoPlace m) → slice_get p.choices j ≡ Some (NoPlace n) → m < n
  pub guard : p.guard ≡ guard_at (setting_of p calls leaves) (length p.leaves)
  pub block : map chunk_leaf p.block ≡ block_at (setting_of p calls leaves) (length p.choices)
  pub storable : AllByRecursion IsStorable p.block
  pub registered : registered_chunks calls + length p.block ≡ new_chunks p.choices

-- The plan of a file whose deduplication began after the calls `before`.
pub record IsPlanSince (listing : List ℕ → Option (List ℕ)) (standing : List (List ℕ) → Segment → Type 0) (before calls : List Call) (leaves : List (List ℕ × ℕ)) (p : PlanState) : Type 0 where
  pub since : List Call
  pub added : calls ≡ before ++ since
  pub plan : IsPlan listing standing since leaves p
  pub later : (i m n : ℕ) (h : List ℕ) (reply : Option ℕ) → slice_get p.choices i ≡ Some (NoPlace m) → IsAskedIn before n h reply → n < m
