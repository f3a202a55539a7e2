-- The plan of a file so far, and the moves by which it grows: a run of chunks joins it, or a chunk is stored.
use Rattle.std.specs.Prelude.{◌+◌, ◌-◌, ◌&&◌, ℕ, Bool, true, false, nat_eq, List, [], ◌∷◌, ◌++◌, length, map, take, drop, replicate, if◌then◌else◌}
use Rattle.std.specs.Cmp.Lexicographic.{pointwise}
use Rattle.xet_choices.specs.declared.choice.Choice.{Choice}
use Rattle.xet_choices.specs.declared.choice.Choice.TheVariants.{Reused}
use Rattle.xet_choices.specs.Choices.{guard_of}
use Rattle.xet_cut.specs.declared.limits.LimitSettings.{LimitSettings}
use Rattle.xet_dedup_queries.specs.Interface.{run_len}
use Rattle.xet_fragmentation.specs.Fragmentation.{Fragmentation, asked, with_longer_range, with_range}
use Rattle.xet_hash.specs.Hash.{sentinel}
use Rattle.xet_shard_format.specs.declared.record.FileDataSequenceEntry.{FileDataSequenceEntry as Segment}
use Rattle.xet_xorb_chunk.specs.declared.chunk.Chunk.{Chunk}
use Rattle.xet_xorb_chunk.specs.Chunks.{chunk_leaf, total}

-- The hash and length of each chunk so far, the segments, the chunks of the open block, why each chunk was stored or found,
-- and the guard. A segment with the sentinel for its xorb hash is open: it is a run of the open block.
pub record PlanState : Type 0 where
  pub settings : LimitSettings
  pub leaves : List (List ℕ × ℕ)
  pub segments : List Segment
  pub block : List Chunk
  pub choices : List Choice
  pub guard : Fragmentation

-- the plan of no chunks
abbrev pub empty_plan : LimitSettings → PlanState
empty_plan settings = record { settings = settings; leaves = []; segments = []; block = []; choices = []; guard = guard_of settings [] true }

-- the numbers of chunks of the segments
abbrev pub counts_of : List Segment → List ℕ
counts_of segments = map run_len segments

abbrev pub is_open : Segment → Bool
is_open s = pointwise nat_eq s.xorb_hash sentinel

-- ---- runs that join

-- whether a run goes on where a segment ends
abbrev pub goes_on : Segment → Segment → Bool
goes_on s run = pointwise nat_eq s.xorb_hash run.xorb_hash && nat_eq s.chunk_index_end run.chunk_index_start

-- a segment with a run that goes on where it ends
abbrev pub extended : Segment → Segment → Segment
extended s run = record s { unpacked_segment_bytes = s.unpacked_segment_bytes + run.unpacked_segment_bytes; chunk_index_end = run.chunk_index_end }

-- whether a run goes on where the last segment ends
unfoldable pub continues : List Segment → Segment → Bool
continues [] run = false
continues (s ∷ []) run = goes_on s run
continues (s ∷ t ∷ ss) run = continues (t ∷ ss) run

-- the segments with a run: a run that goes on where the last segment ends makes it longer
unfoldable pub with_run : List Segment → Segment → List Segment
with_run [] run = run ∷ []
with_run (s ∷ []) run = if goes_on s run then extended s run ∷ [] else s ∷ run ∷ []
with_run (s ∷ t ∷ ss) run = s ∷ with_run (t ∷ ss) run

-- the index of the last segment
abbrev pub last_index : List Segment → ℕ
last_index segments = length segments - 1

-- the guard after a run of k chunks that was found: one that goes on is not asked for
abbrev pub joined_guard : PlanState → Segment → ℕ → Fragmentation
joined_guard p run k = if continues p.segments run then with_longer_range p.guard k else with_range (asked p.guard k) k

-- the plan with a run that was found for chunks with these leaves
abbrev pub joined : PlanState → Segment → List (List ℕ × ℕ) → PlanState
joined p run leaves = record {
  settings = p.settings;
  leaves = p.leaves ++ leaves;
  segments = with_run p.segments run;
  block = p.block;
  choices = p.choices ++ replicate (length leaves) (Reused (last_index (with_run p.segments run)));
  guard = joined_guard p run (length leaves);
}

-- ---- chunks that are stored

-- the run of these chunks of the open block
abbrev pub block_run : List Chunk → ℕ → ℕ → Segment
block_run block start count = record {
  xorb_hash = sentinel;
  xorb_flags = 0;
  unpacked_segment_bytes = total (take count (drop start block));
  chunk_index_start = start;
  chunk_index_end = start + count;
}

-- the run of a chunk that joins the open block
abbrev pub next_run : List Chunk → Chunk → Segment
next_run block chunk = record {
  xorb_hash = sentinel;
  xorb_flags = 0;
  unpacked_segment_bytes = length chunk.bytes;
  chunk_index_start = length block;
  chunk_index_end = length block + 1;
}

-- the guard is not asked for a chunk that is stored
abbrev pub stored_guard : PlanState → Segment → Fragmentation
stored_guard p run = if continues p.segments run then with_longer_range p.guard 1 else with_range p.guard 1

-- the plan with a chunk that joins the open block, for this reason
abbrev pub stored : PlanState → Chunk → Choice → PlanState
stored p chunk choice = record {
  settings = p.settings;
  leaves = p.leaves ++ chunk_leaf chunk ∷ [];
  segments = with_run p.segments (next_run p.block chunk);
  block = p.block ++ chunk ∷ [];
  choices = p.choices ++ choice ∷ [];
  guard = stored_guard p (next_run p.block chunk);
}

-- the plan after the guard rejected a run of k chunks
abbrev pub rejected : PlanState → ℕ → PlanState
rejected p k = record p { guard = asked p.guard k }

-- ---- the open block is registered

-- a segment with this xorb hash if it was open
abbrev pub filled : List ℕ → Segment → Segment
filled hash s = if is_open s then record s { xorb_hash = hash } else s

-- the plan after the open block was registered as the xorb with this hash
abbrev pub closed : PlanState → List ℕ → PlanState
closed p hash = record p { segments = map (filled hash) p.segments; block = [] }
