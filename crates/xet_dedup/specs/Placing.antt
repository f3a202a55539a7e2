-- How a batch is placed: step by step, its chunks join the plan of the file with runs that were found, or are stored.
use Rattle.std.specs.Prelude.{◌≡◌, ◌≢◌, ◌⊎◌, ◌<◌, ◌≤◌, ◌+◌, ◌^◌, ◌++◌, ◌∷◌, ◌==◌, [], ℕ, Bool, true, false, List, length, map, take, drop, Option, Some, None, slice_get, if◌then◌else◌}
use Rattle.xet_choices.specs.Calls.{Call}
use Rattle.xet_choices.specs.Calls.Call.{Registered}
use Rattle.xet_choices.specs.Choices.{fits, hashes_of}
use Rattle.xet_choices.specs.declared.choice.Choice.{Choice}
use Rattle.xet_choices.specs.declared.choice.Choice.TheVariants.{Inside, NoPlace, Refused}
use Rattle.xet_dedup_queries.specs.Acts.{Act}
use Rattle.xet_dedup_queries.specs.Acts.Act.{Noted, Stored}
use Rattle.xet_dedup_queries.specs.Batch.{IsAsked, StopsAsking}
use Rattle.xet_dedup_queries.specs.Interface.{run_len}
use Rattle.xet_dedup_queries.specs.Places.{ArePlaces}
use Rattle.xet_dedup_queries.specs.Registering.{EachPartStands}
use Rattle.xet_dedup_queries.specs.declared.interface.FileXorbDependency.{FileXorbDependency}
use Rattle.xet_dedup_queries.specs.declared.places.Place.{Place}
use Rattle.xet_dedup_queries.specs.declared.places.Place.TheVariants.{Covered, Kept, Missed, Unasked}
use Rattle.xet_file_plan.specs.Kept.{IsBlockRun}
use Rattle.xet_file_plan.specs.Moves.{PlanState, closed, continues, is_open, joined, rejected, stored}
use Rattle.xet_fragmentation.specs.Fragmentation.{is_allowed}
use Rattle.xet_hash.specs.Hash.{sentinel}
use Rattle.xet_hash.specs.Merkle.{total_len}
use Rattle.xet_open_block.specs.OpenBlock.{first_place, open_run}
use Rattle.xet_shard_format.specs.Records.{chunk_bytes}
use Rattle.xet_shard_format.specs.declared.record.FileDataSequenceEntry.{FileDataSequenceEntry as Segment}
use Rattle.xet_xorb.specs.Raw.{raw_leaves, raw_of}
use Rattle.xet_xorb.specs.declared.raw.RawXorbData.{RawXorbData}
use Rattle.xet_xorb_chunk.specs.declared.chunk.Chunk.{Chunk}
use Rattle.xet_xorb_chunk.specs.Chunks.{chunk_leaf}

-- The open block has a run for the hashes of a query.
pub record IsOpenRun (p : PlanState) (hashes : List (List ℕ)) (count : ℕ) (run : Segment) : Type 0 where
  pub exact : open_run hashes (map chunk_leaf p.block) ≡ Some (run.chunk_index_start, count)
  pub first : first_place hashes (map chunk_leaf p.block) ≡ Some run.chunk_index_start
  pub some : 0 < count
  pub few : count ≤ length hashes
  pub counted : run_len run ≡ count
  pub opened : is_open run ≡ true
  pub of_block : IsBlockRun p.block run
  pub same : take count (drop run.chunk_index_start (hashes_of (map chunk_leaf p.block))) ≡ take count hashes

-- the run at a place: the one that is kept there, else that of the open block
abbrev pub IsRunAt : PlanState → List (List ℕ) → List Place → ℕ → ℕ → Segment → Type 0
IsRunAt p hashes places at count run =
    (((is_external : Bool) × (slice_get places at ≡ Some (Kept run is_external))) × (run_len run ≡ count))
    ⊎ (((kept : Segment) (is_external : Bool) → slice_get places at ≢ Some (Kept kept is_external)) × IsOpenRun p (drop at hashes) count run)

-- the run joined the plan
pub record Joins (p q : PlanState) (leaves : List (List ℕ × ℕ)) (hashes : List (List ℕ)) (places : List Place) (at count : ℕ) : Type 0 where
  pub run : Segment
  pub found : IsRunAt p hashes places at count run
  pub allowed : continues p.segments run ≡ false → is_allowed p.guard count ≡ true
  pub plan : q ≡ joined p run (take count (drop at leaves))

-- the run was rejected: it does not go on where the last segment ends, and the guard refuses it
pub record Rejects (p q : PlanState) (hashes : List (List ℕ)) (places : List Place) (at : ℕ) (choice : Choice) : Type 0 where
  pub run : Segment
  pub count : ℕ
  pub found : IsRunAt p hashes places at count run
  pub apart : continues p.segments run ≡ false
  pub refused : is_allowed p.guard count ≡ false
  pub plan : q ≡ rejected p count
  pub reason : choice ≡ Refused count

-- why the chunk at a place is to be stored, if there is no run
abbrev pub IsReason : List Place → ℕ → ℕ → Choice → Type 0
IsReason places base at choice =
    ((entry : ℕ) × (slice_get places at ≡ Some (Missed entry)) × (choice ≡ NoPlace entry))
    ⊎ ((start : ℕ) × (slice_get places at ≡ Some (Covered start)) × (choice ≡ Inside (base + start)))

-- there is no run
pub record HasNone (p q : PlanState) (hashes : List (List ℕ)) (places : List Place) (base at : ℕ) (choice : Choice) : Type 0 where
  pub none : first_place (drop at hashes) (map chunk_leaf p.block) ≡ None
  pub plan : q ≡ p
  pub reason : IsReason places base at choice

-- The open block of a plan was registered as a xorb, which is known now. `next` lists the chunks that did not fit into it.
pub record Registers {I : Type 0} (listing : I → List ℕ → Option (List ℕ)) (standing : I → List (List ℕ) → Segment → Type 0) (calling : I → List Call) (acting : I → List Act) (old new : I) (block : List Chunk) (next : List (List ℕ × ℕ)) (x : RawXorbData) : Type 0 where
  pub made : x ≡ raw_of block (0 ∷ [])
  pub named : x.xorb_info.metadata.xorb_hash ≢ sentinel
  pub listed : listing new x.xorb_info.metadata.xorb_hash ≡ Some (map (λ m. m.1) (raw_leaves x))
  pub stands : EachPartStands (standing new) x
  pub small : total_len (raw_leaves x) < 2 ^ 32
  pub calls : calling new ≡ calling old ++ Registered (raw_leaves x) next ∷ []
  pub acts : acting new ≡ acting old ++ Stored x next ∷ []

-- The chunk joined the open block; or it did not fit, the block was registered, and the chunk is in a new block.
abbrev pub Stores : {I : Type 0} → (I → List ℕ → Option (List ℕ)) → (I → List (List ℕ) → Segment → Type 0) → (I → List Call) → (I → List Act) → I → I → PlanState → PlanState → Chunk → Choice → Type 0
Stores listing standing calling acting old new p q chunk choice =
    ((fits p.settings (map chunk_leaf p.block) (length chunk.bytes) ≡ true) × (new ≡ old) × (q ≡ stored p chunk choice))
    ⊎ ((fits p.settings (map chunk_leaf p.block) (length chunk.bytes) ≡ false)
    × ((x : RawXorbData) × Registers listing standing calling acting old new p.block (chunk_leaf chunk ∷ []) x × (q ≡ stored (closed p x.xorb_info.metadata.xorb_hash) chunk choice)))

-- What is noted of the run at a place that joins the plan: the run that is kept there, with its bytes, and whether the query
-- answered that it is external. Nothing is noted of a run of the open block.
abbrev pub run_dependencies : ℕ → Option Place → List FileXorbDependency
run_dependencies file_id (Some (Kept run is_external)) =
    record { file_id = file_id; xorb_hash = run.xorb_hash; n_bytes = run.unpacked_segment_bytes; is_external = is_external } ∷ []
run_dependencies file_id (Some (Missed entry)) = []
run_dependencies file_id (Some (Covered start)) = []
run_dependencies file_id (Some Unasked) = []
run_dependencies file_id None = []

-- what is noted of a new xorb: all its bytes, and that it is not external
abbrev pub xorb_dependency : ℕ → RawXorbData → FileXorbDependency
xorb_dependency file_id x = record { file_id = file_id; xorb_hash = x.xorb_info.metadata.xorb_hash; n_bytes = chunk_bytes x.xorb_info.chunks; is_external = false }

-- What is noted when a chunk is stored: the xorb of the open block, if the chunk does not fit into it.
abbrev pub block_dependencies : ℕ → PlanState → Chunk → List FileXorbDependency
block_dependencies file_id p chunk =
    if fits p.settings (map chunk_leaf p.block) (length chunk.bytes) then [] else xorb_dependency file_id (raw_of p.block (0 ∷ [])) ∷ []

-- The chunks of a batch before an index are placed, and these dependencies of the file are to be noted. Each step goes on from
-- the interface and the plan of the step before: the run at a place joins the plan, or it is rejected or there is none, and
-- the chunk there is stored.
pub data PlacesTo {I : Type 0} (listing : I → List ℕ → Option (List ℕ)) (standing : I → List (List ℕ) → Segment → Type 0) (calling : I → List Call) (acting : I → List Act) (chunks : List Chunk) (places : List Place) (base file_id : ℕ) (old : I) (p : PlanState) : I → PlanState → ℕ → List FileXorbDependency → Type 0 where
  begins : PlacesTo listing standing calling acting chunks places base file_id old p old p 0 []
  joins : (now : I) (q r : PlanState) (at count : ℕ) (noted : List FileXorbDependency) → PlacesTo listing standing calling acting chunks places base file_id old p now q at noted
      → Joins q r (map chunk_leaf chunks) (hashes_of (map chunk_leaf chunks)) places at count
      → PlacesTo listing standing calling acting chunks places base file_id old p now r (at + count) (noted ++ run_dependencies file_id (slice_get places at))
  stores : (now new : I) (q m r : PlanState) (at : ℕ) (chunk : Chunk) (choice : Choice) (noted : List FileXorbDependency) → PlacesTo listing standing calling acting chunks places base file_id old p now q at noted
      → slice_get chunks at ≡ Some chunk
      → Rejects q m (hashes_of (map chunk_leaf chunks)) places at choice ⊎ HasNone q m (hashes_of (map chunk_leaf chunks)) places base at choice
      → Stores listing standing calling acting now new m r chunk choice
      → PlacesTo listing standing calling acting chunks places base file_id old p new r (at + 1) (noted ++ block_dependencies file_id m chunk)

-- What is done at the end of a batch: its dependencies are noted in one call, if there are any.
abbrev pub noted_at_end : List FileXorbDependency → List Act
noted_at_end [] = []
noted_at_end (d ∷ ds) = Noted (d ∷ ds) ∷ []

-- All chunks of a batch are placed. Then the dependencies of the file are noted. If there are none, nothing more is done.
pub record ArePlaced {I : Type 0} (listing : I → List ℕ → Option (List ℕ)) (standing : I → List (List ℕ) → Segment → Type 0) (calling : I → List Call) (acting : I → List Act) (chunks : List Chunk) (places : List Place) (base file_id : ℕ) (old : I) (p : PlanState) (new : I) (q : PlanState) : Type 0 where
  pub last : I
  pub noted : List FileXorbDependency
  pub placed : PlacesTo listing standing calling acting chunks places base file_id old p last q (length chunks) noted
  pub calls : calling new ≡ calling last
  pub acts : acting new ≡ acting last ++ noted_at_end noted
  pub same : noted ≡ [] → new ≡ last

-- A batch of the file with this number is placed: queries find these places of its chunks, and by them the chunks are placed.
-- These are the numbers of chunks and of bytes of the runs that the second pass of the queries found.
pub record IsPlaced {I : Type 0} (listing : I → List ℕ → Option (List ℕ)) (standing : I → List (List ℕ) → Segment → Type 0) (calling : I → List Call) (acting : I → List Act) (file_id : ℕ) (chunks : List Chunk) (old : I) (p : PlanState) (new : I) (q : PlanState) (global_chunks global_bytes : ℕ) : Type 0 where
  pub queried : I
  pub added : List Call
  pub calls : calling queried ≡ calling old ++ added
  pub places : List Place
  pub asked : IsAsked (length p.leaves == 0) (hashes_of (map chunk_leaf chunks)) (calling old) (calling queried) (acting old) (acting queried) places global_chunks global_bytes
  pub found : ArePlaces (listing queried) (standing queried) (calling old) added (hashes_of (map chunk_leaf chunks)) places
  pub placed : ArePlaced listing standing calling acting chunks places (length p.leaves) file_id queried p new q

-- A chunk could not be stored: nothing was called; or the chunk does not fit into the open block, which was registered. The
-- calls and the acts before and after are given.
abbrev pub StopsStoring : PlanState → Chunk → List Call → List Call → List Act → List Act → Type 0
StopsStoring p chunk old new acts_before acts_after =
    ((new ≡ old) × (acts_after ≡ acts_before))
    ⊎ ((fits p.settings (map chunk_leaf p.block) (length chunk.bytes) ≡ false)
    × (new ≡ old ++ Registered (raw_leaves (raw_of p.block (0 ∷ []))) (chunk_leaf chunk ∷ []) ∷ [])
    × (acts_after ≡ acts_before ++ Stored (raw_of p.block (0 ∷ [])) (chunk_leaf chunk ∷ []) ∷ []))

-- The placing of a batch stopped at a place, where `q` is the plan: nothing was called there; or the run at the place was
-- rejected or there is none, and the chunk there could not be stored.
abbrev pub StopsAt : List Chunk → List Place → ℕ → PlanState → ℕ → List Call → List Call → List Act → List Act → Type 0
StopsAt chunks places base q at old new acts_before acts_after =
    ((new ≡ old) × (acts_after ≡ acts_before))
    ⊎ ((chunk : Chunk) × (m : PlanState) × (choice : Choice) × (slice_get chunks at ≡ Some chunk)
    × (Rejects q m (hashes_of (map chunk_leaf chunks)) places at choice ⊎ HasNone q m (hashes_of (map chunk_leaf chunks)) places base at choice)
    × StopsStoring m chunk old new acts_before acts_after)

-- The placing of a batch stopped at a place, after the chunks before it were placed.
pub record StopsPlacing {I : Type 0} (listing : I → List ℕ → Option (List ℕ)) (standing : I → List (List ℕ) → Segment → Type 0) (calling : I → List Call) (acting : I → List Act) (chunks : List Chunk) (places : List Place) (base file_id : ℕ) (old : I) (p : PlanState) (new : I) : Type 0 where
  pub now : I
  pub plan : PlanState
  pub at : ℕ
  pub noted : List FileXorbDependency
  pub placed : PlacesTo listing standing calling acting chunks places base file_id old p now plan at noted
  pub stops : StopsAt chunks places base plan at (calling now) (calling new) (acting now) (acting new)

-- A batch was not placed. Its queries stopped; or they were all made, and found these places, and the placing stopped. No
-- dependency was noted.
pub data StopsBatch {I : Type 0} (is_global : Bool) (listing : I → List ℕ → Option (List ℕ)) (standing : I → List (List ℕ) → Segment → Type 0) (calling : I → List Call) (acting : I → List Act) (file_id : ℕ) (chunks : List Chunk) (old : I) (p : PlanState) (new : I) : Type 0 where
  asking : StopsAsking is_global (length p.leaves == 0) (hashes_of (map chunk_leaf chunks)) (calling old) (calling new) (acting old) (acting new) → StopsBatch is_global listing standing calling acting file_id chunks old p new
  placing : (queried : I) (added : List Call) (places : List Place) (global_chunks global_bytes : ℕ)
      → calling queried ≡ calling old ++ added
      → ArePlaces (listing queried) (standing queried) (calling old) added (hashes_of (map chunk_leaf chunks)) places
      → IsAsked (length p.leaves == 0) (hashes_of (map chunk_leaf chunks)) (calling old) (calling queried) (acting old) (acting queried) places global_chunks global_bytes
      → StopsPlacing listing standing calling acting chunks places (length p.leaves) file_id queried p new
      → StopsBatch is_global listing standing calling acting file_id chunks old p new
