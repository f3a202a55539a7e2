-- What was made of some sources.
use Rattle.std.specs.Prelude.{◌≡◌, ◌<◌, ◌≤◌, ◌+◌, ◌*◌, ◌^◌, ◌∷◌, ◌++◌, ℕ, Bool, false, List, [], length, map, Any}
use Rattle.std.specs.List.{AllByRecursion, flat_map, sum_by}
use Rattle.xet_aggregate.specs.Aggregate.{Aggregate, IsAggregate}
use Rattle.xet_aggregate.specs.declared.metrics.DeduplicationMetrics.{DeduplicationMetrics}
use Rattle.xet_choices.specs.Calls.{registered_chunks}
use Rattle.xet_choices.specs.Choices.{EntriesRise, hashes_of, new_chunks}
use Rattle.xet_choices.specs.declared.choice.Choice.{Choice}
use Rattle.xet_cut.specs.Limits.{AreInRange}
use Rattle.xet_dedup_queries.specs.Counting.{registered_leaves}
use Rattle.xet_dedup.specs.Records.{file_record}
use Rattle.xet_file_plan.specs.Moves.{PlanState, counts_of}
use Rattle.xet_file_plan.specs.Placed.{ArePlaced}
use Rattle.xet_shard_format.specs.declared.record.FileDataSequenceEntry.{FileDataSequenceEntry as Segment}
use Rattle.xet_shard_format.specs.declared.record.MDBFileInfo.{MDBFileInfo}
use Rattle.xet_store_disk.specs.Cleaning.{EachTold}
use Rattle.xet_store_disk.specs.Separate.{Among}
use Rattle.xet_store_disk.specs.declared.info.XetFileInfo.{XetFileInfo}
use Rattle.xet_xorb_chunk.specs.Chunks.{chunk_leaf}
use Rattle.xet_xorb_chunk.specs.declared.chunk.Chunk.{Chunk}
use Rattle.xet_clean.specs.Cleaning.{Lands, metrics_sum}
use Rattle.xet_clean.specs.Policies.{info_by, sha256_by}
use Rattle.xet_clean.specs.declared.policy.Sha256Policy.{Sha256Policy}
use Rattle.xet_clean.specs.Planning.{IsFinished, IsPlanned, IsWithin}
use Rattle.xet_store.specs.Interface.{Stands}
use Rattle.xet_store.specs.Holders.{Follows, Holder, calls_in, core_at, lengths_in}
use Rattle.xet_clean.specs.Closing.{Closes, HaveForm, recorded_in}

-- a file that was cleaned: its bytes, where its SHA-256 comes from, and its plan when its deduplication had ended
pub record Planned : Type 0 where
  pub bytes : List ℕ
  pub policy : Sha256Policy
  pub plan : PlanState

-- The file was planned between two states on the way from a start to now.
pub record WasPlanned (start now : Holder) (f : Planned) : Type 0 where
  pub first : Holder
  pub last : Holder
  pub planned : IsPlanned first last f.bytes f.plan
  pub from : Follows start first
  pub to : Follows last now

-- The record is that of the file, with a plan of as many chunks in each segment. The file is not empty.
pub record IsRecordOf (f : Planned) (file : MDBFileInfo) : Type 0 where
  pub some : 0 < length f.bytes
  pub segments : List Segment
  pub counts : counts_of segments ≡ counts_of f.plan.segments
  pub is : file ≡ file_record f.plan.leaves segments (sha256_by f.policy f.bytes)

-- The next of these records is this one, unless there are no bytes; and the others are these.
abbrev pub BeginsWithRecord : List ℕ → (MDBFileInfo → Type 0) → (List MDBFileInfo → Type 0) → List MDBFileInfo → Type 0
BeginsWithRecord [] is others records = others records
BeginsWithRecord (b ∷ bs) is others [] = ⊥
BeginsWithRecord (b ∷ bs) is others (r ∷ records) = is r × others records

-- Each file that is not empty has one of these records, in order. There are no other records.
abbrev pub AreRecorded : List Planned → List MDBFileInfo → Type 0
AreRecorded [] records = records ≡ []
AreRecorded (f ∷ fs) records = BeginsWithRecord f.bytes (IsRecordOf f) (λ rs. AreRecorded fs rs) records

-- A record waits for the xorb of these chunks: it is that of one of the files, and its segments have the hashes of the file's
-- chunks, one after the other, in listed xorbs or in these chunks.
abbrev pub Waits : Holder → List Chunk → List Planned → MDBFileInfo → Type 0
Waits now chunks files file =
    Any (λ f. IsRecordOf f file × ArePlaced (lengths_in (core_at now)) (Stands now) chunks file.segments (hashes_of f.plan.leaves)) files

-- These files were cleaned since the start, and no step failed. No entry is named by two chunks. The records of files that are not
-- empty were made or wait for their xorb, in order, and there are no others. The chunks of the aggregate are the new ones that
-- are in no registered xorb. What is left in the aggregate is within the limits of a xorb. Each registration had chunks that did
-- not fit, and these are in a later registration or in the aggregate. The xorbs that were registered and the aggregate have only chunks
-- of the files.
pub record IsWorking (start now : Holder) (files : List Planned) (infos : List XetFileInfo) (choices : List (List Choice)) (metrics : DeduplicationMetrics) (a : Aggregate) : Type 0 where
  pub follows : Follows start now
  pub going : now.stopped ≡ false
  pub pointers : infos ≡ map (λ f. info_by f.policy now.limits f.bytes) files
  pub chosen : choices ≡ map (λ f. f.plan.choices) files
  pub once : EntriesRise (flat_map (λ (cs : List Choice). cs) choices)
  pub sums : metrics ≡ metrics_sum now.limits (map (λ f. f.bytes) files) choices
  pub planned : AllByRecursion (WasPlanned start now) files
  pub records : AreRecorded files (recorded_in follows.own ++ map (λ p. p.0) a.files)
  pub waits : AllByRecursion (λ p. Waits now a.chunks files p.0) a.files
  pub aggregate : IsAggregate a
  pub within : IsWithin now.limits a.chunks
  pub forms : HaveForm a.files
  pub nothing : a.files ≡ [] → a.chunks ≡ []
  pub lands : Lands (map chunk_leaf a.chunks) (calls_in follows.own)
  pub new : registered_chunks (calls_in follows.own) + length a.chunks ≡ sum_by (λ f. new_chunks f.plan.choices) files
  pub bound : length follows.own + (2 * length a.chunks + 2 * length a.files) ≤ 3 * sum_by (λ f. length f.plan.leaves) files + 2 * length files
  pub own : AllByRecursion (Among (flat_map (λ f. f.plan.leaves) files)) (registered_leaves (calls_in follows.own) ++ map chunk_leaf a.chunks)

-- One more file was cleaned, from a state after which nothing else was done.
pub record IsAdded (start first now : Holder) (files : List Planned) (policy : Sha256Policy) (bytes : List ℕ) (id : ℕ) (infos : List XetFileInfo) (choices : List (List Choice)) (metrics : DeduplicationMetrics) (a : Aggregate) (info : XetFileInfo) (counts : DeduplicationMetrics) (chosen : List Choice) (rest : Aggregate) : Type 0 where
  pub working : IsWorking start first files infos choices metrics a
  pub finished : IsFinished first now id (sha256_by policy bytes) bytes info counts chosen rest
  pub few : length files < 2 ^ 20
  pub range : AreInRange now.limits

-- All sources were cleaned, and the aggregate was closed. The results are those of these files.
pub record EndsWith {S : Type 0} (policy : Sha256Policy) (tells : S → Bool) (left : S → List ℕ) (sources : List S) (start now : Holder) (files : List Planned) (infos : List XetFileInfo) (choices : List (List Choice)) (metrics : DeduplicationMetrics) : Type 0 where
  pub told : EachTold tells left (λ bytes file. file.bytes ≡ bytes) sources files
  pub policies : AllByRecursion (λ f. f.policy ≡ policy) files
  pub before : Holder
  pub aggregate : Aggregate
  pub working : IsWorking start before files infos choices metrics aggregate
  pub closes : Closes aggregate [] before now
