-- What was made of parts of the sources, by several makers of steps, is merged and closed by one more.
use Rattle.std.specs.Prelude.{◌≡◌, ◌⊎◌, ◌≤◌, ◌+◌, ◌*◌, ◌++◌, ◌∷◌, ℕ, Any, List, [], drop, length, map}
use Rattle.std.specs.List.{AllByRecursion, flat_map, sum_by}
use Rattle.xet_aggregate.specs.Aggregate.{Aggregate, IsAggregate}
use Rattle.xet_aggregate.specs.declared.metrics.DeduplicationMetrics.{DeduplicationMetrics}
use Rattle.xet_choices.specs.Calls.{Call, queries_of, registered_chunks}
use Rattle.xet_choices.specs.declared.choice.Choice.{Choice}
use Rattle.xet_dedup_queries.specs.Counting.{registered_leaves}
use Rattle.xet_hash.specs.declared.error.StoreError.{StoreError}
use Rattle.xet_history.specs.History.{after_all}
use Rattle.xet_history.specs.declared.entry.Entry.{Entry}
use Rattle.xet_shard_format.specs.declared.record.MDBFileInfo.{MDBFileInfo}
use Rattle.xet_store.specs.Holders.{Follows, Holder, calls_in, core_at}
use Rattle.xet_store_disk.specs.Separate.{Among}
use Rattle.xet_store_disk.specs.declared.info.XetFileInfo.{XetFileInfo}
use Rattle.xet_xorb_chunk.specs.Chunks.{chunk_leaf}
use Rattle.xet_clean.specs.Cleaning.{ClosesLast, RegistersFew, RegistersPart, metrics_sum}
use Rattle.xet_clean.specs.Closing.{AnyCalls, IsUnclosed, recorded_in}
use Rattle.xet_clean.specs.Planning.{IsWithin}
use Rattle.xet_clean.specs.Working.{AreRecorded, IsRecordOf, IsWorking, Planned, Waits}
use Rattle.xet_clean.specs.declared.working.Working.{Working}

-- What was made of a part of the sources, between two states of a maker of steps.
pub record Part : Type 0 where
  pub start : Holder
  pub end : Holder
  pub files : List Planned
  pub infos : List XetFileInfo
  pub choices : List (List Choice)
  pub metrics : DeduplicationMetrics
  pub left : Aggregate

-- The new holder has seen what the old one has, and perhaps more. They need not be one.
pub record HasSeen (old new : Holder) : Type 0 where
  pub more : List Entry
  pub tells : new.tells ≡ old.tells
  pub limits : new.limits ≡ old.limits
  pub core : core_at new ≡ after_all (core_at old) more

-- A holder may merge it: it has seen what the maker of the part has seen at its end.
pub record MayMerge (now : Holder) (p : Part) : Type 0 where
  pub working : IsWorking p.start p.end p.files p.infos p.choices p.metrics p.left
  pub seen : HasSeen p.end now

-- it is what a worker has
abbrev pub IsPartOf : Part → Working → Type 0
IsPartOf p w = (p.infos ≡ w.cleaned.infos.items) × (p.choices ≡ w.cleaned.choices.items) × (p.metrics ≡ w.cleaned.metrics) × (p.left ≡ w.aggregate)

-- These are what workers have, in order, and a holder may merge them.
abbrev pub MayMergeAll : Holder → List Part → List Working → Type 0
MayMergeAll now [] [] = Unit {0}
MayMergeAll now [] (w ∷ ws) = ⊥
MayMergeAll now (p ∷ ps) [] = ⊥
MayMergeAll now (p ∷ ps) (w ∷ ws) = IsPartOf p w × MayMerge now p × MayMergeAll now ps ws

-- the entries that the maker of a part added
abbrev pub own_of : Part → List (ℕ × Entry)
own_of p = drop (length p.start.own) p.end.own

-- ---- merging

-- the files of all parts, in order
abbrev pub files_of : List Part → List Planned
files_of ps = flat_map (λ p. p.files) ps

-- The records of the files of each part that are not empty were made by its maker, and then, in order, by these.
abbrev pub EachRecorded : List Part → List MDBFileInfo → Type 0
EachRecorded [] records = records ≡ []
EachRecorded (p ∷ ps) records = (first rest : List MDBFileInfo) × (records ≡ first ++ rest) × AreRecorded p.files (recorded_in (own_of p) ++ first) × EachRecorded ps rest

-- There are no such chunks, or a xorb was registered which has them as a part.
abbrev pub AreHeld : List (List ℕ × ℕ) → List Call → Type 0
AreHeld leaves calls = (leaves ≡ []) ⊎ Any (RegistersPart leaves) calls

-- What is left of the parts was merged in order and closed, and this is returned. No step failed. The records that waited were
-- made, in order, and no others; the chunks were registered, those of each part next to one another, and each xorb but the last
-- with further chunks, which are a part of a later one.
pub record MergesAll (ps : List Part) (old new : Holder) (infos : List XetFileInfo) (choices : List (List Choice)) (metrics : DeduplicationMetrics) : Type 0 where
  pub follows : Follows old new
  pub going : new.stopped ≡ old.stopped
  pub pointers : infos ≡ flat_map (λ p. p.infos) ps
  pub chosen : choices ≡ flat_map (λ p. p.choices) ps
  pub sums : metrics ≡ metrics_sum old.limits (map (λ f. f.bytes) (files_of ps)) choices
  pub records : EachRecorded ps (recorded_in follows.own)
  pub registered : registered_chunks (calls_in follows.own) ≡ sum_by (λ p. length p.left.chunks) ps
  pub registers : RegistersFew (calls_in follows.own)
  pub held : AllByRecursion (λ p. AreHeld (map chunk_leaf p.left.chunks) (calls_in follows.own)) ps
  pub asked : queries_of (calls_in follows.own) ≡ 0
  pub few : length follows.own ≤ sum_by (λ p. 2 * length p.left.chunks + 2 * length p.left.files) ps

-- A record was rejected, or a step failed, when an aggregate of merged parts was closed. Each record that waited for its xorb is
-- that of a file of one of the parts, whose segments have the hashes of its chunks. Each record that was made is that of a file of
-- one of the parts; and each xorb was registered with further chunks, but for one of these last chunks, if there are any. The xorbs
-- have only chunks of these files.
pub record IsUnmerged (ps : List Part) (old new : Holder) (e : StoreError) : Type 0 where
  pub before : Holder
  pub follows : Follows old before
  pub aggregate : Aggregate
  pub parts : IsAggregate aggregate
  pub within : IsWithin before.limits aggregate.chunks
  pub waits : AllByRecursion (λ p. Waits before aggregate.chunks (files_of ps) p.0) aggregate.files
  pub next : List (List ℕ × ℕ)
  pub refused : IsUnclosed AnyCalls aggregate next before new e
  pub all : Follows old new
  pub records : AllByRecursion (λ r. Any (λ f. IsRecordOf f r) (files_of ps)) (recorded_in all.own)
  pub last : List (List ℕ × ℕ)
  pub registers : ClosesLast last (calls_in all.own)
  pub own : AllByRecursion (Among (flat_map (λ f. f.plan.leaves) (files_of ps))) (registered_leaves (calls_in all.own))
