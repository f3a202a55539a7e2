-- Parts that were merged so far.
use Rattle.std.specs.Prelude.{◌≡◌, ◌⊎◌, ◌≤◌, ◌+◌, ◌*◌, ◌^◌, ◌++◌, ℕ, Any, List, length, map}
use Rattle.std.specs.List.{AllByRecursion, flat_map, sum_by}
use Rattle.xet_aggregate.specs.Aggregate.{Aggregate, IsAggregate}
use Rattle.xet_aggregate.specs.declared.metrics.DeduplicationMetrics.{DeduplicationMetrics}
use Rattle.xet_choices.specs.Calls.{Call, queries_of, registered_chunks}
use Rattle.xet_choices.specs.declared.choice.Choice.{Choice}
use Rattle.xet_cut.specs.Limits.{AreInRange}
use Rattle.xet_dedup_queries.specs.Counting.{registered_leaves}
use Rattle.xet_store.specs.Holders.{Follows, Holder, calls_in}
use Rattle.xet_store_disk.specs.Separate.{Among}
use Rattle.xet_store_disk.specs.declared.info.XetFileInfo.{XetFileInfo}
use Rattle.xet_xorb_chunk.specs.Chunks.{chunk_leaf}
use Rattle.xet_clean.specs.Cleaning.{IsPart, Lands, RegistersPart, metrics_sum}
use Rattle.xet_clean.specs.Closing.{HaveForm, recorded_in}
use Rattle.xet_clean.specs.Merging.{EachRecorded, MayMergeAll, Part, files_of}
use Rattle.xet_clean.specs.Planning.{IsWithin}
use Rattle.xet_clean.specs.Working.{Waits}
use Rattle.xet_clean.specs.declared.working.Working.{Working}
use Rattle.xet_clean.specs.internal.Sums.{AreSmall}

-- these chunks are a part of a registered xorb, or of the last ones
abbrev pub IsLater : List (List ℕ × ℕ) → List Call → List (List ℕ × ℕ) → Type 0
IsLater last calls part = Any (RegistersPart part) calls ⊎ IsPart part last

-- What is left of these parts was merged, in order: the records that waited were made or wait in the aggregate, and the chunks
-- were registered or are in it. These are only chunks of the files of the parts.
pub record IsMerged (ps : List Part) (old now : Holder) (infos : List XetFileInfo) (choices : List (List Choice)) (metrics : DeduplicationMetrics) (a : Aggregate) : Type 0 where
  pub follows : Follows old now
  pub going : now.stopped ≡ old.stopped
  pub pointers : infos ≡ flat_map (λ p. p.infos) ps
  pub chosen : choices ≡ flat_map (λ p. p.choices) ps
  pub one_each : length choices ≡ length (files_of ps)
  pub sums : metrics ≡ metrics_sum old.limits (map (λ f. f.bytes) (files_of ps)) choices
  pub small : AreSmall metrics (length (files_of ps))
  pub records : EachRecorded ps (recorded_in follows.own ++ map (λ f. f.0) a.files)
  pub waits : AllByRecursion (λ f. Waits now a.chunks (files_of ps) f.0) a.files
  pub aggregate : IsAggregate a
  pub within : IsWithin now.limits a.chunks
  pub forms : HaveForm a.files
  pub registered : registered_chunks (calls_in follows.own) + length a.chunks ≡ sum_by (λ p. length p.left.chunks) ps
  pub lands : Lands (map chunk_leaf a.chunks) (calls_in follows.own)
  pub held : AllByRecursion (λ p. IsLater (map chunk_leaf a.chunks) (calls_in follows.own) (map chunk_leaf p.left.chunks)) ps
  pub asked : queries_of (calls_in follows.own) ≡ 0
  pub few : length follows.own + (2 * length a.chunks + 2 * length a.files) ≤ sum_by (λ p. 2 * length p.left.chunks + 2 * length p.left.files) ps
  pub own : AllByRecursion (Among (flat_map (λ f. f.plan.leaves) (files_of ps))) (registered_leaves (calls_in follows.own) ++ map chunk_leaf a.chunks)

-- Some of the parts were merged, and these are what workers have of the others.
pub record IsMerging (ps : List Part) (rest : List Working) (old now : Holder) (infos : List XetFileInfo) (choices : List (List Choice)) (metrics : DeduplicationMetrics) (a : Aggregate) : Type 0 where
  pub done : List Part
  pub later : List Part
  pub order : ps ≡ done ++ later
  pub may : MayMergeAll now later rest
  pub room : length (files_of done) + sum_by (λ w. length w.cleaned.infos.items) rest ≤ 2 ^ 20
  pub range : AreInRange now.limits
  pub merged : IsMerged done old now infos choices metrics a
