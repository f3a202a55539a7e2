-- Which chunks were registered: those of the sources.
use Rattle.std.proofs.Common.{◌≡◌, ℕ, Bool, true, List, ◌∷◌, ◌++◌, map, sym, subst}
use Rattle.std.specs.List.{AllByRecursion, flat_map}
use Rattle.xet_aggregate.specs.Aggregate.{Aggregate}
use Rattle.xet_aggregate.specs.declared.metrics.DeduplicationMetrics.{DeduplicationMetrics}
use Rattle.xet_base.specs.theorems.Elements.{all_prefix}
use Rattle.xet_choices.specs.declared.choice.Choice.{Choice}
use Rattle.xet_cut.specs.declared.limits.LimitSettings.{LimitSettings}
use Rattle.xet_dedup_queries.specs.Counting.{registered_leaves}
use Rattle.xet_hash.specs.Merkle.{leaves_of}
use Rattle.xet_history.specs.declared.entry.Entry.{Entry}
use Rattle.xet_store.specs.Holders.{Follows, Holder, calls_in}
use Rattle.xet_store_disk.specs.Cleaning.{chunkings}
use Rattle.xet_store_disk.specs.Separate.{Among}
use Rattle.xet_store_disk.specs.declared.info.XetFileInfo.{XetFileInfo}
use Rattle.xet_xorb_chunk.specs.Chunks.{chunk_leaf}
use Rattle.xet_clean.specs.Files.{leaves_in}
use Rattle.xet_clean.specs.Planning.{RegistersOnly}
use Rattle.xet_clean.specs.Sources.{AreDone}
use Rattle.xet_clean.specs.Working.{IsWorking, Planned}
use Rattle.xet_clean.specs.theorems.Hashes.{all_leaves}
use Rattle.xet_clean.specs.theorems.Keeping.{own_same}
use Rattle.xet_clean.specs.theorems.Owning.{in_more, left_after, left_first, planned_left}
use Rattle.xet_clean.specs.theorems.Turns.{done_told}

-- by one source
pub only_own : (h now : Holder) (f : Follows h now) (bytes : List ℕ) (s : LimitSettings) → now.limits ≡ s → RegistersOnly h now bytes → AllByRecursion (Among (leaves_in s bytes)) (registered_leaves (calls_in f.own))
only_own h now f bytes s same only =
    subst (λ (l : LimitSettings). AllByRecursion (Among (leaves_in l bytes)) (registered_leaves (calls_in f.own))) same
    (subst (λ (x : List (ℕ × Entry)). AllByRecursion (Among (leaves_in now.limits bytes)) (registered_leaves (calls_in x))) (own_same h now only.follows f) only.are)

module _ {S : Type 0} (tells : S → Bool) (left : S → List ℕ) (faults : S → ℕ) (sources : List S) where
  -- those of one source are among those of all
  pub source_own : (limits : LimitSettings) (done : List S) (s : S) (later : List S) → sources ≡ done ++ s ∷ later → (leaves : List (List ℕ × ℕ)) → AllByRecursion (Among (leaves_in limits (left s))) leaves
      → AllByRecursion (Among (flat_map leaves_of (chunkings left limits sources))) leaves
  source_own limits done s later order leaves all =
      subst (λ (ss : List S). AllByRecursion (Among (flat_map leaves_of (chunkings left limits ss))) leaves) (sym order)
      (left_after tells left limits done (s ∷ later) leaves (in_more (leaves_in limits (left s)) (flat_map leaves_of (chunkings left limits later)) leaves all))

  -- those of the files that were made of the first sources
  pub working_own : (done made rest : List S) (files : List Planned) (start h : Holder) (infos : List XetFileInfo) (choices : List (List Choice)) (metrics : DeduplicationMetrics) (a : Aggregate)
      (w : IsWorking start h files infos choices metrics a) → AreDone tells left faults start.limits.max_source_bytes done made files → sources ≡ done ++ rest → AllByRecursion (λ s. tells s ≡ true) sources
      → AllByRecursion (Among (flat_map leaves_of (chunkings left start.limits sources))) (registered_leaves (calls_in w.follows.own) ++ map chunk_leaf a.chunks)
  working_own done made rest files start h infos choices metrics a w are order all =
      let all_done : AllByRecursion (λ s. tells s ≡ true) done = all_prefix (λ s. tells s ≡ true) done rest (subst (AllByRecursion (λ s. tells s ≡ true)) order all) in
      let same : flat_map (λ f. f.plan.leaves) files ≡ flat_map leaves_of (chunkings left start.limits done) =
      planned_left tells left start.limits done files (done_told tells left faults start.limits.max_source_bytes done made files are) all_done (all_leaves start h w.follows files w.planned) in
      subst (λ (ss : List S). AllByRecursion (Among (flat_map leaves_of (chunkings left start.limits ss))) (registered_leaves (calls_in w.follows.own) ++ map chunk_leaf a.chunks)) (sym order)
      (left_first tells left start.limits done rest (registered_leaves (calls_in w.follows.own) ++ map chunk_leaf a.chunks)
      (subst (λ (ls : List (List ℕ × ℕ)). AllByRecursion (Among ls) (registered_leaves (calls_in w.follows.own) ++ map chunk_leaf a.chunks)) same w.own))
