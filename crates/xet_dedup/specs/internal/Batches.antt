-- The walk over a batch, with the interface through which its chunks are looked up.
use Rattle.std.specs.Prelude.{◌≡◌, ◌++◌, ℕ, List, drop, length, Option}
use Rattle.xet_choices.specs.Calls.{Call}
use Rattle.xet_choices.specs.Sums.{RunsEnd}
use Rattle.xet_choices.specs.declared.choice.Choice.{Choice}
use Rattle.xet_dedup.specs.declared.walk.Batch.{Batch}
use Rattle.xet_dedup.specs.Placing.{PlacesTo}
use Rattle.xet_dedup.specs.internal.Walking.{IsWalking}
use Rattle.xet_dedup_queries.specs.Acts.{Act}
use Rattle.xet_dedup_queries.specs.declared.interface.FileXorbDependency.{FileXorbDependency}
use Rattle.xet_file_plan.specs.Moves.{PlanState}
use Rattle.xet_shard_format.specs.declared.record.FileDataSequenceEntry.{FileDataSequenceEntry as Segment}

-- The plan has the chunks of a batch before place `at`.
abbrev pub Walks : {I : Type 0} → (I → List ℕ → Option (List ℕ)) → (I → List (List ℕ) → Segment → Type 0) → (I → List Call) → I → I → Batch → ℕ → PlanState → Type 0
Walks listing standing calling start now b at p =
    IsWalking (listing now) (standing now) (calling start) (calling now) (p.leaves ++ drop at b.leaves.now) b.hashes.now b.places.now b.base at p

-- A batch that was placed before `at`, with some dependencies, is placed before `to`, with more.
abbrev pub Places : {I : Type 0} → (I → List ℕ → Option (List ℕ)) → (I → List (List ℕ) → Segment → Type 0) → (I → List Call) → (I → List Act) → Batch → I → PlanState → ℕ → List FileXorbDependency → I → PlanState → ℕ → List FileXorbDependency → Type 0
Places {I} listing standing calling acting b old p at noted new q to more =
    (first : I) (start : PlanState) → PlacesTo listing standing calling acting b.chunks.now b.places.now b.base b.file_id first start old p at noted → PlacesTo listing standing calling acting b.chunks.now b.places.now b.base b.file_id first start new q to more

-- One choice was added for each of so many chunks. Each run that was rejected ends within these leaves, which begin with that
-- of the first of them.
pub record AddsChoices (leaves : List (List ℕ × ℕ)) (old new : List Choice) (count : ℕ) : Type 0 where
  pub added : List Choice
  pub grown : new ≡ old ++ added
  pub each : length added ≡ count
  pub ends : RunsEnd leaves added
