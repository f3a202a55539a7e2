-- A batch that was placed up to a place is placed one step further.
use Rattle.std.proofs.Common.{◌≡◌, ◌⊎◌, inr, ◌∙◌, ℕ, ◌+◌, List, ◌++◌, map, Option, Some, ap, sym, subst}
use Rattle.std.specs.Prelude.{slice_get}
use Rattle.xet_choices.specs.Calls.{Call}
use Rattle.xet_choices.specs.declared.choice.Choice.{Choice}
use Rattle.xet_choices.specs.Choices.{hashes_of}
use Rattle.xet_cut.specs.declared.limits.LimitSettings.{LimitSettings}
use Rattle.xet_dedup.specs.Placing.{HasNone, Joins, PlacesTo, Rejects, StopsAt, StopsStoring, Stores, block_dependencies, run_dependencies}
use Rattle.xet_dedup.specs.Placing.PlacesTo.{joins, stores}
use Rattle.xet_dedup.specs.declared.walk.Batch.{Batch}
use Rattle.xet_dedup.specs.internal.Batches.{Places}
use Rattle.xet_dedup.specs.internal.Joining.{IsBatch}
use Rattle.xet_dedup_queries.specs.Acts.{Act}
use Rattle.xet_dedup_queries.specs.declared.interface.FileXorbDependency.{FileXorbDependency}
use Rattle.xet_file_plan.specs.Moves.{PlanState}
use Rattle.xet_shard_format.specs.declared.record.FileDataSequenceEntry.{FileDataSequenceEntry as Segment}
use Rattle.xet_xorb_chunk.specs.declared.chunk.Chunk.{Chunk}
use Rattle.xet_xorb_chunk.specs.Chunks.{chunk_leaf}

module _ {I : Type 0} (listing : I → List ℕ → Option (List ℕ)) (standing : I → List (List ℕ) → Segment → Type 0) (calling : I → List Call) (acting : I → List Act) (settings : LimitSettings) (b : Batch) (batch : IsBatch settings b)
    (old : I) (p : PlanState) (at : ℕ) where
  hashes_are : b.hashes.now ≡ hashes_of (map chunk_leaf b.chunks.now)
  hashes_are = batch.hashes ∙ ap hashes_of batch.leaves

  pub places_joined : (q : PlanState) (count : ℕ) (noted more : List FileXorbDependency) → Joins p q b.leaves.now b.hashes.now b.places.now at count → more ≡ noted ++ run_dependencies b.file_id (slice_get b.places.now at)
      → Places listing standing calling acting b old p at noted old q (at + count) more
  places_joined q count noted more is notes = λ first start so_far.
      subst (PlacesTo listing standing calling acting b.chunks.now b.places.now b.base b.file_id first start old q (at + count)) (sym notes)
      (joins old p q at count noted so_far
      (subst (λ (leaves : List (List ℕ × ℕ)). Joins p q leaves (hashes_of (map chunk_leaf b.chunks.now)) b.places.now at count) batch.leaves
      (subst (λ (hashes : List (List ℕ)). Joins p q b.leaves.now hashes b.places.now at count) hashes_are is)))

  of_chunks : (m : PlanState) (choice : Choice) → Rejects p m b.hashes.now b.places.now at choice ⊎ HasNone p m b.hashes.now b.places.now b.base at choice
      → Rejects p m (hashes_of (map chunk_leaf b.chunks.now)) b.places.now at choice ⊎ HasNone p m (hashes_of (map chunk_leaf b.chunks.now)) b.places.now b.base at choice
  of_chunks m choice = subst (λ (hashes : List (List ℕ)). Rejects p m hashes b.places.now at choice ⊎ HasNone p m hashes b.places.now b.base at choice) hashes_are

  pub places_stored : (new : I) (m q : PlanState) (chunk : Chunk) (choice : Choice) (noted same more : List FileXorbDependency) → slice_get b.chunks.now at ≡ Some chunk
      → Rejects p m b.hashes.now b.places.now at choice ⊎ HasNone p m b.hashes.now b.places.now b.base at choice
      → Stores listing standing calling acting old new m q chunk choice → same ≡ noted → more ≡ same ++ block_dependencies b.file_id m chunk
      → Places listing standing calling acting b old p at noted new q (at + 1) more
  places_stored new m q chunk choice noted same more here none is not_yet notes = λ first start so_far.
      subst (PlacesTo listing standing calling acting b.chunks.now b.places.now b.base b.file_id first start new q (at + 1)) (sym (notes ∙ ap (λ (l : List FileXorbDependency). l ++ block_dependencies b.file_id m chunk) not_yet))
      (stores old new p m q at chunk choice noted so_far here (of_chunks m choice none) is)

  -- The chunk could not be stored.
  pub stops_at : (new : I) (m : PlanState) (chunk : Chunk) (choice : Choice) → slice_get b.chunks.now at ≡ Some chunk
      → Rejects p m b.hashes.now b.places.now at choice ⊎ HasNone p m b.hashes.now b.places.now b.base at choice
      → StopsStoring m chunk (calling old) (calling new) (acting old) (acting new) → StopsAt b.chunks.now b.places.now b.base p at (calling old) (calling new) (acting old) (acting new)
  stops_at new m chunk choice here none stops = inr (chunk, m, choice, here, of_chunks m choice none, stops)
