-- What is known of a batch once its queries and its placing are known.
use Rattle.std.proofs.Common.{◌≡◌, ◌∙◌, ◌==◌, ◌+◌, ◌≤◌, ℕ, Bool, true, false, true≢false, List, [], ◌∷◌, ◌++◌, length, map, Option, sym, ap, subst, arith}
use Rattle.std.proofs.lemmas.Bool.Decides.{nat_tests}
use Rattle.std.proofs.lemmas.List.{append-nil}
use Rattle.xet_choices.specs.Calls.{Call, queries_of}
use Rattle.xet_choices.specs.theorems.Calls.{queries_of-append}
use Rattle.xet_choices.specs.Choices.{hashes_of}
use Rattle.xet_dedup.specs.Deduping.{IsQueried, IsQueriedOnce, RegistersAlone}
use Rattle.xet_dedup.specs.Placing.{ArePlaced, IsPlaced, StopsBatch, StopsPlacing, noted_at_end}
use Rattle.xet_dedup.specs.Placing.StopsBatch.{asking, placing}
use Rattle.xet_dedup.specs.theorems.Adding.{length_hashes}
use Rattle.xet_dedup_queries.specs.Acts.{Act}
use Rattle.xet_dedup_queries.specs.Acts.Act.{Noted}
use Rattle.xet_dedup_queries.specs.Batch.{AsksUpTo, IsAsked, IsAskedOnce, StopsAsking}
use Rattle.xet_dedup_queries.specs.theorems.Queries.{queries_of-asked_once, queries_of-asks_up_to_once}
use Rattle.xet_dedup_queries.specs.Places.{ArePlaces}
use Rattle.xet_dedup_queries.specs.declared.interface.FileXorbDependency.{FileXorbDependency}
use Rattle.xet_dedup_queries.specs.declared.places.Place.{Place}
use Rattle.xet_file_plan.specs.Moves.{PlanState}
use Rattle.xet_shard_format.specs.declared.record.FileDataSequenceEntry.{FileDataSequenceEntry as Segment}
use Rattle.xet_xorb_chunk.specs.declared.chunk.Chunk.{Chunk}
use Rattle.xet_xorb_chunk.specs.Chunks.{chunk_leaf}

-- a list that is not empty
pub is_some : (ds : List FileXorbDependency) → (length ds == 0) ≡ false → ds ≡ [] → ⊥
is_some ds some none = true≢false (sym (ap (λ (l : List FileXorbDependency). length l == 0) none) ∙ some)

-- The dependencies of a batch are noted at its end, if there are any.
pub notes_some : (ds : List FileXorbDependency) (old new : List Act) → (length ds == 0) ≡ false → new ≡ old ++ Noted ds ∷ [] → new ≡ old ++ noted_at_end ds
notes_some [] old new some is = absurd (true≢false some)
notes_some (d ∷ ds) old new some is = is

pub notes_none : (ds : List FileXorbDependency) (old new : List Act) → (length ds == 0) ≡ true → new ≡ old → new ≡ old ++ noted_at_end ds
notes_none [] old new none same = same ∙ sym (append-nil old)
notes_none (d ∷ ds) old new none same =
    let some : (length (d ∷ ds) == 0) ≡ false = grind (arith, nat_tests) in
    absurd (true≢false (sym none ∙ some))

-- The batch goes on a plan with as many leaves as `base`, and has these leaves and hashes.
module _ {I : Type 0} (listing : I → List ℕ → Option (List ℕ)) (standing : I → List (List ℕ) → Segment → Type 0) (calling : I → List Call) (acting : I → List Act) (file_id : ℕ) (chunks : List Chunk) (leaves : List (List ℕ × ℕ)) (hashes : List (List ℕ))
    (base : ℕ) (old : I) (p : PlanState) (leaves_are : leaves ≡ map chunk_leaf chunks) (hashes_are : hashes ≡ hashes_of leaves) (base_is : base ≡ length p.leaves) where
  of_chunks : hashes ≡ hashes_of (map chunk_leaf chunks)
  of_chunks = hashes_are ∙ ap hashes_of leaves_are

  -- The queries stopped.
  pub stops_asking : (is_global : Bool) (new : I) → StopsAsking is_global (base == 0) hashes (calling old) (calling new) (acting old) (acting new) → StopsBatch is_global listing standing calling acting file_id chunks old p new
  stops_asking is_global new stops =
      asking
      (subst (λ (n : ℕ). StopsAsking is_global (n == 0) (hashes_of (map chunk_leaf chunks)) (calling old) (calling new) (acting old) (acting new)) base_is
      (subst (λ (hs : List (List ℕ)). StopsAsking is_global (base == 0) hs (calling old) (calling new) (acting old) (acting new)) of_chunks stops))

  -- If no queries are sent elsewhere, there is at most one for each chunk, where they stopped
  pub few_stopped : (is_global : Bool) (new : I) → StopsAsking is_global (base == 0) hashes (calling old) (calling new) (acting old) (acting new) → is_global ≡ false
      → queries_of (calling new) ≤ queries_of (calling old) + length chunks
  few_stopped is_global new stops alone =
      let few = queries_of-asks_up_to_once (base == 0) hashes stops.added stops.done (subst (λ (g : Bool). AsksUpTo g (base == 0) hashes stops.added stops.done) alone stops.asks) in
      omega (arith, ap queries_of stops.calls, queries_of-append (calling old) stops.added, few, ap length of_chunks, length_hashes chunks)

  -- and where xorbs were registered after them.
  pub few_registered : (queried new : I) (places : List Place) → IsAskedOnce (base == 0) hashes (calling old) (calling queried) (acting old) (acting queried) places → RegistersAlone (calling queried) (calling new)
      → queries_of (calling new) ≤ queries_of (calling old) + length chunks
  few_registered queried new places asked registers =
      let few = queries_of-asked_once (base == 0) hashes (calling old) (calling queried) (acting old) (acting queried) places asked in
      omega (arith, few, ap queries_of registers.grown, queries_of-append (calling queried) registers.added, registers.none, ap length of_chunks, length_hashes chunks)

  -- All queries were made.
  module _ (queried new : I) (places seen : List Place) (global_chunks global_bytes : ℕ) (same : seen ≡ places) (asked : IsAsked (base == 0) hashes (calling old) (calling queried) (acting old) (acting queried) places global_chunks global_bytes) where
    asked_of_plan : IsAsked (length p.leaves == 0) hashes (calling old) (calling queried) (acting old) (acting queried) places global_chunks global_bytes
    asked_of_plan = subst (λ (n : ℕ). IsAsked (n == 0) hashes (calling old) (calling queried) (acting old) (acting queried) places global_chunks global_bytes) base_is asked

    asked_of_chunks : IsAsked (length p.leaves == 0) (hashes_of (map chunk_leaf chunks)) (calling old) (calling queried) (acting old) (acting queried) places global_chunks global_bytes
    asked_of_chunks = subst (λ (hs : List (List ℕ)). IsAsked (length p.leaves == 0) hs (calling old) (calling queried) (acting old) (acting queried) places global_chunks global_bytes) of_chunks asked_of_plan

    pub is_queried : RegistersAlone (calling queried) (calling new) → IsQueried calling acting (length p.leaves == 0) hashes old new global_chunks global_bytes
    is_queried registers = record { places = places; queried = queried; asked = asked_of_plan; registered = registers }

    -- the places, by the chunks
    found_of_chunks : (added : List Call) → ArePlaces (listing queried) (standing queried) (calling old) added hashes places → ArePlaces (listing queried) (standing queried) (calling old) added (hashes_of (map chunk_leaf chunks)) places
    found_of_chunks added = subst (λ (hs : List (List ℕ)). ArePlaces (listing queried) (standing queried) (calling old) added hs places) of_chunks

    -- The placing stopped.
    pub stops_placing : (is_global : Bool) → (added : List Call) × (calling queried ≡ calling old ++ added) × ArePlaces (listing queried) (standing queried) (calling old) added hashes places
        → StopsPlacing listing standing calling acting chunks seen base file_id queried p new → StopsBatch is_global listing standing calling acting file_id chunks old p new
    stops_placing is_global found stops =
        placing queried found.0 places global_chunks global_bytes found.1 (found_of_chunks found.0 found.2) asked_of_chunks
        (subst (λ (n : ℕ). StopsPlacing listing standing calling acting chunks places n file_id queried p new) base_is
        (subst (λ (ps : List Place). StopsPlacing listing standing calling acting chunks ps base file_id queried p new) same stops))

    -- The batch is placed.
    pub is_placed : (q : PlanState) → (added : List Call) × (calling queried ≡ calling old ++ added) × ArePlaces (listing queried) (standing queried) (calling old) added hashes places
        → ArePlaced listing standing calling acting chunks seen base file_id queried p new q → IsPlaced listing standing calling acting file_id chunks old p new q global_chunks global_bytes
    is_placed q found are = record {
      queried = queried;
      added = found.0;
      calls = found.1;
      places = places;
      asked = asked_of_chunks;
      found = found_of_chunks found.0 found.2;
      placed =
          subst (λ (n : ℕ). ArePlaced listing standing calling acting chunks places n file_id queried p new q) base_is
          (subst (λ (ps : List Place). ArePlaced listing standing calling acting chunks ps base file_id queried p new q) same are);
    }

  -- The batch was queried in one pass.
  pub is_queried_once : (queried new : I) (places : List Place) → IsAskedOnce (base == 0) hashes (calling old) (calling queried) (acting old) (acting queried) places → RegistersAlone (calling queried) (calling new)
      → IsQueriedOnce calling acting (length p.leaves == 0) hashes old new
  is_queried_once queried new places asked registers = record {
    places = places;
    queried = queried;
    asked = subst (λ (n : ℕ). IsAskedOnce (n == 0) hashes (calling old) (calling queried) (acting old) (acting queried) places) base_is asked;
    registered = registers;
  }
