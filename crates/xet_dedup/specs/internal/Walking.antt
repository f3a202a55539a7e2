-- The walk over the places of a batch.
use Rattle.std.specs.Prelude.{◌≡◌, ◌<◌, ◌≤◌, ◌+◌, ℕ, Bool, List, length, drop, Option, Some, slice_get}
use Rattle.xet_choices.specs.declared.choice.Choice.TheVariants.{NoPlace}
use Rattle.xet_choices.specs.Calls.{Call, IsAskedIn}
use Rattle.xet_choices.specs.Choices.{WasPassed, hashes_of}
use Rattle.xet_dedup_queries.specs.Interface.{run_len}
use Rattle.xet_dedup_queries.specs.Places.{ArePlaces}
use Rattle.xet_dedup_queries.specs.declared.places.Place.{Place}
use Rattle.xet_dedup_queries.specs.declared.places.Place.TheVariants.{Kept, Missed}
use Rattle.xet_file_plan.specs.Moves.{PlanState}
use Rattle.xet_file_plan.specs.Plan.{IsPlanSince, setting_of}
use Rattle.xet_shard_format.specs.declared.record.FileDataSequenceEntry.{FileDataSequenceEntry as Segment}

-- The chunks of a batch before place `at` are in the plan, which is right among the leaves of the file with the whole batch.
-- The places are those that the batch's queries found. A run that is kept before `at` and goes on past it was passed: it was
-- rejected, or it begins within a segment.
pub record IsWalking (listing : List ℕ → Option (List ℕ)) (standing : List (List ℕ) → Segment → Type 0) (before calls : List Call) (leaves : List (List ℕ × ℕ)) (hashes : List (List ℕ)) (places : List Place) (base at : ℕ) (p : PlanState) : Type 0 where
  pub plan : IsPlanSince listing standing before calls leaves p
  pub earlier : List Call
  pub asked : List Call
  pub true_places : ArePlaces listing standing earlier asked hashes places
  pub known : (n : ℕ) (h : List ℕ) (reply : Option ℕ) → IsAskedIn asked n h reply → IsAskedIn plan.since n h reply
  pub here : length p.leaves ≡ base + at
  pub batch : hashes_of (drop base leaves) ≡ hashes
  pub ascend : (i j m n : ℕ) → slice_get p.choices i ≡ Some (NoPlace m) → at ≤ j → slice_get places j ≡ Some (Missed n) → m < n
  pub passed : (s : ℕ) (run : Segment) (is_external : Bool) → slice_get places s ≡ Some (Kept run is_external) → s < at → at < s + run_len run
      → WasPassed (setting_of p plan.since leaves) (base + s)
  -- each entry of a query that found nothing is above those of all queries before the file
  pub fresh : (j n m : ℕ) (h : List ℕ) (reply : Option ℕ) → slice_get places j ≡ Some (Missed n) → IsAskedIn before m h reply → m < n
