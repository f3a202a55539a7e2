-- Where the chunks of a batch are stored already, as the queries of the batch found it.
use Rattle.std.specs.Prelude.{◌≡◌, ◌<◌, ◌+◌, ℕ, Bool, List, length, drop, Option, Some, None, slice_get}
use Rattle.xet_choices.specs.Calls.{Call, IsAskedIn}
use Rattle.xet_dedup_queries.specs.Interface.{IsFoundRun, run_len}
use Rattle.xet_dedup_queries.specs.declared.places.Place.{Place}
use Rattle.xet_dedup_queries.specs.declared.places.Place.TheVariants.{Kept, Missed, Covered, Unasked}
use Rattle.xet_shard_format.specs.declared.record.FileDataSequenceEntry.{FileDataSequenceEntry as Segment}

-- A place is true: a query from its chunk found the run, or nothing; or a run that is kept at an earlier place covers it.
abbrev pub IsPlace : (List ℕ → Option (List ℕ)) → (List (List ℕ) → Segment → Type 0) → List Call → List (List ℕ) → List Place → ℕ → List ℕ → Place → Type 0
IsPlace listing standing calls hashes places i h (Kept run is_external) =
    IsFoundRun listing standing (drop i hashes) (run_len run) run × ((entry : ℕ) × IsAskedIn calls entry h (Some (run_len run)))
IsPlace listing standing calls hashes places i h (Missed entry) = IsAskedIn calls entry h None
IsPlace listing standing calls hashes places i h (Covered start) =
    (start < i) × ((run : Segment) × (is_external : Bool) × (slice_get places start ≡ Some (Kept run is_external)) × (i < start + run_len run))
IsPlace listing standing calls hashes places i h Unasked = ⊥

-- a place at which a run is kept or which one covers
abbrev pub IsTaken : Place → Type 0
IsTaken (Kept run is_external) = Unit {0}
IsTaken (Missed entry) = ⊥
IsTaken (Covered start) = Unit {0}
IsTaken Unasked = ⊥

-- All places of a batch are true. Inside a kept run each place is kept or covered. The entries of the missed places ascend,
-- and are none of those before.
pub record ArePlaces (listing : List ℕ → Option (List ℕ)) (standing : List (List ℕ) → Segment → Type 0) (before calls : List Call) (hashes : List (List ℕ)) (places : List Place) : Type 0 where
  pub counted : length places ≡ length hashes
  pub each : (i : ℕ) (h : List ℕ) (p : Place) → slice_get hashes i ≡ Some h → slice_get places i ≡ Some p → IsPlace listing standing calls hashes places i h p
  pub inside : (i j : ℕ) (run : Segment) (is_external : Bool) (p : Place) → slice_get places i ≡ Some (Kept run is_external)
      → i < j → j < i + run_len run → slice_get places j ≡ Some p → IsTaken p
  pub ascend : (i j m n : ℕ) → i < j → slice_get places i ≡ Some (Missed m) → slice_get places j ≡ Some (Missed n) → m < n
  pub later : (i m n : ℕ) (h : List ℕ) (reply : Option ℕ) → slice_get places i ≡ Some (Missed m) → IsAskedIn before n h reply → n < m
