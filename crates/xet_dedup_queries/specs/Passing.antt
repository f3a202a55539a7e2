-- What a pass over the places of a batch keeps true.
use Rattle.std.specs.Prelude.{◌≡◌, ◌⊎◌, ◌<◌, ◌≤◌, ◌+◌, ◌*◌, ◌++◌, ℕ, Bool, List, length, map, Option, Some, slice_get}
use Rattle.std.specs.List.{sum_by}
use Rattle.xet_choices.specs.Calls.{Call, IsAskedIn}
use Rattle.xet_dedup_queries.specs.Acts.{Act, Found}
use Rattle.xet_dedup_queries.specs.Asking.{PassesTo, PassesUpTo, kept_found, new_runs}
use Rattle.xet_dedup_queries.specs.Batch.{AreLatest}
use Rattle.xet_dedup_queries.specs.Interface.{run_len}
use Rattle.xet_dedup_queries.specs.Places.{IsPlace, IsTaken}
use Rattle.xet_dedup_queries.specs.declared.passing.Round.{Round}
use Rattle.xet_dedup_queries.specs.declared.places.Place.{Place}
use Rattle.xet_dedup_queries.specs.declared.places.Place.TheVariants.{Kept, Missed, Covered, Unasked}
use Rattle.xet_shard_format.specs.declared.record.FileDataSequenceEntry.{FileDataSequenceEntry as Segment}

-- How a pass began: after the calls before the batch and those of the batch, after these acts, with these runs kept, and with
-- these entries of the last queries from the places.
pub record Began : Type 0 where
  pub old : List Call
  pub asked : List Call
  pub acts : List Act
  pub kept : List (Option Found)
  pub entries : List (Option ℕ)

-- A pass has come to an index, and found runs of so many chunks and bytes. Each place is true by the calls of the batch, or
-- no query came to it so far. A place inside a kept run is kept or covered. The entries before the index are of this pass,
-- and ascend.
pub record IsPassing (listing : List ℕ → Option (List ℕ)) (standing : List (List ℕ) → Segment → Type 0) (round : Round) (hashes : List (List ℕ)) (began : Began) (calls : List Call) (acts : List Act) (places : List Place) (at chunks bytes : ℕ) : Type 0 where
  pub within : at ≤ length hashes
  pub counted : length places ≡ length hashes
  pub added : List Call
  pub appended : calls ≡ began.old ++ (began.asked ++ added)
  pub done : List Act
  pub acted : acts ≡ began.acts ++ done
  pub entries : List (Option ℕ)
  pub noted : length entries ≡ length hashes
  pub passes : PassesTo round hashes began.kept began.entries at (map kept_found places) entries added done
  pub latest : AreLatest entries places
  pub each : (i : ℕ) (h : List ℕ) (p : Place) → slice_get hashes i ≡ Some h → slice_get places i ≡ Some p
      → IsPlace listing standing (began.asked ++ added) hashes places i h p ⊎ ((at ≤ i) × (p ≡ Unasked))
  pub inside : (i j : ℕ) (run : Segment) (is_external : Bool) (p : Place) → slice_get places i ≡ Some (Kept run is_external)
      → i < j → j < i + run_len run → slice_get places j ≡ Some p → IsTaken p
  pub ascend : (i j m n : ℕ) → i < j → j < at → slice_get places i ≡ Some (Missed m) → slice_get places j ≡ Some (Missed n) → m < n
  pub later : (i m n : ℕ) (h : List ℕ) (reply : Option ℕ) → i < at → slice_get places i ≡ Some (Missed m) → IsAskedIn (began.old ++ began.asked) n h reply → n < m
  pub chunks_found : chunks ≡ sum_by run_len (new_runs began.kept (map kept_found places))
  pub bytes_found : bytes ≡ sum_by (λ run. run.unpacked_segment_bytes) (new_runs began.kept (map kept_found places))
  pub few : chunks ≤ at
  pub small : bytes ≤ at * 4294967295

-- A pass that began so stopped at a call that failed. The calls and the acts are given.
pub record StopsPassing (round : Round) (hashes : List (List ℕ)) (began : Began) (calls : List Call) (acts : List Act) : Type 0 where
  pub added : List Call
  pub appended : calls ≡ began.old ++ (began.asked ++ added)
  pub done : List Act
  pub acted : acts ≡ began.acts ++ done
  pub passes : PassesUpTo round hashes began.kept began.entries added done

-- what a place is once a run from an earlier one covers it
abbrev pub covered : ℕ → Place → Place
covered start (Kept run is_external) = Kept run is_external
covered start (Missed entry) = Covered start
covered start (Covered other) = Covered start
covered start Unasked = Covered start

-- what a place is once a query from it found nothing
abbrev pub missed : ℕ → Place → Place
missed entry (Kept run is_external) = Kept run is_external
missed entry (Missed other) = Missed entry
missed entry (Covered start) = Covered start
missed entry Unasked = Missed entry

-- The places between a start and an end, both excluded, are covered; the others are as they were.
pub record Covers (start end : ℕ) (old new : List Place) : Type 0 where
  pub counted : length new ≡ length old
  pub kept : map kept_found new ≡ map kept_found old
  pub before : (i : ℕ) → i ≤ start → slice_get new i ≡ slice_get old i
  pub inside : (i : ℕ) (p : Place) → start < i → i < end → slice_get old i ≡ Some p → slice_get new i ≡ Some (covered start p)
  pub after : (i : ℕ) → end ≤ i → slice_get new i ≡ slice_get old i
