-- How a batch was queried.
use Rattle.std.specs.Prelude.{◌≡◌, ◌++◌, ◌∷◌, ℕ, Bool, true, false, List, [], length, map, replicate, Option, Some, None, slice_get}
use Rattle.std.specs.List.{sum_by}
use Rattle.xet_choices.specs.Calls.{Call}
use Rattle.xet_dedup_queries.specs.Acts.{Act, Found}
use Rattle.xet_dedup_queries.specs.Acts.Act.{Ended}
use Rattle.xet_dedup_queries.specs.Asking.{PassesTo, PassesUpTo, kept_found, new_runs}
use Rattle.xet_dedup_queries.specs.Interface.{run_len}
use Rattle.xet_dedup_queries.specs.declared.passing.Round.TheVariants.{First, Second}
use Rattle.xet_dedup_queries.specs.declared.places.Place.{Place}
use Rattle.xet_dedup_queries.specs.declared.places.Place.TheVariants.{Missed}

-- no run is kept at a place of the batch
abbrev pub none_kept : List (List ℕ) → List (Option Found)
none_kept hashes = replicate (length hashes) None

-- no query came from a place of the batch
abbrev pub none_asked : List (List ℕ) → List (Option ℕ)
none_asked hashes = replicate (length hashes) None

-- Each missed place has the entry of the last query from there.
pub record AreLatest (entries : List (Option ℕ)) (places : List Place) : Type 0 where
  pub each : (i entry : ℕ) → slice_get places i ≡ Some (Missed entry) → slice_get entries i ≡ Some (Some entry)

-- A batch was queried in one pass. Then the queries elsewhere were ended, and had found nothing.
pub record IsAskedOnce (is_first : Bool) (hashes : List (List ℕ)) (old new : List Call) (acts_before acts_after : List Act) (places : List Place) : Type 0 where
  pub first : List Call
  pub first_acts : List Act
  pub entries : List (Option ℕ)
  pub calls : new ≡ old ++ first
  pub acts : acts_after ≡ acts_before ++ (first_acts ++ Ended false ∷ [])
  pub first_pass : PassesTo (First is_first) hashes (none_kept hashes) (none_asked hashes) (length hashes) (map kept_found places) entries first first_acts
  pub latest : AreLatest entries places

-- What follows the first pass. The queries elsewhere are ended. If they had found nothing, that is all. Else there is a second
-- pass, and they are ended again; what is answered then does not matter.
pub data GoesOn (hashes : List (List ℕ)) (before : List (Option Found)) (earlier : List (Option ℕ)) : List (Option Found) → List (Option ℕ) → List Call → List Act → Type 0 where
  no_more : GoesOn hashes before earlier before earlier [] (Ended false ∷ [])
  once_more : (kept : List (Option Found)) (entries : List (Option ℕ)) (calls : List Call) (acts : List Act) (again : Bool)
      → PassesTo Second hashes before earlier (length hashes) kept entries calls acts
      → GoesOn hashes before earlier kept entries calls (Ended true ∷ (acts ++ Ended again ∷ []))

-- A batch was queried in one pass, or in two, and these are all acts of it. Of the runs that the second pass found the numbers
-- of chunks and of bytes are given.
pub record IsAsked (is_first : Bool) (hashes : List (List ℕ)) (old new : List Call) (acts_before acts_after : List Act) (places : List Place) (chunks bytes : ℕ) : Type 0 where
  pub first : List Call
  pub second : List Call
  pub first_acts : List Act
  pub second_acts : List Act
  pub between : List (Option Found)
  pub entries_between : List (Option ℕ)
  pub entries : List (Option ℕ)
  pub calls : new ≡ old ++ (first ++ second)
  pub acts : acts_after ≡ acts_before ++ (first_acts ++ second_acts)
  pub first_pass : PassesTo (First is_first) hashes (none_kept hashes) (none_asked hashes) (length hashes) between entries_between first first_acts
  pub second_pass : GoesOn hashes between entries_between (map kept_found places) entries second second_acts
  pub latest : AreLatest entries places
  pub chunks_found : chunks ≡ sum_by run_len (new_runs between (map kept_found places))
  pub bytes_found : bytes ≡ sum_by (λ run. run.unpacked_segment_bytes) (new_runs between (map kept_found places))

-- The queries and the acts of a batch up to a call that failed, or that was not made: those of the first pass up to there; or,
-- if queries may be sent elsewhere, those of the first pass, the end of the queries elsewhere, which had found something, and
-- those of the second pass up to there.
pub data AsksUpTo (is_global is_first : Bool) (hashes : List (List ℕ)) : List Call → List Act → Type 0 where
  in_first : (calls : List Call) (acts : List Act) → PassesUpTo (First is_first) hashes (none_kept hashes) (none_asked hashes) calls acts → AsksUpTo is_global is_first hashes calls acts
  in_second : (between : List (Option Found)) (entries_between : List (Option ℕ)) (calls again : List Call) (acts more : List Act)
      → is_global ≡ true
      → PassesTo (First is_first) hashes (none_kept hashes) (none_asked hashes) (length hashes) between entries_between calls acts
      → PassesUpTo Second hashes between entries_between again more
      → AsksUpTo is_global is_first hashes (calls ++ again) (acts ++ Ended true ∷ more)

-- The calls and the acts after are those before and then those of a batch up to a call that failed, or that was not made.
pub record StopsAsking (is_global is_first : Bool) (hashes : List (List ℕ)) (old new : List Call) (acts_before acts_after : List Act) : Type 0 where
  pub added : List Call
  pub done : List Act
  pub calls : new ≡ old ++ added
  pub acts : acts_after ≡ acts_before ++ done
  pub asks : AsksUpTo is_global is_first hashes added done
