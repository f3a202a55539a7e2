-- Which calls a pass over the places of a batch makes.
use Rattle.std.specs.Prelude.{◌≡◌, ◌<◌, ◌+◌, ◌++◌, ◌∷◌, ◌==◌, ◌&&◌, ◌||◌, ℕ, Bool, true, false, List, [], length, take, drop, Option, Some, None, slice_get, slice_set, if◌then◌else◌}
use Rattle.xet_choices.specs.Calls.{Call}
use Rattle.xet_choices.specs.Calls.Call.{Asked, Registered}
use Rattle.xet_dedup_queries.specs.Acts.{Act, Found}
use Rattle.xet_dedup_queries.specs.Acts.Act.{Begun, Queried}
use Rattle.xet_dedup_queries.specs.Interface.{run_len}
use Rattle.xet_dedup_queries.specs.declared.passing.Round.{Round}
use Rattle.xet_dedup_queries.specs.declared.passing.Round.TheVariants.{First, Second}
use Rattle.xet_dedup_queries.specs.declared.places.Place.{Place}
use Rattle.xet_dedup_queries.specs.declared.places.Place.TheVariants.{Kept, Missed, Covered, Unasked}
use Rattle.xet_hash.specs.Hash.{is_global_dedup_eligible}
use Rattle.xet_shard_format.specs.declared.record.FileDataSequenceEntry.{FileDataSequenceEntry as Segment}

-- the run that is kept at a place, and whether it is external
abbrev pub kept_found : Place → Option Found
kept_found (Kept run is_external) = Some (run, is_external)
kept_found (Missed entry) = None
kept_found (Covered start) = None
kept_found Unasked = None

-- Whether a query that found nothing, for a hash at an index of the batch, is begun elsewhere too: in the first pass, if it
-- is the first chunk of the file, or if its hash is eligible.
abbrev pub is_worth_asking : Round → ℕ → List ℕ → Bool
is_worth_asking (First is_first) at hash = (is_first && (at == 0)) || is_global_dedup_eligible hash
is_worth_asking Second at hash = false

-- what a pass does elsewhere after such a query
abbrev pub begun : Round → ℕ → List ℕ → List Act
begun round at hash = if is_worth_asking round at hash then Begun hash ∷ [] else []

-- A pass has come to an index by these queries, and these are all its acts. The runs that were kept before it, and those
-- kept by then, are given for each place, and so is the history entry of the last query from there. A kept run is passed
-- over without a query. At each other place there is one query from its chunk, for all hashes from there on. A run that it
-- finds is kept and passed over; among the calls stands the next hash after it too, unless the batch ends there. If the query
-- finds nothing, it is begun elsewhere if that is worth it, and the next place follows.
pub data PassesTo (round : Round) (hashes : List (List ℕ)) (before : List (Option Found)) (earlier : List (Option ℕ)) : ℕ → List (Option Found) → List (Option ℕ) → List Call → List Act → Type 0 where
  begins : PassesTo round hashes before earlier 0 before earlier [] []
  passes_over : (i : ℕ) (run : Segment) (is_external : Bool) (kept : List (Option Found)) (entries : List (Option ℕ)) (calls : List Call) (acts : List Act)
      → PassesTo round hashes before earlier i kept entries calls acts
      → slice_get kept i ≡ Some (Some (run, is_external))
      → PassesTo round hashes before earlier (i + run_len run) kept entries calls acts
  finds : (i entry : ℕ) (run : Segment) (is_external : Bool) (kept : List (Option Found)) (entries : List (Option ℕ)) (calls : List Call) (acts : List Act)
      → PassesTo round hashes before earlier i kept entries calls acts
      → slice_get kept i ≡ Some None → i < length hashes → 0 < run_len run
      → PassesTo round hashes before earlier (i + run_len run) (slice_set kept i (Some (run, is_external))) (slice_set entries i (Some entry))
      (calls ++ Asked entry (take (run_len run + 1) (drop i hashes)) (Some (run_len run)) ∷ [])
      (acts ++ Queried (drop i hashes) (Some (run, is_external)) ∷ [])
  misses : (i entry : ℕ) (hash : List ℕ) (kept : List (Option Found)) (entries : List (Option ℕ)) (calls : List Call) (acts : List Act)
      → PassesTo round hashes before earlier i kept entries calls acts
      → slice_get kept i ≡ Some None → slice_get hashes i ≡ Some hash
      → PassesTo round hashes before earlier (i + 1) kept (slice_set entries i (Some entry))
      (calls ++ Asked entry (take 1 (drop i hashes)) None ∷ [])
      (acts ++ Queried (drop i hashes) None ∷ begun round i hash)

-- The queries and the acts of a pass up to some index; or up to a query there that found nothing, and was to be begun
-- elsewhere, which failed.
pub data PassesUpTo (round : Round) (hashes : List (List ℕ)) (before : List (Option Found)) (earlier : List (Option ℕ)) : List Call → List Act → Type 0 where
  to_place : (i : ℕ) (kept : List (Option Found)) (entries : List (Option ℕ)) (calls : List Call) (acts : List Act)
      → PassesTo round hashes before earlier i kept entries calls acts → PassesUpTo round hashes before earlier calls acts
  to_query : (i entry : ℕ) (hash : List ℕ) (kept : List (Option Found)) (entries : List (Option ℕ)) (calls : List Call) (acts : List Act)
      → PassesTo round hashes before earlier i kept entries calls acts
      → slice_get kept i ≡ Some None → slice_get hashes i ≡ Some hash → is_worth_asking round i hash ≡ true
      → PassesUpTo round hashes before earlier (calls ++ Asked entry (take 1 (drop i hashes)) None ∷ []) (acts ++ Queried (drop i hashes) None ∷ [])

-- the runs that are kept at places where none was kept before
abbrev pub new_runs : List (Option Found) → List (Option Found) → List Segment
new_runs [] kept = []
new_runs (b ∷ before) [] = []
new_runs (None ∷ before) (Some found ∷ kept) = found.0 ∷ new_runs before kept
new_runs (None ∷ before) (None ∷ kept) = new_runs before kept
new_runs (Some old ∷ before) (k ∷ kept) = new_runs before kept

-- these calls are queries
abbrev pub AreQueries : List Call → Type 0
AreQueries [] = Unit {0}
AreQueries (Asked entry hashes reply ∷ calls) = AreQueries calls
AreQueries (Registered leaves next ∷ calls) = ⊥

-- The calls after are those before and then queries.
pub record AddsQueries (old new : List Call) : Type 0 where
  pub added : List Call
  pub calls : new ≡ old ++ added
  pub queries : AreQueries added
