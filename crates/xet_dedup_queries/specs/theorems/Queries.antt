-- How many queries a pass makes, and which calls they are.
use Rattle.std.proofs.Common.{◌*◌, length, map, take, drop, ◌≡◌, ℕ, ◌+◌, ◌≤◌, Bool, false, true≢false, List, [], ◌∷◌, ◌++◌, Option, Some, None, refl, sym, ap, ◌∙◌, arith}
use Rattle.std.proofs.lemmas.List.{append_assoc, append-nil}
use Rattle.std.proofs.lemmas.Option.{slice_get_within}
use Rattle.xet_choices.specs.Calls.{Call, queries_of, registered_chunks}
use Rattle.xet_choices.specs.Calls.Call.{Asked, Registered}
use Rattle.xet_choices.specs.theorems.Calls.{queries_of-append}
use Rattle.xet_dedup_queries.specs.Acts.{Act, Found}
use Rattle.xet_dedup_queries.specs.Asking.{PassesTo, PassesUpTo, kept_found, AreQueries, AddsQueries}
use Rattle.xet_dedup_queries.specs.Asking.PassesTo.{begins, passes_over, finds, misses}
use Rattle.xet_dedup_queries.specs.Asking.PassesUpTo.{to_place, to_query}
use Rattle.xet_dedup_queries.specs.Batch.{AsksUpTo, GoesOn, IsAsked, IsAskedOnce, none_asked, none_kept}
use Rattle.xet_dedup_queries.specs.Batch.AsksUpTo.{in_first, in_second}
use Rattle.xet_dedup_queries.specs.Batch.GoesOn.{no_more, once_more}
use Rattle.xet_dedup_queries.specs.Interface.{run_len}
use Rattle.xet_dedup_queries.specs.declared.passing.Round.{Round}
use Rattle.xet_dedup_queries.specs.declared.passing.Round.TheVariants.{First, Second}
use Rattle.xet_dedup_queries.specs.declared.places.Place.{Place}

module _ (round : Round) (hashes : List (List ℕ)) (before : List (Option Found)) (earlier : List (Option ℕ)) where
  -- A pass makes at most one query for each place that it has come to.
  pub queries_of-passes : (at : ℕ) (kept : List (Option Found)) (entries : List (Option ℕ)) (calls : List Call) (acts : List Act) → PassesTo round hashes before earlier at kept entries calls acts → queries_of calls ≤ at
  queries_of-passes at kept entries calls acts begins = omega arith
  queries_of-passes at kept entries calls acts (passes_over i run is_external k es cs done p here) = omega (arith, queries_of-passes i k es cs done p)
  queries_of-passes at kept entries calls acts (finds i entry run is_external k es cs done p here within some) =
      omega (arith, queries_of-passes i k es cs done p, queries_of-append cs (Asked entry (take (run_len run + 1) (drop i hashes)) (Some (run_len run)) ∷ []))
  queries_of-passes at kept entries calls acts (misses i entry hash k es cs done p here first) =
      omega (arith, queries_of-passes i k es cs done p, queries_of-append cs (Asked entry (take 1 (drop i hashes)) None ∷ []))

-- What follows the first pass has at most one query for each chunk.
queries_of-goes_on : (hashes : List (List ℕ)) (before : List (Option Found)) (earlier : List (Option ℕ)) (kept : List (Option Found)) (entries : List (Option ℕ)) (calls : List Call) (acts : List Act)
    → GoesOn hashes before earlier kept entries calls acts → queries_of calls ≤ length hashes
queries_of-goes_on hashes before earlier kept entries calls acts no_more = omega arith
queries_of-goes_on hashes before earlier kept entries calls acts (once_more k es cs done again p) = queries_of-passes Second hashes before earlier (length hashes) k es cs done p

-- A batch that is queried in one pass has at most one query for each chunk,
pub queries_of-asked_once : (is_first : Bool) (hashes : List (List ℕ)) (old new : List Call) (before after : List Act) (places : List Place) → IsAskedOnce is_first hashes old new before after places → queries_of new ≤ queries_of old + length hashes
queries_of-asked_once is_first hashes old new before after places is =
    let few = queries_of-passes (First is_first) hashes (none_kept hashes) (none_asked hashes) (length hashes) (map kept_found places) is.entries is.first is.first_acts is.first_pass in
    omega (arith, ap queries_of is.calls, queries_of-append old is.first, few)

-- and one that is queried in at most two passes, at most two.
pub queries_of-asked : (is_first : Bool) (hashes : List (List ℕ)) (old new : List Call) (before after : List Act) (places : List Place) (chunks bytes : ℕ)
    → IsAsked is_first hashes old new before after places chunks bytes → queries_of new ≤ queries_of old + 2 * length hashes
queries_of-asked is_first hashes old new before after places chunks bytes is =
    let few = queries_of-passes (First is_first) hashes (none_kept hashes) (none_asked hashes) (length hashes) is.between is.entries_between is.first is.first_acts is.first_pass in
    let again = queries_of-goes_on hashes is.between is.entries_between (map kept_found places) is.entries is.second is.second_acts is.second_pass in
    omega (arith, ap queries_of is.calls, queries_of-append old (is.first ++ is.second), queries_of-append is.first is.second, few, again)

pub queries-append : (xs ys : List Call) → AreQueries xs → AreQueries ys → AreQueries (xs ++ ys)
queries-append [] ys xs_are ys_are = ys_are
queries-append (Asked e hs r ∷ xs) ys xs_are ys_are = queries-append xs ys xs_are ys_are
queries-append (Registered leaves next ∷ xs) ys xs_are ys_are = absurd xs_are

-- queries register nothing
pub registered_chunks-queries : (calls : List Call) → AreQueries calls → registered_chunks calls ≡ 0
registered_chunks-queries [] are = refl
registered_chunks-queries (Asked e hs r ∷ calls) are = registered_chunks-queries calls are
registered_chunks-queries (Registered leaves next ∷ calls) are = absurd are

pub adds_none : (calls : List Call) → AddsQueries calls calls
adds_none calls = record { added = []; calls = sym (append-nil calls); queries = tt }

pub adds_one : (old new : List Call) (entry : ℕ) (hashes : List (List ℕ)) (reply : Option ℕ) → new ≡ old ++ Asked entry hashes reply ∷ [] → AddsQueries old new
adds_one old new entry hashes reply e = record { added = Asked entry hashes reply ∷ []; calls = e; queries = tt }

pub adds_more : (old mid new : List Call) → AddsQueries old mid → AddsQueries mid new → AddsQueries old new
adds_more old mid new first second = record {
  added = first.added ++ second.added;
  calls = second.calls ∙ ap (λ (c : List Call). c ++ second.added) first.calls ∙ append_assoc old first.added second.added;
  queries = queries-append first.added second.added first.queries second.queries;
}

-- calls that are the same add nothing
pub adds_same : (old mid new : List Call) → AddsQueries old mid → new ≡ mid → AddsQueries old new
adds_same old mid new first same = record { added = first.added; calls = same ∙ first.calls; queries = first.queries }

module _ (round : Round) (hashes : List (List ℕ)) (before : List (Option Found)) (earlier : List (Option ℕ)) where
  -- what a pass adds is queries
  pub queries-passes : (at : ℕ) (kept : List (Option Found)) (entries : List (Option ℕ)) (calls : List Call) (acts : List Act) → PassesTo round hashes before earlier at kept entries calls acts → AreQueries calls
  queries-passes at kept entries calls acts begins = tt
  queries-passes at kept entries calls acts (passes_over i run is_external k es cs done p here) = queries-passes i k es cs done p
  queries-passes at kept entries calls acts (finds i entry run is_external k es cs done p here within some) =
      queries-append cs (Asked entry (take (run_len run + 1) (drop i hashes)) (Some (run_len run)) ∷ []) (queries-passes i k es cs done p) tt
  queries-passes at kept entries calls acts (misses i entry hash k es cs done p here first) =
      queries-append cs (Asked entry (take 1 (drop i hashes)) None ∷ []) (queries-passes i k es cs done p) tt

-- what both passes add is queries
queries-goes_on : (hashes : List (List ℕ)) (before : List (Option Found)) (earlier : List (Option ℕ)) (kept : List (Option Found)) (entries : List (Option ℕ)) (calls : List Call) (acts : List Act)
    → GoesOn hashes before earlier kept entries calls acts → AreQueries calls
queries-goes_on hashes before earlier kept entries calls acts no_more = tt
queries-goes_on hashes before earlier kept entries calls acts (once_more k es cs done again p) = queries-passes Second hashes before earlier (length hashes) k es cs done p

pub queries-asked : (is_first : Bool) (hashes : List (List ℕ)) (old new : List Call) (before after : List Act) (places : List Place) (chunks bytes : ℕ)
    → (is : IsAsked is_first hashes old new before after places chunks bytes) → AreQueries (is.first ++ is.second)
queries-asked is_first hashes old new before after places chunks bytes is =
    queries-append is.first is.second
    (queries-passes (First is_first) hashes (none_kept hashes) (none_asked hashes) (length hashes) is.between is.entries_between is.first is.first_acts is.first_pass)
    (queries-goes_on hashes is.between is.entries_between (map kept_found places) is.entries is.second is.second_acts is.second_pass)

-- ---- passes that stopped

module _ (round : Round) (hashes : List (List ℕ)) (before : List (Option Found)) (earlier : List (Option ℕ)) where
  -- However far the runs go that are kept, a pass makes at most one query for each chunk,
  pub queries_of-passes_within : (at : ℕ) (kept : List (Option Found)) (entries : List (Option ℕ)) (calls : List Call) (acts : List Act) → PassesTo round hashes before earlier at kept entries calls acts
      → queries_of calls ≤ length hashes
  queries_of-passes_within at kept entries calls acts begins = omega arith
  queries_of-passes_within at kept entries calls acts (passes_over i run is_external k es cs done p here) = queries_of-passes_within i k es cs done p
  queries_of-passes_within at kept entries calls acts (finds i entry run is_external k es cs done p here within some) =
      omega (arith, within, queries_of-passes round hashes before earlier i k es cs done p, queries_of-append cs (Asked entry (take (run_len run + 1) (drop i hashes)) (Some (run_len run)) ∷ []))
  queries_of-passes_within at kept entries calls acts (misses i entry hash k es cs done p here first) =
      omega (arith, slice_get_within hashes i hash first, queries_of-passes round hashes before earlier i k es cs done p, queries_of-append cs (Asked entry (take 1 (drop i hashes)) None ∷ []))

  -- and so does one that stopped.
  pub queries_of-up_to : (calls : List Call) (acts : List Act) → PassesUpTo round hashes before earlier calls acts → queries_of calls ≤ length hashes
  queries_of-up_to calls acts (to_place i k es cs done p) = queries_of-passes_within i k es cs done p
  queries_of-up_to calls acts (to_query i entry hash k es cs done p here first worth) =
      omega (arith, slice_get_within hashes i hash first, queries_of-passes round hashes before earlier i k es cs done p, queries_of-append cs (Asked entry (take 1 (drop i hashes)) None ∷ []))

  pub queries-up_to : (calls : List Call) (acts : List Act) → PassesUpTo round hashes before earlier calls acts → AreQueries calls
  queries-up_to calls acts (to_place i k es cs done p) = queries-passes round hashes before earlier i k es cs done p
  queries-up_to calls acts (to_query i entry hash k es cs done p here first worth) =
      queries-append cs (Asked entry (take 1 (drop i hashes)) None ∷ []) (queries-passes round hashes before earlier i k es cs done p) tt

-- Queries of a batch that stopped are at most two for each chunk,
pub queries_of-asks_up_to : (is_global is_first : Bool) (hashes : List (List ℕ)) (calls : List Call) (acts : List Act) → AsksUpTo is_global is_first hashes calls acts → queries_of calls ≤ 2 * length hashes
queries_of-asks_up_to is_global is_first hashes calls acts (in_first cs done p) = omega (arith, queries_of-up_to (First is_first) hashes (none_kept hashes) (none_asked hashes) cs done p)
queries_of-asks_up_to is_global is_first hashes calls acts (in_second between es cs again done more on first second) =
    omega (
      arith,
      queries_of-append cs again,
      queries_of-passes_within (First is_first) hashes (none_kept hashes) (none_asked hashes) (length hashes) between es cs done first,
      queries_of-up_to Second hashes between es again more second,
    )

-- and at most one if no queries are sent elsewhere.
pub queries_of-asks_up_to_once : (is_first : Bool) (hashes : List (List ℕ)) (calls : List Call) (acts : List Act) → AsksUpTo false is_first hashes calls acts → queries_of calls ≤ length hashes
queries_of-asks_up_to_once is_first hashes calls acts (in_first cs done p) = queries_of-up_to (First is_first) hashes (none_kept hashes) (none_asked hashes) cs done p
queries_of-asks_up_to_once is_first hashes calls acts (in_second between es cs again done more on first second) = absurd (true≢false (sym on))

pub queries-asks_up_to : (is_global is_first : Bool) (hashes : List (List ℕ)) (calls : List Call) (acts : List Act) → AsksUpTo is_global is_first hashes calls acts → AreQueries calls
queries-asks_up_to is_global is_first hashes calls acts (in_first cs done p) = queries-up_to (First is_first) hashes (none_kept hashes) (none_asked hashes) cs done p
queries-asks_up_to is_global is_first hashes calls acts (in_second between es cs again done more on first second) =
    queries-append cs again
    (queries-passes (First is_first) hashes (none_kept hashes) (none_asked hashes) (length hashes) between es cs done first)
    (queries-up_to Second hashes between es again more second)
