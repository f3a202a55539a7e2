-- A pass begins, and ends.
use Rattle.std.proofs.Common.{◌≡◌, ◌⊎◌, ℕ, ◌+◌, ◌<◌, ◌≤◌, inl, inr, Bool, true, false, List, [], ◌∷◌, ◌++◌, Option, Some, None, length, map, replicate, refl, sym, ap, ◌∙◌, subst, arith}
use Rattle.std.specs.List.{slice_get, sum_by}
use Rattle.std.proofs.lemmas.List.{append-nil, append_assoc, length-replicate}
use Rattle.std.proofs.lemmas.Option.{slice_get_within}
use Rattle.xet_choices.specs.Calls.{Call}
use Rattle.xet_dedup_queries.specs.Acts.{Act, Found}
use Rattle.xet_dedup_queries.specs.Acts.Act.{Ended}
use Rattle.xet_dedup_queries.specs.Asking.{PassesTo, kept_found, new_runs}
use Rattle.xet_dedup_queries.specs.Asking.PassesTo.{begins}
use Rattle.xet_dedup_queries.specs.Batch.{AreLatest, IsAsked, IsAskedOnce, StopsAsking, none_asked, none_kept}
use Rattle.xet_dedup_queries.specs.Batch.AsksUpTo.{in_first, in_second}
use Rattle.xet_dedup_queries.specs.Batch.GoesOn.{no_more, once_more}
use Rattle.xet_dedup_queries.specs.Interface.{run_len}
use Rattle.xet_dedup_queries.specs.Passing.{Began, IsPassing, StopsPassing}
use Rattle.xet_dedup_queries.specs.Places.{ArePlaces, IsPlace, IsTaken}
use Rattle.xet_dedup_queries.specs.declared.passing.Round.{Round}
use Rattle.xet_dedup_queries.specs.declared.passing.Round.TheVariants.{First, Second}
use Rattle.xet_dedup_queries.specs.declared.places.Place.{Place}
use Rattle.xet_dedup_queries.specs.declared.places.Place.TheVariants.{Kept, Missed, Unasked}
use Rattle.xet_dedup_queries.specs.theorems.Growing.{asked_stays, place_grows}
use Rattle.xet_shard_format.specs.declared.record.FileDataSequenceEntry.{FileDataSequenceEntry as Segment}
use Rattle.xet_dedup_queries.proofs.Changed.{new_runs-same}
use Rattle.xet_dedup_queries.proofs.Lists.{get-replicate, map-replicate}
use Rattle.xet_dedup_queries.proofs.Missing.{stops_here}

-- places of which each is true, or was not come to, begin a pass
passing_begins : (listing : List ℕ → Option (List ℕ)) (standing : List (List ℕ) → Segment → Type 0) (round : Round) (hashes : List (List ℕ)) (old asked calls : List Call) (acts : List Act) (kept : List (Option Found)) (entries : List (Option ℕ)) (places : List Place)
    → calls ≡ old ++ asked → length places ≡ length hashes → length entries ≡ length hashes → map kept_found places ≡ kept → AreLatest entries places
    → ((i : ℕ) (h : List ℕ) (p : Place) → slice_get hashes i ≡ Some h → slice_get places i ≡ Some p → IsPlace listing standing asked hashes places i h p ⊎ ((0 ≤ i) × (p ≡ Unasked)))
    → ((i j : ℕ) (run : Segment) (is_external : Bool) (p : Place) → slice_get places i ≡ Some (Kept run is_external) → i < j → j < i + run_len run → slice_get places j ≡ Some p → IsTaken p)
    → IsPassing listing standing round hashes (record { old = old; asked = asked; acts = acts; kept = kept; entries = entries }) calls acts places 0 0 0
passing_begins listing standing round hashes old asked calls acts kept entries places are counted noted same latest each inside = record {
  within = omega arith;
  counted = counted;
  added = [];
  appended = are ∙ ap (λ (c : List Call). old ++ c) (sym (append-nil asked));
  done = [];
  acted = sym (append-nil acts);
  entries = entries;
  noted = noted;
  passes = subst (λ (k : List (Option Found)). PassesTo round hashes kept entries 0 k entries [] []) (sym same) begins;
  latest = latest;
  each = λ i h p is_h is. subst (λ (c : List Call). IsPlace listing standing c hashes places i h p ⊎ ((0 ≤ i) × (p ≡ Unasked))) (sym (append-nil asked)) (each i h p is_h is);
  inside = inside;
  ascend = λ i j m n lt below is_m is_n. absurd (omega arith);
  later = λ i m n h reply below is_m is. absurd (omega arith);
  chunks_found = ap (sum_by run_len) (sym (new_runs-same kept)) ∙ ap (λ (k : List (Option Found)). sum_by run_len (new_runs kept k)) (sym same);
  bytes_found = ap (sum_by (λ run. run.unpacked_segment_bytes)) (sym (new_runs-same kept)) ∙ ap (λ (k : List (Option Found)). sum_by (λ run. run.unpacked_segment_bytes) (new_runs kept k)) (sym same);
  few = omega arith;
  small = omega arith;
}

-- how the first pass begins
abbrev pub first_start : List (List ℕ) → List Call → List Act → Began
first_start hashes old acts = record { old = old; asked = []; acts = acts; kept = none_kept hashes; entries = none_asked hashes }

-- how the second pass begins, after the queries of the first
abbrev pub second_start : List Call → List Call → List Act → List (Option ℕ) → List Place → Began
second_start old asked acts entries places = record { old = old; asked = asked; acts = acts; kept = map kept_found places; entries = entries }

-- where no query came to a place, no run is kept
unasked_none : (hashes : List (List ℕ)) (places : List Place) → places ≡ replicate (length hashes) Unasked → map kept_found places ≡ none_kept hashes
unasked_none hashes places are = ap (map kept_found) are ∙ map-replicate kept_found (length hashes) Unasked

-- The first pass begins: no query came to a place.
pub first_begins : (listing : List ℕ → Option (List ℕ)) (standing : List (List ℕ) → Segment → Type 0) (round : Round) (hashes : List (List ℕ)) (calls : List Call) (acts : List Act) (places : List Place)
    → places ≡ replicate (length hashes) Unasked → IsPassing listing standing round hashes (first_start hashes calls acts) calls acts places 0 0 0
first_begins listing standing round hashes calls acts places are =
    let is_unasked : (i : ℕ) (p : Place) → slice_get places i ≡ Some p → p ≡ Unasked = λ i p is. get-replicate (length hashes) i Unasked p (ap (λ (l : List Place). slice_get l i) (sym are) ∙ is) in
    let no : Option ℕ = None in
    passing_begins listing standing round hashes calls [] calls acts (none_kept hashes) (none_asked hashes) places (sym (append-nil calls)) (ap length are ∙ length-replicate (length hashes) Unasked) (length-replicate (length hashes) no) (unasked_none hashes places are)
    (record { each = λ i m is. let none = is_unasked i (Missed m) is in absurd (cc none) })
    (λ i h p is_h is. inr (omega arith, is_unasked i p is))
    (λ i j run is_external p is_i lt below is_j. let none = is_unasked i (Kept run is_external) is_i in absurd (cc none))

module _ (listing grown : List ℕ → Option (List ℕ)) (standing stands_now : List (List ℕ) → Segment → Type 0) (lists : (h lengths : List ℕ) → listing h ≡ Some lengths → grown h ≡ Some lengths) (stands : (hs : List (List ℕ)) (r : Segment) → standing hs r → stands_now hs r) (round : Round) (hashes : List (List ℕ)) (began : Began) (calls after : List Call) (acts : List Act) (places : List Place) (same : after ≡ calls) where
  -- A pass stays as it is while the store grows.
  pub passing_grows : (at chunks bytes : ℕ) → IsPassing listing standing round hashes began calls acts places at chunks bytes → IsPassing grown stands_now round hashes began after acts places at chunks bytes
  passing_grows at chunks bytes was = record {
    within = was.within;
    counted = was.counted;
    added = was.added;
    appended = same ∙ was.appended;
    done = was.done;
    acted = was.acted;
    entries = was.entries;
    noted = was.noted;
    passes = was.passes;
    latest = was.latest;
    each = λ i h p is_h is. elim (was.each i h p is_h is) [
      | inl holds ↦ inl (place_grows listing grown standing stands_now lists stands (began.asked ++ was.added) [] (began.asked ++ was.added) hashes places i h p (sym (append-nil (began.asked ++ was.added))) holds)
      | inr not ↦ inr not
    ];
    inside = was.inside;
    ascend = was.ascend;
    later = was.later;
    chunks_found = was.chunks_found;
    bytes_found = was.bytes_found;
    few = was.few;
    small = was.small;
  }

module _ (listing : List ℕ → Option (List ℕ)) (standing : List (List ℕ) → Segment → Type 0) (round : Round) (hashes : List (List ℕ)) (began : Began) (calls : List Call) (acts : List Act) (places : List Place) (at chunks bytes : ℕ) (was : IsPassing listing standing round hashes began calls acts places at chunks bytes) (end : at ≡ length hashes) where
  all_true : (i : ℕ) (h : List ℕ) (p : Place) → slice_get hashes i ≡ Some h → slice_get places i ≡ Some p → IsPlace listing standing (began.asked ++ was.added) hashes places i h p
  all_true i h p is_h is = elim (was.each i h p is_h is) [
    | inl holds ↦ holds
    | inr not ↦ absurd (omega (arith, not.0, slice_get_within hashes i h is_h))
  ]

  -- At the end of a pass the places are true by the calls of the batch.
  pub passing_ends : ArePlaces listing standing began.old (began.asked ++ was.added) hashes places
  passing_ends = record {
    counted = was.counted;
    each = all_true;
    inside = was.inside;
    ascend = λ i j m n lt is_m is_n. was.ascend i j m n lt (omega (arith, slice_get_within places j (Missed n) is_n, was.counted)) is_m is_n;
    later = λ i m n h reply is_m is. was.later i m n h reply (omega (arith, slice_get_within places i (Missed m) is_m, was.counted)) is_m
        (asked_stays began.old began.asked (began.old ++ began.asked) n h reply refl is);
  }

  -- Another pass can begin.
  second_begins : (next : Round) (acts_after : List Act) → IsPassing listing standing next hashes (second_start began.old (began.asked ++ was.added) acts_after was.entries places) calls acts_after places 0 0 0
  second_begins next acts_after =
      passing_begins listing standing next hashes began.old (began.asked ++ was.added) calls acts_after (map kept_found places) was.entries places was.appended was.counted was.noted refl was.latest (λ i h p is_h is. inl (all_true i h p is_h is)) was.inside

-- The second pass begins, after the store has grown.
pub second_grows : (listing grown : List ℕ → Option (List ℕ)) (standing stands_now : List (List ℕ) → Segment → Type 0) → ((h lengths : List ℕ) → listing h ≡ Some lengths → grown h ≡ Some lengths) → ((hs : List (List ℕ)) (r : Segment) → standing hs r → stands_now hs r)
    → (round next : Round) (hashes : List (List ℕ)) (began : Began) (calls after : List Call) (acts acts_after : List Act) (places : List Place) (at chunks bytes : ℕ) → after ≡ calls → (was : IsPassing listing standing round hashes began calls acts places at chunks bytes) → at ≡ length hashes
    → IsPassing grown stands_now next hashes (second_start began.old (began.asked ++ was.added) acts_after was.entries places) after acts_after places 0 0 0
second_grows listing grown standing stands_now lists stands round next hashes began calls after acts acts_after places at chunks bytes same was end =
    passing_grows listing grown standing stands_now lists stands next hashes (second_start began.old (began.asked ++ was.added) acts_after was.entries places) calls after acts_after places same 0 0 0
    (second_begins listing standing round hashes began calls acts places at chunks bytes was end next acts_after)

-- Where queries elsewhere have found something, they were sent.
is_sent : (is_global found : Bool) → (is_global ≡ false → found ≡ false) → found ≡ true → is_global ≡ true
is_sent true found none is = refl
is_sent false found none is = absurd (cc (none refl, is))

-- A call of the first pass failed.
pub stops_in_first : (is_global is_first : Bool) (hashes : List (List ℕ)) (old later : List Call) (acts after : List Act) → StopsPassing (First is_first) hashes (first_start hashes old acts) later after → StopsAsking is_global is_first hashes old later acts after
stops_in_first is_global is_first hashes old later acts after stops = record {
  added = stops.added;
  done = stops.done;
  calls = stops.appended;
  acts = stops.acted;
  asks = in_first stops.added stops.done stops.passes;
}

module _ (listing : List ℕ → Option (List ℕ)) (standing : List (List ℕ) → Segment → Type 0) (is_first : Bool) (hashes : List (List ℕ)) (old mid : List Call) (acts_old acts_mid : List Act) (places : List Place) (at chunks bytes : ℕ) (was : IsPassing listing standing (First is_first) hashes (first_start hashes old acts_old) mid acts_mid places at chunks bytes) (end : at ≡ length hashes) where
  -- the first pass is over
  first_whole : PassesTo (First is_first) hashes (none_kept hashes) (none_asked hashes) (length hashes) (map kept_found places) was.entries was.added was.done
  first_whole = subst (λ (n : ℕ). PassesTo (First is_first) hashes (none_kept hashes) (none_asked hashes) n (map kept_found places) was.entries was.added was.done) end was.passes

  -- the acts after the queries elsewhere were ended
  acts_ended : (after : List Act) (found is : Bool) → after ≡ acts_mid ++ Ended found ∷ [] → found ≡ is → after ≡ acts_old ++ (was.done ++ Ended is ∷ [])
  acts_ended after found is same e =
      same ∙ ap (λ (b : Bool). acts_mid ++ Ended b ∷ []) e ∙ ap (λ (a : List Act). a ++ Ended is ∷ []) was.acted ∙ append_assoc acts_old was.done (Ended is ∷ [])

  -- The batch was queried in one pass.
  pub asked_once : (after : List Call) (acts_after : List Act) (found : Bool) → after ≡ mid → acts_after ≡ acts_mid ++ Ended found ∷ [] → found ≡ false → IsAskedOnce is_first hashes old after acts_old acts_after places
  asked_once after acts_after found same ended not = record {
    first = was.added;
    first_acts = was.done;
    entries = was.entries;
    calls = same ∙ was.appended;
    acts = acts_ended acts_after found false ended not;
    first_pass = first_whole;
    latest = was.latest;
  }

  -- The queries elsewhere had found nothing.
  pub asked_first : (after : List Call) (acts_after : List Act) (found : Bool) → after ≡ mid → acts_after ≡ acts_mid ++ Ended found ∷ [] → found ≡ false → IsAsked is_first hashes old after acts_old acts_after places 0 0
  asked_first after acts_after found same ended not = record {
    first = was.added;
    second = [];
    first_acts = was.done;
    second_acts = Ended false ∷ [];
    between = map kept_found places;
    entries_between = was.entries;
    entries = was.entries;
    calls = same ∙ was.appended ∙ ap (λ (c : List Call). old ++ c) (sym (append-nil was.added));
    acts = acts_ended acts_after found false ended not;
    first_pass = first_whole;
    second_pass = no_more;
    latest = was.latest;
    chunks_found = ap (sum_by run_len) (sym (new_runs-same (map kept_found places)));
    bytes_found = ap (sum_by (λ run. run.unpacked_segment_bytes)) (sym (new_runs-same (map kept_found places)));
  }

  -- The queries elsewhere can't be ended.
  pub stops_ending : (is_global : Bool) (later : List Call) (after : List Act) → later ≡ mid → after ≡ acts_mid → StopsAsking is_global is_first hashes old later acts_old after
  stops_ending is_global later after uncalled same =
      stops_in_first is_global is_first hashes old later acts_old after
      (stops_here listing standing (First is_first) hashes (first_start hashes old acts_old) mid acts_mid places at chunks bytes was later after uncalled same)

  module _ (acts_next : List Act) (is_global found : Bool) (ended : acts_next ≡ acts_mid ++ Ended found ∷ []) (yes : found ≡ true) (none : is_global ≡ false → found ≡ false) where
    -- the acts of the first pass, the end of the queries elsewhere and further acts
    acts_on : (after more : List Act) → after ≡ acts_next ++ more → after ≡ acts_old ++ (was.done ++ Ended true ∷ more)
    acts_on after more same =
        same ∙ ap (λ (a : List Act). a ++ more) (acts_ended acts_next found true ended yes)
        ∙ append_assoc acts_old (was.done ++ Ended true ∷ []) more
        ∙ ap (λ (a : List Act). acts_old ++ a) (append_assoc was.done (Ended true ∷ []) more)

    -- A call of the second pass failed.
    pub stops_in_second : (later : List Call) (after : List Act) → StopsPassing Second hashes (second_start old was.added acts_next was.entries places) later after → StopsAsking is_global is_first hashes old later acts_old after
    stops_in_second later after stops = record {
      added = was.added ++ stops.added;
      done = was.done ++ Ended true ∷ stops.done;
      calls = stops.appended;
      acts = acts_on after stops.done stops.acted;
      asks = in_second (map kept_found places) was.entries was.added stops.added was.done stops.done (is_sent is_global found none yes) first_whole stops.passes;
    }

    module _ (grown : List ℕ → Option (List ℕ)) (stands_now : List (List ℕ) → Segment → Type 0) (last : List Call) (acts_last : List Act) (new : List Place) (upto chunks_now bytes_now : ℕ) (now : IsPassing grown stands_now Second hashes (second_start old was.added acts_next was.entries places) last acts_last new upto chunks_now bytes_now) (over : upto ≡ length hashes) where
      -- The queries elsewhere can't be ended again.
      pub stops_ending_again : (later : List Call) (after : List Act) → later ≡ last → after ≡ acts_last → StopsAsking is_global is_first hashes old later acts_old after
      stops_ending_again later after uncalled same =
          stops_in_second later after
          (stops_here grown stands_now Second hashes (second_start old was.added acts_next was.entries places) last acts_last new upto chunks_now bytes_now now later after uncalled same)

      -- The batch was queried in two passes.
      pub asked_twice : (after : List Call) (acts_after : List Act) (again : Bool) → after ≡ last → acts_after ≡ acts_last ++ Ended again ∷ [] → IsAsked is_first hashes old after acts_old acts_after new chunks_now bytes_now
      asked_twice after acts_after again is_last ended_again = record {
        first = was.added;
        second = now.added;
        first_acts = was.done;
        second_acts = Ended true ∷ (now.done ++ Ended again ∷ []);
        between = map kept_found places;
        entries_between = was.entries;
        entries = now.entries;
        calls = is_last ∙ now.appended;
        acts = acts_on acts_after (now.done ++ Ended again ∷ [])
            (ended_again ∙ ap (λ (a : List Act). a ++ Ended again ∷ []) now.acted ∙ append_assoc acts_next now.done (Ended again ∷ []));
        first_pass = first_whole;
        second_pass = once_more (map kept_found new) now.entries now.added now.done again
            (subst (λ (n : ℕ). PassesTo Second hashes (map kept_found places) was.entries n (map kept_found new) now.entries now.added now.done) over now.passes);
        latest = now.latest;
        chunks_found = now.chunks_found;
        bytes_found = now.bytes_found;
      }
