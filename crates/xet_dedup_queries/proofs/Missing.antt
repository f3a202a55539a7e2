-- A pass goes on, after a query that found nothing.
use Rattle.std.proofs.Common.{◌≡◌, ◌⊎◌, ℕ, suc, ◌+◌, ◌<◌, ◌≤◌, inl, inr, Bool, true, List, [], ◌∷◌, ◌++◌, Option, Some, None, length, map, take, drop, set, refl, sym, ap, ◌∙◌, subst, arith}
use Rattle.std.specs.List.{All, slice_get, sum_by}
use Rattle.std.proofs.lemmas.Bool.{cases_eq, cases_lt}
use Rattle.std.proofs.lemmas.List.{append_assoc, length-set}
use Rattle.std.proofs.lemmas.List.Elements.{Contains-append_right, Contains-push}
use Rattle.std.proofs.lemmas.Option.{slice_get-map, slice_get_within}
use Rattle.xet_choices.specs.Calls.{Call, IsAskedIn, entries_of}
use Rattle.xet_choices.specs.Calls.Call.{Asked}
use Rattle.xet_choices.specs.theorems.Calls.{entries_of-append}
use Rattle.xet_dedup_queries.specs.Acts.{Act, Found}
use Rattle.xet_dedup_queries.specs.Acts.Act.{Queried}
use Rattle.xet_dedup_queries.specs.Asking.{PassesTo, begun, is_worth_asking, kept_found, new_runs}
use Rattle.xet_dedup_queries.specs.Asking.PassesTo.{misses}
use Rattle.xet_dedup_queries.specs.Asking.PassesUpTo.{to_place, to_query}
use Rattle.xet_dedup_queries.specs.Interface.{asked, run_len}
use Rattle.xet_dedup_queries.specs.Passing.{Began, IsPassing, StopsPassing, missed}
use Rattle.xet_dedup_queries.specs.Places.{IsPlace, IsTaken}
use Rattle.xet_dedup_queries.specs.declared.passing.Round.{Round}
use Rattle.xet_dedup_queries.specs.declared.places.Place.{Place}
use Rattle.xet_dedup_queries.specs.declared.places.Place.TheVariants.{Kept, Missed, Covered, Unasked}
use Rattle.xet_dedup_queries.specs.theorems.Growing.{asked_stays, place_grows}
use Rattle.xet_shard_format.specs.declared.record.FileDataSequenceEntry.{FileDataSequenceEntry as Segment}
use Rattle.xet_dedup_queries.proofs.Changed.{asked_at, asked_one, below_asked, map-set_keeps, missed-keeps}
use Rattle.xet_dedup_queries.proofs.Keeping.{place_in}
use Rattle.xet_dedup_queries.proofs.Lists.{drop_from, get-set_here, get-set_other, get_mapped, get_within, same_at}

-- What a place is after a query found nothing: it is the query's, or as it was.
data Now (places : List Place) (at : ℕ) (q : Place) (i : ℕ) (p : Place) : Type 0 where
  itself : i ≡ at → p ≡ q → Now places at q i p
  apart : (i < at) ⊎ (at + 1 ≤ i) → slice_get places i ≡ Some p → Now places at q i p

missed-taken : (entry : ℕ) (p : Place) → IsTaken p → IsTaken (missed entry p)
missed-taken entry (Kept run is_external) is = tt
missed-taken entry (Missed m) is = absurd is
missed-taken entry (Covered start) is = tt
missed-taken entry Unasked is = absurd is

missed_is : (entry m : ℕ) (p : Place) → Missed m ≡ missed entry p → m ≡ entry
missed_is entry m (Kept run is_external) e = absurd (cc e)
missed_is entry m (Missed other) e = cc e
missed_is entry m (Covered start) e = absurd (cc e)
missed_is entry m Unasked e = cc e

not_kept : (entry : ℕ) (run : Segment) (is_external : Bool) (p : Place) → kept_found p ≡ None → Kept run is_external ≡ missed entry p → ⊥
not_kept entry run is_external p none e =
    let kept : Found = (run, is_external) in
    let no : Some kept ≡ None = ap kept_found e ∙ missed-keeps entry p ∙ none in cc no

module _ (listing grown : List ℕ → Option (List ℕ)) (standing stands_now : List (List ℕ) → Segment → Type 0) (lists : (h lengths : List ℕ) → listing h ≡ Some lengths → grown h ≡ Some lengths) (stands : (hs : List (List ℕ)) (r : Segment) → standing hs r → stands_now hs r) (round : Round) (hashes : List (List ℕ)) (began : Began) (calls : List Call) (acts : List Act) (places : List Place) (at chunks bytes : ℕ) (was : IsPassing listing standing round hashes began calls acts places at chunks bytes) (after : List Call) (acts_after : List Act) (entry : ℕ) (first : List ℕ) (old : Place) (begins_with : slice_get hashes at ≡ Some first) (here : slice_get places at ≡ Some old) (none : kept_found old ≡ None) (calls_are : after ≡ calls ++ Asked entry (take 1 (drop at hashes)) None ∷ []) (acts_are : acts_after ≡ acts ++ Queried (drop at hashes) None ∷ begun round at first) (above : All (λ n. n < entry) (entries_of calls)) where
  -- the calls of the batch
  abbrev all_asked : List Call
  all_asked = began.asked ++ (was.added ++ Asked entry (take 1 (drop at hashes)) None ∷ [])

  start : at < length places
  start = slice_get_within places at old here

  runs_now : map kept_found (set places at (missed entry old)) ≡ map kept_found places
  runs_now = map-set_keeps kept_found places at old (missed entry old) here (missed-keeps entry old)

  kept_here : slice_get (map kept_found places) at ≡ Some None
  kept_here = slice_get-map kept_found places at ∙ rw (here, none) refl

  now : (i : ℕ) (p : Place) → slice_get (set places at (missed entry old)) i ≡ Some p → Now places at (missed entry old) i p
  now i p is = elim (cases_eq i at) [
    | inl e ↦ itself e (same_at (slice_get (set places at (missed entry old)) at) p (missed entry old) (rw e at is) (get-set_here places at (missed entry old) start))
    | inr other ↦
        let was_it = sym (get-set_other places at i (missed entry old) other) ∙ is in
        elim (cases_lt i at) [
          | inl less ↦ apart (inl less) was_it
          | inr more ↦ apart (inr (omega (arith, other))) was_it
        ]
  ]

  keeps : (i : ℕ) (r : Segment) (x : Bool) → slice_get places i ≡ Some (Kept r x) → slice_get (set places at (missed entry old)) i ≡ Some (Kept r x)
  keeps i r x is = elim (cases_eq i at) [
    | inl e ↦
        let one : old ≡ Kept r x = same_at (slice_get places at) old (Kept r x) here (rw e at is) in
        let kept : Found = (r, x) in
        let no : None ≡ Some kept = sym none ∙ ap kept_found one in
        absurd (cc no)
    | inr other ↦ get-set_other places at i (missed entry old) other ∙ is
  ]

  stays_true : (i : ℕ) (h : List ℕ) (p : Place) → IsPlace listing standing (began.asked ++ was.added) hashes places i h p → IsPlace grown stands_now all_asked hashes (set places at (missed entry old)) i h p
  stays_true i h p is =
      place_in grown stands_now all_asked hashes places (set places at (missed entry old)) keeps i h p
      (place_grows listing grown standing stands_now lists stands (began.asked ++ was.added) (Asked entry (take 1 (drop at hashes)) None ∷ []) all_asked hashes places i h p (sym (append_assoc began.asked was.added (Asked entry (take 1 (drop at hashes)) None ∷ []))) is)

  asked_itself : IsAskedIn all_asked entry first None
  asked_itself =
      asked_at all_asked entry hashes at 0 first None begins_with
      (Contains-append_right began.asked (was.added ++ Asked entry (take 1 (drop at hashes)) None ∷ []) (Asked entry (take 1 (drop at hashes)) None) (Contains-push was.added (Asked entry (take 1 (drop at hashes)) None)))

  known : (n : ℕ) (h : List ℕ) (reply : Option ℕ) → IsAskedIn (began.asked ++ was.added) n h reply → IsAskedIn calls n h reply
  known n h reply is = subst (λ (c : List Call). IsAskedIn c n h reply) (sym was.appended) (is.0, Contains-append_right began.old (began.asked ++ was.added) (Asked n (h ∷ is.0) reply) is.1)

  itself_true : (q : Place) → kept_found q ≡ None → IsPlace listing standing (began.asked ++ was.added) hashes places at first q ⊎ ((at ≤ at) × (q ≡ Unasked))
      → IsPlace grown stands_now all_asked hashes (set places at (missed entry old)) at first (missed entry q)
  itself_true (Kept r x) free is = absurd (cc free)
  itself_true (Missed m) free is = asked_itself
  itself_true (Covered s) free (inl is) = stays_true at first (Covered s) is
  itself_true (Covered s) free (inr not) = absurd (cc not.1)
  itself_true Unasked free is = asked_itself

  each_now : (i : ℕ) (h : List ℕ) (p : Place) → slice_get hashes i ≡ Some h → Now places at (missed entry old) i p
      → IsPlace grown stands_now all_asked hashes (set places at (missed entry old)) i h p ⊎ ((at + 1 ≤ i) × (p ≡ Unasked))
  each_now i h p is_h (itself e is) =
      let is_first : slice_get hashes at ≡ Some h = rw e at is_h in
      let one : first ≡ h = same_at (slice_get hashes at) first h begins_with is_first in
      let holds = itself_true old none (was.each at first old begins_with here) in
      inl (rw (e, is, ← one) holds)
  each_now i h p is_h (apart side is) = elim (was.each i h p is_h is) [
    | inl holds ↦ inl (stays_true i h p holds)
    | inr not ↦ elim side [
      | inl less ↦ absurd (omega (arith, not.0))
      | inr past ↦ inr (past, not.1)
    ]
  ]

  taken_now : (r : Segment) (x : Bool) (i j : ℕ) (p q : Place) → p ≡ Kept r x → i < j → j < i + run_len r → Now places at (missed entry old) i p → Now places at (missed entry old) j q → IsTaken q
  taken_now r x i j p q is lt below (itself e is_p) at_j = absurd (not_kept entry r x old none (sym is ∙ is_p))
  taken_now r x i j p q is lt below (apart side is_p) (itself e is_q) =
      let below_at : at < i + run_len r = omega (arith, e) in
      subst IsTaken (sym is_q) (missed-taken entry old (was.inside i at r x old (is_p ∙ ap Some is) (omega (arith, e)) below_at here))
  taken_now r x i j p q is lt below (apart side is_p) (apart other is_q) = was.inside i j r x q (is_p ∙ ap Some is) lt below is_q

  -- an entry that stood at a place before is below the new one
  below_now : (i m : ℕ) → i < at → slice_get places i ≡ Some (Missed m) → m < entry
  below_now i m lt is =
      let h = get_within hashes i (omega (arith, was.within)) in
      elim (was.each i h.0 (Missed m) h.1 is) [
        | inl asked ↦ below_asked entry calls m h.0 None above (known m h.0 None asked)
        | inr not ↦ absurd (cc not.1)
      ]

  ascend_now : (i j m n : ℕ) (p q : Place) → p ≡ Missed m → q ≡ Missed n → i < j → j < at + 1 → Now places at (missed entry old) i p → Now places at (missed entry old) j q → m < n
  ascend_now i j m n p q is_m is_n lt below (itself e is_p) at_j = absurd (omega (arith, e))
  ascend_now i j m n p q is_m is_n lt below (apart side is_p) (itself e is_q) =
      let one : n ≡ entry = missed_is entry n old (sym is_n ∙ is_q) in
      rw one (below_now i m (omega (arith, e)) (is_p ∙ ap Some is_m))
  ascend_now i j m n p q is_m is_n lt below (apart side is_p) (apart other is_q) = elim other [
    | inl less ↦ was.ascend i j m n lt less (is_p ∙ ap Some is_m) (is_q ∙ ap Some is_n)
    | inr past ↦ absurd (omega arith)
  ]

  later_now : (i m n : ℕ) (h : List ℕ) (reply : Option ℕ) (p : Place) → p ≡ Missed m → i < at + 1 → Now places at (missed entry old) i p → IsAskedIn (began.old ++ began.asked) n h reply → n < m
  later_now i m n h reply p is_m below (itself e is_p) asked =
      let one : m ≡ entry = missed_is entry m old (sym is_m ∙ is_p) in
      rw one (below_asked entry calls n h reply above (asked_stays (began.old ++ began.asked) was.added calls n h reply (was.appended ∙ sym (append_assoc began.old began.asked was.added)) asked))
  later_now i m n h reply p is_m below (apart side is_p) asked = elim side [
    | inl less ↦ was.later i m n h reply less (is_p ∙ ap Some is_m) asked
    | inr past ↦ absurd (omega arith)
  ]

  latest_at : (i m : ℕ) (p : Place) → p ≡ Missed m → Now places at (missed entry old) i p → slice_get (set was.entries at (Some entry)) i ≡ Some (Some m)
  latest_at i m p is_m (itself e is_p) =
      let one : m ≡ entry = missed_is entry m old (sym is_m ∙ is_p) in
      rw (e, one) (get-set_here was.entries at (Some entry) (omega (arith, was.noted, slice_get_within hashes at first begins_with)))
  latest_at i m p is_m (apart (inl less) is_p) = get-set_other was.entries at i (Some entry) (λ e. omega (arith, e)) ∙ was.latest.each i m (is_p ∙ ap Some is_m)
  latest_at i m p is_m (apart (inr past) is_p) = get-set_other was.entries at i (Some entry) (λ e. omega (arith, e)) ∙ was.latest.each i m (is_p ∙ ap Some is_m)

  -- The place is missed, unless a run covers it, and the pass goes on after it.
  pub passing_missed : IsPassing grown stands_now round hashes began after acts_after (set places at (missed entry old)) (at + 1) chunks bytes
  passing_missed = record {
    within = omega (arith, slice_get_within hashes at first begins_with);
    counted = length-set places at (missed entry old) ∙ was.counted;
    added = was.added ++ Asked entry (take 1 (drop at hashes)) None ∷ [];
    appended = calls_are ∙ ap (λ (c : List Call). c ++ Asked entry (take 1 (drop at hashes)) None ∷ []) was.appended ∙ append_assoc began.old (began.asked ++ was.added) (Asked entry (take 1 (drop at hashes)) None ∷ []) ∙ ap (λ (c : List Call). began.old ++ c) (append_assoc began.asked was.added (Asked entry (take 1 (drop at hashes)) None ∷ []));
    done = was.done ++ Queried (drop at hashes) None ∷ begun round at first;
    acted = acts_are ∙ ap (λ (a : List Act). a ++ Queried (drop at hashes) None ∷ begun round at first) was.acted ∙ append_assoc began.acts was.done (Queried (drop at hashes) None ∷ begun round at first);
    entries = set was.entries at (Some entry);
    noted = length-set was.entries at (Some entry) ∙ was.noted;
    passes =
        subst (λ (k : List (Option Found)). PassesTo round hashes began.kept began.entries (at + 1) k (set was.entries at (Some entry)) (was.added ++ Asked entry (take 1 (drop at hashes)) None ∷ []) (was.done ++ Queried (drop at hashes) None ∷ begun round at first))
        (sym runs_now) (misses at entry first (map kept_found places) was.entries was.added was.done was.passes kept_here begins_with);
    latest = record { each = λ i m is. latest_at i m (Missed m) refl (now i (Missed m) is) };
    each = λ i h p is_h is. each_now i h p is_h (now i p is);
    inside = λ i j r x p is_i lt below is_j. taken_now r x i j (Kept r x) p refl lt below (now i (Kept r x) is_i) (now j p is_j);
    ascend = λ i j m n lt below is_m is_n. ascend_now i j m n (Missed m) (Missed n) refl refl lt below (now i (Missed m) is_m) (now j (Missed n) is_n);
    later = λ i m n h reply below is_m asked. later_now i m n h reply (Missed m) refl below (now i (Missed m) is_m) asked;
    chunks_found = was.chunks_found ∙ ap (λ (k : List (Option Found)). sum_by run_len (new_runs began.kept k)) (sym runs_now);
    bytes_found = was.bytes_found ∙ ap (λ (k : List (Option Found)). sum_by (λ r. r.unpacked_segment_bytes) (new_runs began.kept k)) (sym runs_now);
    few = omega (arith, was.few);
    small = omega (arith, was.small);
  }

-- the calls after a query that found nothing
asked_more : (old asked_before added calls after : List Call) (hashes : List (List ℕ)) (at entry : ℕ) (first : List ℕ) → slice_get hashes at ≡ Some first → after ≡ calls ++ asked entry (drop at hashes) None
    → calls ≡ old ++ (asked_before ++ added) → after ≡ old ++ (asked_before ++ (added ++ Asked entry (take 1 (drop at hashes)) None ∷ []))
asked_more old asked_before added calls after hashes at entry first begins_with calls_are appended =
    let one : List Call = Asked entry (take 1 (drop at hashes)) None ∷ [] in
    calls_are ∙ ap (λ (c : List Call). calls ++ c) (asked_one entry (drop at hashes) None first (drop (suc at) hashes) (drop_from hashes at first begins_with))
    ∙ ap (λ (c : List Call). c ++ one) appended ∙ append_assoc old (asked_before ++ added) one ∙ ap (λ (c : List Call). old ++ c) (append_assoc asked_before added one)

-- The pass after a query that found nothing. `last` is the number of the latest query.
pub missed_step : (listing grown : List ℕ → Option (List ℕ)) (standing stands_now : List (List ℕ) → Segment → Type 0) → ((h lengths : List ℕ) → listing h ≡ Some lengths → grown h ≡ Some lengths) → ((hs : List (List ℕ)) (r : Segment) → standing hs r → stands_now hs r)
    → (round : Round) (hashes : List (List ℕ)) (began : Began) (calls after : List Call) (acts acts_after : List Act) (places : List Place) (at chunks bytes entry last : ℕ) (first : List ℕ) (old : Place)
    → IsPassing listing standing round hashes began calls acts places at chunks bytes → slice_get hashes at ≡ Some first → slice_get (map kept_found places) at ≡ Some None
    → slice_get places at ≡ Some old → after ≡ calls ++ asked entry (drop at hashes) None → acts_after ≡ acts ++ Queried (drop at hashes) None ∷ begun round at first → All (λ n. n < entry) (entries_of calls)
    → ((b : List ℕ) (e : ℕ) → entries_of after ≡ b ++ e ∷ [] → last ≡ e)
    → IsPassing grown stands_now round hashes began after acts_after (set places at (missed last old)) (at + 1) chunks bytes
missed_step listing grown standing stands_now lists stands round hashes began calls after acts acts_after places at chunks bytes entry last first old was begins_with free here calls_are acts_are above latest =
    let rest = drop_from hashes at first begins_with in
    let one : after ≡ calls ++ Asked entry (take 1 (drop at hashes)) None ∷ [] = calls_are ∙ ap (λ (c : List Call). calls ++ c) (asked_one entry (drop at hashes) None first (drop (suc at) hashes) rest) in
    let mapped = get_mapped kept_found places at None free in
    let none : kept_found old ≡ None = ap kept_found (same_at (slice_get places at) old mapped.0 here mapped.1) ∙ mapped.2 in
    subst (λ (n : ℕ). IsPassing grown stands_now round hashes began after acts_after (set places at (missed n old)) (at + 1) chunks bytes) (sym (latest (entries_of calls) entry (ap entries_of one ∙ entries_of-append calls (Asked entry (take 1 (drop at hashes)) None ∷ []))))
    (passing_missed listing grown standing stands_now lists stands round hashes began calls acts places at chunks bytes was after acts_after entry first old begins_with here none one acts_are above)

module _ (listing : List ℕ → Option (List ℕ)) (standing : List (List ℕ) → Segment → Type 0) (round : Round) (hashes : List (List ℕ)) (began : Began) (calls : List Call) (acts : List Act) (places : List Place) (at chunks bytes : ℕ) (was : IsPassing listing standing round hashes began calls acts places at chunks bytes) where
  -- A call fails before the next query is answered.
  pub stops_here : (later : List Call) (after : List Act) → later ≡ calls → after ≡ acts → StopsPassing round hashes began later after
  stops_here later after uncalled same = record {
    added = was.added;
    appended = uncalled ∙ was.appended;
    done = was.done;
    acted = same ∙ was.acted;
    passes = to_place at (map kept_found places) was.entries was.added was.done was.passes;
  }

  -- A query finds nothing, and can't be begun elsewhere.
  pub stops_missed : (later : List Call) (after : List Act) (entry : ℕ) (first : List ℕ) → slice_get (map kept_found places) at ≡ Some None → slice_get hashes at ≡ Some first → is_worth_asking round at first ≡ true
      → later ≡ calls ++ asked entry (drop at hashes) None → after ≡ acts ++ Queried (drop at hashes) None ∷ [] → StopsPassing round hashes began later after
  stops_missed later after entry first free begins_with worth called same = record {
    added = was.added ++ Asked entry (take 1 (drop at hashes)) None ∷ [];
    appended = asked_more began.old began.asked was.added calls later hashes at entry first begins_with called was.appended;
    done = was.done ++ Queried (drop at hashes) None ∷ [];
    acted = same ∙ ap (λ (a : List Act). a ++ Queried (drop at hashes) None ∷ []) was.acted ∙ append_assoc began.acts was.done (Queried (drop at hashes) None ∷ []);
    passes = to_query at entry first (map kept_found places) was.entries was.added was.done was.passes free begins_with worth;
  }
