-- A pass goes on, after a query that found a run.
use Rattle.std.proofs.Common.{◌≡◌, ◌≢◌, ◌⊎◌, ◌^◌, ℕ, suc, ◌+◌, ◌<◌, ◌≤◌, inl, inr, Bool, List, [], ◌∷◌, ◌++◌, Option, Some, None, length, map, take, drop, set, refl, sym, ap, ◌∙◌, subst, arith, length-drop}
use Rattle.std.specs.List.{Contains, slice_get, sum_by}
use Rattle.std.proofs.lemmas.Bool.{cases_eq, cases_lt}
use Rattle.std.proofs.lemmas.List.{append_assoc, length-set, map-set}
use Rattle.std.proofs.lemmas.List.Elements.{Contains-append_right, Contains-push}
use Rattle.std.proofs.lemmas.List.Sums.{sum_by-take-drop, sum_by-take-le}
use Rattle.std.proofs.lemmas.Option.{slice_get-map, slice_get_within}
use Rattle.xet_choices.specs.Calls.{Call}
use Rattle.xet_choices.specs.Calls.Call.{Asked}
use Rattle.xet_dedup_queries.specs.Acts.{Act, Found}
use Rattle.xet_dedup_queries.specs.Acts.Act.{Queried}
use Rattle.xet_dedup_queries.specs.Asking.{PassesTo, kept_found, new_runs}
use Rattle.xet_dedup_queries.specs.Asking.PassesTo.{finds}
use Rattle.xet_dedup_queries.specs.Interface.{IsFoundRun, LiesIn, asked, run_len}
use Rattle.xet_dedup_queries.specs.Passing.{Began, Covers, IsPassing, covered}
use Rattle.xet_dedup_queries.specs.Places.{IsPlace, IsTaken}
use Rattle.xet_dedup_queries.specs.declared.passing.Round.{Round}
use Rattle.xet_dedup_queries.specs.declared.places.Place.{Place}
use Rattle.xet_dedup_queries.specs.declared.places.Place.TheVariants.{Kept, Missed, Covered, Unasked}
use Rattle.xet_dedup_queries.specs.theorems.Growing.{place_grows}
use Rattle.xet_shard_format.specs.declared.record.FileDataSequenceEntry.{FileDataSequenceEntry as Segment}
use Rattle.xet_dedup_queries.proofs.Changed.{asked_at, asked_one, new_runs-set, was_none}
use Rattle.xet_dedup_queries.proofs.Keeping.{place_in}
use Rattle.xet_dedup_queries.proofs.Lists.{drop_from, get-set_here, get-set_other, get_mapped, get_within, same_at}

-- What a place is after a run was found: it is the run's, or inside the run, or as it was.
data Now (places : List Place) (at : ℕ) (run : Segment) (is_external : Bool) (i : ℕ) (p : Place) : Type 0 where
  itself : i ≡ at → p ≡ Kept run is_external → Now places at run is_external i p
  under : (q : Place) → at < i → i < at + run_len run → slice_get places i ≡ Some q → p ≡ covered at q → Now places at run is_external i p
  apart : (i < at) ⊎ (at + run_len run ≤ i) → slice_get places i ≡ Some p → Now places at run is_external i p

-- the bytes of a run are within those of its xorb
bytes_fit : (listing : List ℕ → Option (List ℕ)) (run : Segment) → LiesIn listing run → run.unpacked_segment_bytes < 2 ^ 32
bytes_fit listing run is =
    let rest = drop run.chunk_index_start is.lengths in
    omega (arith, is.bytes, is.small, sum_by-take-le (λ n. n) rest (run_len run), sum_by-take-drop (λ n. n) is.lengths run.chunk_index_start)

covered-taken : (start : ℕ) (p : Place) → IsTaken (covered start p)
covered-taken start (Kept run is_external) = tt
covered-taken start (Missed entry) = tt
covered-taken start (Covered other) = tt
covered-taken start Unasked = tt

not_covered : (start m : ℕ) (p : Place) → Missed m ≡ covered start p → ⊥
not_covered start m (Kept run is_external) e = cc e
not_covered start m (Missed entry) e = cc e
not_covered start m (Covered other) e = cc e
not_covered start m Unasked e = cc e

-- a place that is covered and at which a run is kept had the run before
pub kept_before : (start : ℕ) (run : Segment) (is_external : Bool) (p : Place) → Kept run is_external ≡ covered start p → p ≡ Kept run is_external
kept_before start run is_external (Kept r x) e = sym e
kept_before start run is_external (Missed entry) e = absurd (cc e)
kept_before start run is_external (Covered other) e = absurd (cc e)
kept_before start run is_external Unasked e = absurd (cc e)

module _ (listing grown : List ℕ → Option (List ℕ)) (standing stands_now : List (List ℕ) → Segment → Type 0) (lists : (h lengths : List ℕ) → listing h ≡ Some lengths → grown h ≡ Some lengths) (stands : (hs : List (List ℕ)) (r : Segment) → standing hs r → stands_now hs r) (round : Round) (hashes : List (List ℕ)) (began : Began) (calls : List Call) (acts : List Act) (places : List Place) (at chunks bytes : ℕ) (was : IsPassing listing standing round hashes began calls acts places at chunks bytes) (after : List Call) (acts_after : List Act) (entry : ℕ) (run : Segment) (is_external : Bool) (old : Place) (new : List Place) (more : at < length hashes) (here : slice_get places at ≡ Some old) (none : kept_found old ≡ None) (calls_are : after ≡ calls ++ Asked entry (take (run_len run + 1) (drop at hashes)) (Some (run_len run)) ∷ []) (acts_are : acts_after ≡ acts ++ Queried (drop at hashes) (Some (run, is_external)) ∷ []) (found : IsFoundRun grown stands_now (drop at hashes) (run_len run) run) (fits : run.unpacked_segment_bytes < 2 ^ 32) (covers : Covers at (at + run_len run) (set places at (Kept run is_external)) new) where
  -- the calls of the batch
  abbrev all_asked : List Call
  all_asked = began.asked ++ (was.added ++ Asked entry (take (run_len run + 1) (drop at hashes)) (Some (run_len run)) ∷ [])

  start : at < length places
  start = slice_get_within places at old here

  kept_here : slice_get (map kept_found places) at ≡ Some None
  kept_here = slice_get-map kept_found places at ∙ rw (here, none) refl

  long : length new ≡ length places
  long = covers.counted ∙ length-set places at (Kept run is_external)

  itself_now : slice_get new at ≡ Some (Kept run is_external)
  itself_now = covers.before at (omega arith) ∙ get-set_here places at (Kept run is_external) start

  earlier_now : (i : ℕ) → i < at → slice_get new i ≡ slice_get places i
  earlier_now i lt = covers.before i (omega arith) ∙ get-set_other places at i (Kept run is_external) (λ e. omega (arith, e))

  later_now : (i : ℕ) → at + run_len run ≤ i → slice_get new i ≡ slice_get places i
  later_now i le = covers.after i le ∙ get-set_other places at i (Kept run is_external) (λ e. omega (arith, e, found.some))

  inside_now : (i : ℕ) (q : Place) → at < i → i < at + run_len run → slice_get places i ≡ Some q → slice_get new i ≡ Some (covered at q)
  inside_now i q lt below is = covers.inside i q lt below (get-set_other places at i (Kept run is_external) (λ e. omega (arith, e)) ∙ is)

  now : (i : ℕ) (p : Place) → slice_get new i ≡ Some p → Now places at run is_external i p
  now i p is = elim (cases_lt i at) [
    | inl less ↦ apart (inl less) (sym (earlier_now i less) ∙ is)
    | inr more ↦ elim (cases_eq i at) [
      | inl e ↦ itself e (same_at (slice_get new at) p (Kept run is_external) (rw e at is) itself_now)
      | inr other ↦ elim (cases_lt i (at + run_len run)) [
        | inl within ↦
            let q = get_within places i (omega (arith, slice_get_within new i p is, long)) in
            under q.0 (omega (arith, other)) within q.1 (same_at (slice_get new i) p (covered at q.0) is (inside_now i q.0 (omega (arith, other)) within q.1))
        | inr past ↦ apart (inr past) (sym (later_now i past) ∙ is)
      ]
    ]
  ]

  keeps : (i : ℕ) (r : Segment) (x : Bool) → slice_get places i ≡ Some (Kept r x) → slice_get new i ≡ Some (Kept r x)
  keeps i r x is = elim (cases_lt i at) [
    | inl less ↦ earlier_now i less ∙ is
    | inr more ↦ elim (cases_eq i at) [
      | inl e ↦
          let one : old ≡ Kept r x = same_at (slice_get places at) old (Kept r x) here (rw e at is) in
          let kept : Found = (r, x) in
          let no : None ≡ Some kept = sym none ∙ ap kept_found one in
          absurd (cc no)
      | inr other ↦ elim (cases_lt i (at + run_len run)) [
        | inl within ↦ inside_now i (Kept r x) (omega (arith, other)) within is
        | inr past ↦ later_now i past ∙ is
      ]
    ]
  ]

  stays_true : (i : ℕ) (h : List ℕ) (p : Place) → IsPlace listing standing (began.asked ++ was.added) hashes places i h p → IsPlace grown stands_now all_asked hashes new i h p
  stays_true i h p is =
      place_in grown stands_now all_asked hashes places new keeps i h p
      (place_grows listing grown standing stands_now lists stands (began.asked ++ was.added) (Asked entry (take (run_len run + 1) (drop at hashes)) (Some (run_len run)) ∷ []) all_asked hashes places i h p (sym (append_assoc began.asked was.added (Asked entry (take (run_len run + 1) (drop at hashes)) (Some (run_len run)) ∷ []))) is)

  covered_true : (i : ℕ) (h : List ℕ) (q : Place) → at < i → i < at + run_len run → IsPlace listing standing (began.asked ++ was.added) hashes places i h q ⊎ ((at ≤ i) × (q ≡ Unasked))
      → IsPlace grown stands_now all_asked hashes new i h (covered at q)
  covered_true i h (Kept r x) lt below (inl is) = stays_true i h (Kept r x) is
  covered_true i h (Kept r x) lt below (inr not) = absurd (cc not.1)
  covered_true i h (Missed m) lt below is = (lt, (run, is_external, itself_now, below))
  covered_true i h (Covered s) lt below is = (lt, (run, is_external, itself_now, below))
  covered_true i h Unasked lt below is = (lt, (run, is_external, itself_now, below))

  itself_true : (i : ℕ) (h : List ℕ) → i ≡ at → slice_get hashes i ≡ Some h → IsPlace grown stands_now all_asked hashes new i h (Kept run is_external)
  itself_true i h e is =
      let at_start : slice_get hashes at ≡ Some h = rw e at is in
      let asked_now : Contains all_asked (Asked entry (take (run_len run + 1) (drop at hashes)) (Some (run_len run))) = Contains-append_right began.asked (was.added ++ Asked entry (take (run_len run + 1) (drop at hashes)) (Some (run_len run)) ∷ []) (Asked entry (take (run_len run + 1) (drop at hashes)) (Some (run_len run))) (Contains-push was.added (Asked entry (take (run_len run + 1) (drop at hashes)) (Some (run_len run)))) in
      (subst (λ (n : ℕ). IsFoundRun grown stands_now (drop n hashes) (run_len run) run) (sym e) found, (entry, asked_at all_asked entry hashes at (run_len run) h (Some (run_len run)) at_start asked_now))

  each_now : (i : ℕ) (h : List ℕ) (p : Place) → slice_get hashes i ≡ Some h → Now places at run is_external i p
      → IsPlace grown stands_now all_asked hashes new i h p ⊎ ((at + run_len run ≤ i) × (p ≡ Unasked))
  each_now i h p is_h (itself e is) = inl (subst (λ (z : Place). IsPlace grown stands_now all_asked hashes new i h z) (sym is) (itself_true i h e is_h))
  each_now i h p is_h (under q lt below is e) = inl (subst (λ (z : Place). IsPlace grown stands_now all_asked hashes new i h z) (sym e) (covered_true i h q lt below (was.each i h q is_h is)))
  each_now i h p is_h (apart side is) = elim (was.each i h p is_h is) [
    | inl true ↦ inl (stays_true i h p true)
    | inr not ↦ elim side [
      | inl less ↦ absurd (omega (arith, not.0))
      | inr past ↦ inr (past, not.1)
    ]
  ]

  taken_now : (r : Segment) (x : Bool) (i j : ℕ) (p q : Place) → p ≡ Kept r x → i < j → j < i + run_len r → Now places at run is_external i p → Now places at run is_external j q → IsTaken q
  taken_now r x i j p q is lt below at_i (itself e is_q) = subst IsTaken (sym is_q) tt
  taken_now r x i j p q is lt below at_i (under z l b is_z e) = subst IsTaken (sym e) (covered-taken at z)
  taken_now r x i j p q is lt below (itself e is_p) (apart side is_q) =
      let one : run ≡ r = cc (sym is_p ∙ is) in
      let same : run_len run ≡ run_len r = ap run_len one in
      elim side [
        | inl less ↦ absurd (omega (arith, e))
        | inr past ↦ absurd (omega (arith, e, same))
      ]
  taken_now r x i j p q is lt below (under z l b is_z e) (apart side is_q) =
      was.inside i j r x q (is_z ∙ ap Some (kept_before at r x z (sym is ∙ e))) lt below is_q
  taken_now r x i j p q is lt below (apart other is_p) (apart side is_q) = was.inside i j r x q (is_p ∙ ap Some is) lt below is_q

  missed_now : (i m : ℕ) (p : Place) → p ≡ Missed m → i < at + run_len run → Now places at run is_external i p → (i < at) × (slice_get places i ≡ Some (Missed m))
  missed_now i m p is below (itself e is_p) = absurd (cc (sym is ∙ is_p))
  missed_now i m p is below (under q l b is_q e) = absurd (not_covered at m q (sym is ∙ e))
  missed_now i m p is below (apart side is_p) = elim side [
    | inl less ↦ (less, is_p ∙ ap Some is)
    | inr past ↦ absurd (omega arith)
  ]

  missed_apart : (i m : ℕ) (p : Place) → p ≡ Missed m → Now places at run is_external i p → (i ≢ at) × (slice_get places i ≡ Some (Missed m))
  missed_apart i m p is (itself e is_p) = absurd (cc (sym is ∙ is_p))
  missed_apart i m p is (under q l b is_q e) = absurd (not_covered at m q (sym is ∙ e))
  missed_apart i m p is (apart (inl less) is_p) = ((λ e. omega (arith, e)), is_p ∙ ap Some is)
  missed_apart i m p is (apart (inr past) is_p) = ((λ e. omega (arith, e, found.some)), is_p ∙ ap Some is)

  latest_now : (i m : ℕ) → slice_get new i ≡ Some (Missed m) → slice_get (set was.entries at (Some entry)) i ≡ Some (Some m)
  latest_now i m is =
      let at_i = missed_apart i m (Missed m) refl (now i (Missed m) is) in
      get-set_other was.entries at i (Some entry) at_i.0 ∙ was.latest.each i m at_i.1

  runs_now : map kept_found new ≡ set (map kept_found places) at (Some (run, is_external))
  runs_now = covers.kept ∙ map-set kept_found places at (Kept run is_external)

  sums_now : (f : Segment → ℕ) → sum_by f (new_runs began.kept (map kept_found new)) ≡ sum_by f (new_runs began.kept (map kept_found places)) + f run
  sums_now f =
      let was_free = was_none round hashes began.kept began.entries at (map kept_found places) was.entries was.added was.done at was.passes kept_here in
      ap (λ (k : List (Option Found)). sum_by f (new_runs began.kept k)) runs_now ∙ new_runs-set f began.kept (map kept_found places) at (run, is_external) was_free kept_here

  -- The run is kept, and the pass goes on after it.
  pub passing_found : IsPassing grown stands_now round hashes began after acts_after new (at + run_len run) (chunks + run_len run) (bytes + run.unpacked_segment_bytes)
  passing_found = record {
    within = omega (arith, found.within, found.some, length-drop at hashes);
    counted = long ∙ was.counted;
    added = was.added ++ Asked entry (take (run_len run + 1) (drop at hashes)) (Some (run_len run)) ∷ [];
    appended = calls_are ∙ ap (λ (c : List Call). c ++ Asked entry (take (run_len run + 1) (drop at hashes)) (Some (run_len run)) ∷ []) was.appended ∙ append_assoc began.old (began.asked ++ was.added) (Asked entry (take (run_len run + 1) (drop at hashes)) (Some (run_len run)) ∷ []) ∙ ap (λ (c : List Call). began.old ++ c) (append_assoc began.asked was.added (Asked entry (take (run_len run + 1) (drop at hashes)) (Some (run_len run)) ∷ []));
    done = was.done ++ Queried (drop at hashes) (Some (run, is_external)) ∷ [];
    acted = acts_are ∙ ap (λ (a : List Act). a ++ Queried (drop at hashes) (Some (run, is_external)) ∷ []) was.acted ∙ append_assoc began.acts was.done (Queried (drop at hashes) (Some (run, is_external)) ∷ []);
    entries = set was.entries at (Some entry);
    noted = length-set was.entries at (Some entry) ∙ was.noted;
    passes =
        subst (λ (k : List (Option Found)). PassesTo round hashes began.kept began.entries (at + run_len run) k (set was.entries at (Some entry)) (was.added ++ Asked entry (take (run_len run + 1) (drop at hashes)) (Some (run_len run)) ∷ []) (was.done ++ Queried (drop at hashes) (Some (run, is_external)) ∷ []))
        (sym runs_now) (finds at entry run is_external (map kept_found places) was.entries was.added was.done was.passes kept_here more found.some);
    latest = record { each = latest_now };
    each = λ i h p is_h is. each_now i h p is_h (now i p is);
    inside = λ i j r x p is_i lt below is_j. taken_now r x i j (Kept r x) p refl lt below (now i (Kept r x) is_i) (now j p is_j);
    ascend = λ i j m n lt below is_m is_n.
        let at_j = missed_now j n (Missed n) refl below (now j (Missed n) is_n) in
        let at_i = missed_now i m (Missed m) refl (omega arith) (now i (Missed m) is_m) in
        was.ascend i j m n lt at_j.0 at_i.1 at_j.1;
    later = λ i m n h reply below is_m asked.
        let at_i = missed_now i m (Missed m) refl below (now i (Missed m) is_m) in
        was.later i m n h reply at_i.0 at_i.1 asked;
    chunks_found = ap (λ n. n + run_len run) was.chunks_found ∙ sym (sums_now run_len);
    bytes_found = ap (λ n. n + run.unpacked_segment_bytes) was.bytes_found ∙ sym (sums_now (λ r. r.unpacked_segment_bytes));
    few = omega (arith, was.few);
    small = omega (arith, was.small, fits, found.some);
  }

module _ (listing grown : List ℕ → Option (List ℕ)) (standing stands_now : List (List ℕ) → Segment → Type 0) (lists : (h lengths : List ℕ) → listing h ≡ Some lengths → grown h ≡ Some lengths) (stands : (hs : List (List ℕ)) (r : Segment) → standing hs r → stands_now hs r) (round : Round) (hashes : List (List ℕ)) (began : Began) (calls after : List Call) (acts acts_after : List Act) (places new : List Place) (at chunks bytes entry count : ℕ) (run : Segment) (is_external : Bool) where
  counted_step : run_len run ≡ count → Covers at (at + count) (set places at (Kept run is_external)) new → Covers at (at + run_len run) (set places at (Kept run is_external)) new
  counted_step e covers = subst (λ (n : ℕ). Covers at (at + n) (set places at (Kept run is_external)) new) (sym e) covers

  -- The pass after a query that found a run of `count` chunks.
  pub found_step : IsPassing listing standing round hashes began calls acts places at chunks bytes → at < length hashes → slice_get (map kept_found places) at ≡ Some None
      → after ≡ calls ++ asked entry (drop at hashes) (Some count) → acts_after ≡ acts ++ Queried (drop at hashes) (Some (run, is_external)) ∷ [] → IsFoundRun grown stands_now (drop at hashes) count run
      → Covers at (at + count) (set places at (Kept run is_external)) new
      → IsPassing grown stands_now round hashes began after acts_after new (at + count) (chunks + count) (bytes + run.unpacked_segment_bytes)
  found_step was more free calls_are acts_are found covers =
      let first = get_within hashes at more in
      let old = get_mapped kept_found places at None free in
      let e = found.counted in
      let rest = drop_from hashes at first.0 first.1 in
      let one : after ≡ calls ++ Asked entry (take (count + 1) (drop at hashes)) (Some count) ∷ [] = calls_are ∙ ap (λ (c : List Call). calls ++ c) (asked_one entry (drop at hashes) (Some count) first.0 (drop (suc at) hashes) rest) in
      let same : after ≡ calls ++ Asked entry (take (run_len run + 1) (drop at hashes)) (Some (run_len run)) ∷ [] = one ∙ ap (λ (n : ℕ). calls ++ Asked entry (take (n + 1) (drop at hashes)) (Some n) ∷ []) (sym e) in
      let found_len = subst (λ (n : ℕ). IsFoundRun grown stands_now (drop at hashes) n run) (sym e) found in
      subst (λ (n : ℕ). IsPassing grown stands_now round hashes began after acts_after new (at + n) (chunks + n) (bytes + run.unpacked_segment_bytes)) e
      (passing_found listing grown standing stands_now lists stands round hashes began calls acts places at chunks bytes was after acts_after entry run is_external old.0 new more old.1 old.2 same acts_are found_len (bytes_fit grown run found.lies) (counted_step e covers))
