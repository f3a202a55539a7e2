-- A pass goes on, over a run that was kept before.
use Rattle.std.proofs.Common.{◌≡◌, ℕ, ◌+◌, ◌<◌, ◌≤◌, inl, inr, Bool, List, Option, Some, None, length, get_or, map, drop, refl, ap, ◌∙◌, subst, arith, length-drop}
use Rattle.std.specs.List.{slice_get}
use Rattle.std.proofs.lemmas.Bool.{cases_eq, cases_lt}
use Rattle.std.proofs.lemmas.Option.{slice_get-get_or, slice_get-map, slice_get_within}
use Rattle.std.specs.Option.{option_map}
use Rattle.xet_choices.specs.Calls.{Call}
use Rattle.xet_dedup_queries.specs.Acts.{Act}
use Rattle.xet_dedup_queries.specs.Asking.{kept_found}
use Rattle.xet_dedup_queries.specs.Asking.PassesTo.{passes_over}
use Rattle.xet_dedup_queries.specs.Interface.{IsFoundRun, run_len}
use Rattle.xet_dedup_queries.specs.Passing.{Began, IsPassing}
use Rattle.xet_dedup_queries.specs.Places.{IsPlace, IsTaken}
use Rattle.xet_dedup_queries.specs.declared.passing.Round.{Round}
use Rattle.xet_dedup_queries.specs.declared.places.Place.{Place}
use Rattle.xet_dedup_queries.specs.declared.places.Place.TheVariants.{Kept, Missed, Covered, Unasked}
use Rattle.xet_shard_format.specs.declared.record.FileDataSequenceEntry.{FileDataSequenceEntry as Segment}
use Rattle.xet_dedup_queries.proofs.Lists.{get_within, same_at}

-- a place is true of other places too, if those keep the runs
pub place_in : (listing : List ℕ → Option (List ℕ)) (standing : List (List ℕ) → Segment → Type 0) (calls : List Call) (hashes : List (List ℕ)) (places new : List Place)
    → ((i : ℕ) (run : Segment) (is_external : Bool) → slice_get places i ≡ Some (Kept run is_external) → slice_get new i ≡ Some (Kept run is_external))
    → (i : ℕ) (h : List ℕ) (p : Place) → IsPlace listing standing calls hashes places i h p → IsPlace listing standing calls hashes new i h p
place_in listing standing calls hashes places new keeps i h (Kept run is_external) is = is
place_in listing standing calls hashes places new keeps i h (Missed entry) is = is
place_in listing standing calls hashes places new keeps i h (Covered start) is =
    (is.0, (is.1.0, is.1.1, keeps start is.1.0 is.1.1 is.1.2, is.1.3))
place_in listing standing calls hashes places new keeps i h Unasked is = is

-- a place that was read
pub read_is : (places : List Place) (i : ℕ) (d p : Place) → i < length places → get_or places i d ≡ p → slice_get places i ≡ Some p
read_is places i d p lt is = slice_get-get_or places i d lt ∙ ap Some is

kept_none : (p : Place) → ((run : Segment) (is_external : Bool) → p ≡ Kept run is_external → ⊥) → kept_found p ≡ None
kept_none (Kept run is_external) not = absurd (not run is_external refl)
kept_none (Missed entry) not = refl
kept_none (Covered start) not = refl
kept_none Unasked not = refl

-- no run is kept at a place that was read
pub free_at : (places : List Place) (i : ℕ) (d : Place) → i < length places → ((run : Segment) (is_external : Bool) → get_or places i d ≡ Kept run is_external → ⊥) → slice_get (map kept_found places) i ≡ Some None
free_at places i d lt not = slice_get-map kept_found places i ∙ ap (option_map kept_found) (slice_get-get_or places i d lt) ∙ ap Some (kept_none (get_or places i d) not)

module _ (listing : List ℕ → Option (List ℕ)) (standing : List (List ℕ) → Segment → Type 0) (round : Round) (hashes : List (List ℕ)) (began : Began) (calls : List Call) (acts : List Act) (places : List Place) (at chunks bytes : ℕ) (was : IsPassing listing standing round hashes began calls acts places at chunks bytes) where
  -- a run that is kept at the index is one that a query found
  pub kept_is_found : (run : Segment) (is_external : Bool) → slice_get places at ≡ Some (Kept run is_external) → IsFoundRun listing standing (drop at hashes) (run_len run) run
  kept_is_found run is_external here =
      let within : at < length hashes = omega (arith, slice_get_within places at (Kept run is_external) here, was.counted) in
      let h = get_within hashes at within in
      elim (was.each at h.0 (Kept run is_external) h.1 here) [
        | inl is ↦ is.0
        | inr not ↦ absurd (cc not.1)
      ]

  module _ (run : Segment) (is_external : Bool) (here : slice_get places at ≡ Some (Kept run is_external)) where
    taken : (i : ℕ) (p : Place) → at ≤ i → i < at + run_len run → slice_get places i ≡ Some p → IsTaken p
    taken i p low high is = elim (cases_eq i at) [
      | inl e ↦
          let one : Kept run is_external ≡ p = same_at (slice_get places at) (Kept run is_external) p here (rw e at is) in
          subst IsTaken one tt
      | inr other ↦ was.inside at i run is_external p here (omega (arith, other)) high is
    ]

    -- The pass goes on after the run.
    pub passing_over : IsPassing listing standing round hashes began calls acts places (at + run_len run) chunks bytes
    passing_over =
        let found = kept_is_found run is_external here in
        let fits : at + run_len run ≤ length hashes = omega (arith, found.within, found.some, length-drop at hashes) in
        record {
          within = fits;
          counted = was.counted;
          added = was.added;
          appended = was.appended;
          done = was.done;
          acted = was.acted;
          entries = was.entries;
          noted = was.noted;
          passes = passes_over at run is_external (map kept_found places) was.entries was.added was.done was.passes (slice_get-map kept_found places at ∙ rw here refl);
          latest = was.latest;
          each = λ i h p first is. elim (was.each i h p first is) [
            | inl true ↦ inl true
            | inr not ↦ elim (cases_lt i (at + run_len run)) [
              | inl within ↦ absurd (subst IsTaken not.1 (taken i p not.0 within is))
              | inr past ↦ inr (past, not.1)
            ]
          ];
          inside = was.inside;
          ascend = λ i j m n lt below is_m is_n. elim (cases_lt j at) [
            | inl less ↦ was.ascend i j m n lt less is_m is_n
            | inr more ↦ absurd (taken j (Missed n) more below is_n)
          ];
          later = λ i m n h reply below is_m asked. elim (cases_lt i at) [
            | inl less ↦ was.later i m n h reply less is_m asked
            | inr more ↦ absurd (taken i (Missed m) more below is_m)
          ];
          chunks_found = was.chunks_found;
          bytes_found = was.bytes_found;
          few = omega (arith, was.few);
          small = omega (arith, was.small);
        }
