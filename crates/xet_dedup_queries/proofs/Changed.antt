-- The runs that are kept, as a pass goes on.
use Rattle.std.proofs.Common.{◌≡◌, inl, inr, ℕ, zero, suc, ◌+◌, ◌<◌, List, [], ◌∷◌, Option, Some, None, map, take, drop, set, refl, sym, ap, ◌∙◌, subst, arith}
use Rattle.std.specs.List.{slice_get, sum_by, All, Contains}
use Rattle.std.proofs.lemmas.List.{length-set}
use Rattle.std.proofs.lemmas.List.Elements.{All-head, All-tail}
use Rattle.std.proofs.lemmas.List.Sums.{sum_by-cons}
use Rattle.xet_choices.specs.Calls.{Call, IsAskedIn, entries_of}
use Rattle.xet_choices.specs.Calls.Call.{Asked, Registered}
use Rattle.xet_dedup_queries.specs.Acts.{Act, Found}
use Rattle.xet_dedup_queries.specs.Asking.{PassesTo, kept_found, new_runs}
use Rattle.xet_dedup_queries.specs.Interface.{asked, found_count}
use Rattle.xet_dedup_queries.specs.Asking.PassesTo.{begins, passes_over, finds, misses}
use Rattle.xet_shard_format.specs.declared.record.FileDataSequenceEntry.{FileDataSequenceEntry as Segment}
use Rattle.xet_dedup_queries.specs.Passing.{Covers, covered, missed}
use Rattle.xet_dedup_queries.specs.declared.passing.Round.{Round}
use Rattle.xet_dedup_queries.specs.declared.places.Place.{Place}
use Rattle.xet_dedup_queries.specs.declared.places.Place.TheVariants.{Kept, Missed, Covered, Unasked}
use Rattle.xet_dedup_queries.proofs.Lists.{get-set_here, get-set_other, same_at, take_from}
use Rattle.std.proofs.Math.Seq.{map-set_same}
use Rattle.std.proofs.lemmas.Bool.{cases_eq, cases_lt}
use Rattle.std.proofs.lemmas.Option.{get_or_from_slice_get, slice_get_within}

-- a sum over the new runs, when one more is kept
pub new_runs-set : (f : Segment → ℕ) (before kept : List (Option Found)) (i : ℕ) (found : Found) → slice_get before i ≡ Some None → slice_get kept i ≡ Some None
    → sum_by f (new_runs before (set kept i (Some found))) ≡ sum_by f (new_runs before kept) + f found.0
new_runs-set f [] kept i found none is = absurd (cc none)
new_runs-set f (b ∷ before) [] i found none is = absurd (cc is)
new_runs-set f (None ∷ before) (None ∷ kept) zero found none is = sum_by-cons f found.0 (new_runs before kept) ∙ omega arith
new_runs-set f (None ∷ before) (Some k ∷ kept) zero found none is = absurd (cc is)
new_runs-set f (Some b ∷ before) (k ∷ kept) zero found none is = absurd (cc none)
new_runs-set f (None ∷ before) (None ∷ kept) (suc i) found none is = new_runs-set f before kept i found none is
new_runs-set f (None ∷ before) (Some k ∷ kept) (suc i) found none is =
    omega (arith, new_runs-set f before kept i found none is, sum_by-cons f k.0 (new_runs before (set kept i (Some found))), sum_by-cons f k.0 (new_runs before kept))
new_runs-set f (Some b ∷ before) (k ∷ kept) (suc i) found none is = new_runs-set f before kept i found none is

-- none is new
pub new_runs-same : (kept : List (Option Found)) → new_runs kept kept ≡ []
new_runs-same [] = refl
new_runs-same (None ∷ kept) = new_runs-same kept
new_runs-same (Some found ∷ kept) = new_runs-same kept

module _ (round : Round) (hashes : List (List ℕ)) (before : List (Option Found)) (earlier : List (Option ℕ)) where
  -- a place where a pass keeps no run had none before it
  pub was_none : (at : ℕ) (kept : List (Option Found)) (entries : List (Option ℕ)) (calls : List Call) (acts : List Act) (i : ℕ)
      → PassesTo round hashes before earlier at kept entries calls acts → slice_get kept i ≡ Some None → slice_get before i ≡ Some None
  was_none at kept entries calls acts i begins is = is
  was_none at kept entries calls acts i (passes_over j run is_external k es cs done p here) is = was_none j k es cs done i p is
  was_none at kept entries calls acts i (finds j entry run is_external k es cs done p here within some) is = elim (cases_eq i j) [
    | inl e ↦
        let one : Found = (run, is_external) in
        let found : slice_get (set k j (Some one)) i ≡ Some (Some one) = rw e (get-set_here k j (Some one) (slice_get_within k j None here)) in
        let no : None ≡ Some one = same_at (slice_get (set k j (Some one)) i) None (Some one) is found in
        absurd (cc no)
    | inr other ↦ was_none j k es cs done i p (sym (get-set_other k j i (Some (run, is_external)) other) ∙ is)
  ]
  was_none at kept entries calls acts i (misses j entry hash k es cs done p here first) is = was_none j k es cs done i p is

-- the entry of a query is one of the entries, so what holds of those holds of it
pub below_asked : (e : ℕ) (calls : List Call) (n : ℕ) (h : List ℕ) (reply : Option ℕ) → All (λ k. k < e) (entries_of calls) → IsAskedIn calls n h reply → n < e
below_asked e [] n h reply all (others, (k, lt, same)) = absurd (omega (arith, lt))
below_asked e (Asked entry hashes r ∷ calls) n h reply all (others, (zero, lt, same)) =
    let one : entry ≡ n = cc same in rw (← one) (All-head (λ k. k < e) entry (entries_of calls) all)
below_asked e (Asked entry hashes r ∷ calls) n h reply all (others, (suc k, lt, same)) =
    below_asked e calls n h reply (All-tail (λ k. k < e) entry (entries_of calls) all) (others, (k, omega arith, same))
below_asked e (Registered leaves next ∷ calls) n h reply all (others, (zero, lt, same)) = absurd (cc same)
below_asked e (Registered leaves next ∷ calls) n h reply all (others, (suc k, lt, same)) =
    below_asked e calls n h reply all (others, (k, omega arith, same))

-- what a query adds to the calls, if it has a hash
pub asked_one : (entry : ℕ) (hashes : List (List ℕ)) (reply : Option ℕ) (h : List ℕ) (hs : List (List ℕ)) → hashes ≡ h ∷ hs
    → asked entry hashes reply ≡ Asked entry (take (found_count reply + 1) hashes) reply ∷ []
asked_one entry hashes reply h hs e = subst (λ (l : List (List ℕ)). asked entry l reply ≡ Asked entry (take (found_count reply + 1) l) reply ∷ []) (sym e) refl

-- a query that was made for the hashes from an index on
pub asked_at : (calls : List Call) (entry : ℕ) (hashes : List (List ℕ)) (i n : ℕ) (h : List ℕ) (reply : Option ℕ) → slice_get hashes i ≡ Some h
    → Contains calls (Asked entry (take (n + 1) (drop i hashes)) reply) → IsAskedIn calls entry h reply
asked_at calls entry hashes i n h reply is contains =
    (take n (drop (suc i) hashes), subst (λ (l : List (List ℕ)). Contains calls (Asked entry l reply)) (take_from hashes i n h is) contains)

covered-keeps : (start : ℕ) (p : Place) → kept_found (covered start p) ≡ kept_found p
covered-keeps start (Kept run is_external) = refl
covered-keeps start (Missed entry) = refl
covered-keeps start (Covered other) = refl
covered-keeps start Unasked = refl

pub missed-keeps : (entry : ℕ) (p : Place) → kept_found (missed entry p) ≡ kept_found p
missed-keeps entry (Kept run is_external) = refl
missed-keeps entry (Missed other) = refl
missed-keeps entry (Covered start) = refl
missed-keeps entry Unasked = refl

-- a place that is written keeps what a function of it says
pub map-set_keeps : {Y : Type 0} (f : Place → Y) (places : List Place) (i : ℕ) (p q : Place) → slice_get places i ≡ Some p → f q ≡ f p → map f (set places i q) ≡ map f places
map-set_keeps f places i p q is same = map-set_same f places i q p (same ∙ ap f (sym (get_or_from_slice_get places i p p is)))

-- the next place is covered
pub covers_more : (start i : ℕ) (old mid : List Place) (p : Place) → start < i → slice_get mid i ≡ Some p → Covers start i old mid → Covers start (i + 1) old (set mid i (covered start p))
covers_more start i old mid p later here c = record {
  counted = length-set mid i (covered start p) ∙ c.counted;
  kept = map-set_keeps kept_found mid i p (covered start p) here (covered-keeps start p) ∙ c.kept;
  before = λ j le. get-set_other mid i j (covered start p) (λ e. omega (arith, e)) ∙ c.before j le;
  inside = λ j q lt below is. elim (cases_lt j i) [
    | inl less ↦ get-set_other mid i j (covered start p) (λ e. omega (arith, e)) ∙ c.inside j q lt less is
    | inr more ↦
        let e : j ≡ i = omega arith in
        let was : slice_get old i ≡ Some q = rw e at is in
        let one : p ≡ q = same_at (slice_get mid i) p q here (c.after i (omega arith) ∙ was) in
        let new : slice_get (set mid i (covered start p)) i ≡ Some (covered start p) = get-set_here mid i (covered start p) (slice_get_within mid i p here) in
        ap (λ (k : ℕ). slice_get (set mid i (covered start p)) k) e ∙ new ∙ ap (λ (z : Place). Some (covered start z)) one
  ];
  after = λ j le. get-set_other mid i j (covered start p) (λ e. omega (arith, e)) ∙ c.after j (omega arith);
}
