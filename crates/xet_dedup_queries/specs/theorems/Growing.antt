-- What is true of the places of a batch stays true as the store grows and there are more calls.
use Rattle.std.proofs.Common.{◌≡◌, ℕ, List, ◌∷◌, ◌++◌, refl, ◌∙◌, subst, sym, drop, Option, Some, None}
use Rattle.std.proofs.lemmas.List.Elements.{Contains-append_left, Contains-append_right}
use Rattle.xet_choices.specs.Calls.{Call, IsAskedIn}
use Rattle.xet_choices.specs.Calls.Call.{Asked}
use Rattle.xet_dedup_queries.specs.Interface.{Extends, IsFoundRun, LiesIn, run_len}
use Rattle.xet_dedup_queries.specs.Places.{ArePlaces, IsPlace}
use Rattle.xet_dedup_queries.specs.declared.places.Place.{Place}
use Rattle.xet_dedup_queries.specs.declared.places.Place.TheVariants.{Kept, Missed, Covered, Unasked}
use Rattle.xet_shard_format.specs.declared.record.FileDataSequenceEntry.{FileDataSequenceEntry as Segment}

pub extends_same : {I E : Type 0} (listing : I → List ℕ → Option (List ℕ)) (standing : I → List (List ℕ) → Segment → Type 0) (refusing : I → I → E → Type 0) (limiting : I → ℕ × ℕ) (s : I) → Extends listing standing refusing limiting s s
extends_same listing standing refusing limiting s = record {
  lists = λ h lengths is. is;
  stands = λ hashes run is. is;
  earlier = λ later e is. is;
  limits = refl;
}

pub extends_more : {I E : Type 0} (listing : I → List ℕ → Option (List ℕ)) (standing : I → List (List ℕ) → Segment → Type 0) (refusing : I → I → E → Type 0) (limiting : I → ℕ × ℕ) (a b c : I)
    → Extends listing standing refusing limiting a b → Extends listing standing refusing limiting b c → Extends listing standing refusing limiting a c
extends_more listing standing refusing limiting a b c first second = record {
  lists = λ h lengths is. second.lists h lengths (first.lists h lengths is);
  stands = λ hashes run is. second.stands hashes run (first.stands hashes run is);
  earlier = λ later e is. first.earlier later e (second.earlier later e is);
  limits = second.limits ∙ first.limits;
}

pub asked_stays : (calls more after : List Call) (entry : ℕ) (h : List ℕ) (reply : Option ℕ) → after ≡ calls ++ more → IsAskedIn calls entry h reply → IsAskedIn after entry h reply
asked_stays calls more after entry h reply e is =
    subst (λ (c : List Call). IsAskedIn c entry h reply) (sym e) (is.0, Contains-append_left calls more (Asked entry (h ∷ is.0) reply) is.1)

pub asked_known : (old calls after : List Call) (entry : ℕ) (h : List ℕ) (reply : Option ℕ) → after ≡ old ++ calls → IsAskedIn calls entry h reply → IsAskedIn after entry h reply
asked_known old calls after entry h reply e is =
    subst (λ (c : List Call). IsAskedIn c entry h reply) (sym e) (is.0, Contains-append_right old calls (Asked entry (h ∷ is.0) reply) is.1)

module _ (listing grown : List ℕ → Option (List ℕ)) (standing stands_now : List (List ℕ) → Segment → Type 0) (lists : (h lengths : List ℕ) → listing h ≡ Some lengths → grown h ≡ Some lengths) (stands : (hashes : List (List ℕ)) (run : Segment) → standing hashes run → stands_now hashes run) where
  pub lies_stays : (run : Segment) → LiesIn listing run → LiesIn grown run
  lies_stays run is = record {
    lengths = is.lengths;
    listed = lists run.xorb_hash is.lengths is.listed;
    some = is.some;
    within = is.within;
    bytes = is.bytes;
    small = is.small;
    plain = is.plain;
    named = is.named;
  }

  pub found_stays : (hashes : List (List ℕ)) (count : ℕ) (run : Segment) → IsFoundRun listing standing hashes count run → IsFoundRun grown stands_now hashes count run
  found_stays hashes count run is = record {
    some = is.some;
    within = is.within;
    counted = is.counted;
    lies = lies_stays run is.lies;
    stands = stands _ run is.stands;
  }

  pub place_grows : (calls more after : List Call) (hashes : List (List ℕ)) (places : List Place) (i : ℕ) (h : List ℕ) (p : Place) → after ≡ calls ++ more
      → IsPlace listing standing calls hashes places i h p → IsPlace grown stands_now after hashes places i h p
  place_grows calls more after hashes places i h (Kept run is_external) e is =
      (found_stays (drop i hashes) (run_len run) run is.0, (is.1.0, asked_stays calls more after is.1.0 h (Some (run_len run)) e is.1.1))
  place_grows calls more after hashes places i h (Missed entry) e is = asked_stays calls more after entry h None e is
  place_grows calls more after hashes places i h (Covered start) e is = is
  place_grows calls more after hashes places i h Unasked e is = is

  -- The places of a batch stay true.
  pub places_grow : (before calls more after : List Call) (hashes : List (List ℕ)) (places : List Place) → after ≡ calls ++ more
      → ArePlaces listing standing before calls hashes places → ArePlaces grown stands_now before after hashes places
  places_grow before calls more after hashes places e are = record {
    counted = are.counted;
    each = λ i h p here is. place_grows calls more after hashes places i h p e (are.each i h p here is);
    inside = are.inside;
    ascend = are.ascend;
    later = are.later;
  }

-- The places of a batch stay true as the interface extends and its calls grow.
pub places_stay : {I E : Type 0} (listing : I → List ℕ → Option (List ℕ)) (standing : I → List (List ℕ) → Segment → Type 0) (refusing : I → I → E → Type 0) (limiting : I → ℕ × ℕ) (a b : I) → Extends listing standing refusing limiting a b
    → (before calls more after : List Call) (hashes : List (List ℕ)) (places : List Place) → after ≡ calls ++ more
    → ArePlaces (listing a) (standing a) before calls hashes places → ArePlaces (listing b) (standing b) before after hashes places
places_stay listing standing refusing limiting a b extends before calls more after hashes places e are =
    places_grow (listing a) (listing b) (standing a) (standing b) extends.lists extends.stands before calls more after hashes places e are

place_known : (listing : List ℕ → Option (List ℕ)) (standing : List (List ℕ) → Segment → Type 0) (old calls after : List Call) (hashes : List (List ℕ)) (places : List Place) (i : ℕ) (h : List ℕ) (p : Place) → after ≡ old ++ calls
    → IsPlace listing standing calls hashes places i h p → IsPlace listing standing after hashes places i h p
place_known listing standing old calls after hashes places i h (Kept run is_external) e is =
    (is.0, (is.1.0, asked_known old calls after is.1.0 h (Some (run_len run)) e is.1.1))
place_known listing standing old calls after hashes places i h (Missed entry) e is = asked_known old calls after entry h None e is
place_known listing standing old calls after hashes places i h (Covered start) e is = is
place_known listing standing old calls after hashes places i h Unasked e is = is

-- Places that are true by some calls are true by these and those before.
pub places_known : (listing : List ℕ → Option (List ℕ)) (standing : List (List ℕ) → Segment → Type 0) (before old calls after : List Call) (hashes : List (List ℕ)) (places : List Place) → after ≡ old ++ calls
    → ArePlaces listing standing before calls hashes places → ArePlaces listing standing before after hashes places
places_known listing standing before old calls after hashes places e are = record {
  counted = are.counted;
  each = λ i h p is_h is. place_known listing standing old calls after hashes places i h p e (are.each i h p is_h is);
  inside = are.inside;
  ascend = are.ascend;
  later = are.later;
}
