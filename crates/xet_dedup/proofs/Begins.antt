-- A walk over a batch begins once its queries were made, and ends with a plan that is right.
use Rattle.std.proofs.Common.{◌≡◌, ◌∙◌, ℕ, List, [], ◌∷◌, ◌++◌, append_assoc, length, Option, Some, None, refl, sym, ap, subst, arith}
use Rattle.std.specs.Prelude.{slice_get}
use Rattle.std.proofs.Math.Seq.{drop-append_seam}
use Rattle.std.proofs.lemmas.List.{append-nil}
use Rattle.std.proofs.lemmas.List.Elements.{Contains-append_right}
use Rattle.xet_choices.specs.theorems.Calls.{asked_before}
use Rattle.std.proofs.lemmas.Option.{slice_get_within}
use Rattle.xet_choices.specs.declared.choice.Choice.TheVariants.{NoPlace}
use Rattle.xet_choices.specs.Calls.{Call, IsAskedIn, registered_chunks}
use Rattle.xet_choices.specs.Calls.Call.{Asked}
use Rattle.xet_choices.specs.Choices.{hashes_of}
use Rattle.xet_dedup_queries.specs.Places.{ArePlaces}
use Rattle.xet_dedup_queries.specs.declared.places.Place.{Place}
use Rattle.xet_file_plan.specs.Moves.{PlanState}
use Rattle.xet_file_plan.specs.Plan.{IsPlanSince}
use Rattle.xet_file_plan.specs.theorems.Plans.{plan_stays}
use Rattle.xet_shard_format.specs.declared.record.FileDataSequenceEntry.{FileDataSequenceEntry as Segment}
use Rattle.xet_dedup.specs.internal.Walking.{IsWalking}
use Rattle.xet_dedup.proofs.Lists.{item_at}

-- a query is there after earlier calls too
asked_after : (xs ys : List Call) (entry : ℕ) (first : List ℕ) (reply : Option ℕ) → IsAskedIn ys entry first reply → IsAskedIn (xs ++ ys) entry first reply
asked_after xs ys entry first reply is = (is.0, Contains-append_right xs ys (Asked entry (first ∷ is.0) reply) is.1)

-- The query of a choice is among the calls.
entry_asked : (listing : List ℕ → Option (List ℕ)) (standing : List (List ℕ) → Segment → Type 0) (before calls : List Call) (p : PlanState) (i m : ℕ)
    → IsPlanSince listing standing before calls p.leaves p → slice_get p.choices i ≡ Some (NoPlace m) → (h : List ℕ) × IsAskedIn calls m h None
entry_asked listing standing before calls p i m plan e =
    let lt = slice_get_within p.choices i (NoPlace m) e in
    let leaf = item_at p.leaves i (omega (arith, lt, plan.plan.one_each)) in
    let is = plan.plan.choices i leaf.0 (NoPlace m) e leaf.1 in
    (leaf.0.0, subst (λ (cs : List Call). IsAskedIn cs m leaf.0.0 None) (sym plan.added) (asked_after before plan.since m leaf.0.0 None is.0))

module _ (listing listing' : List ℕ → Option (List ℕ)) (standing standing' : List (List ℕ) → Segment → Type 0) (lists : (h lengths : List ℕ) → listing h ≡ Some lengths → listing' h ≡ Some lengths)
    (stands : (hashes : List (List ℕ)) (run : Segment) → standing hashes run → standing' hashes run) (before calls calls' added : List Call) (p : PlanState) (plan : IsPlanSince listing standing before calls p.leaves p)
    (further : calls' ≡ calls ++ added) (none : registered_chunks added ≡ 0) (batch : List (List ℕ × ℕ)) (hashes : List (List ℕ)) (same : hashes ≡ hashes_of batch)
    (places : List Place) (are : ArePlaces listing' standing' calls added hashes places) where
  pub walk_begins : IsWalking listing' standing' before calls' (p.leaves ++ batch) hashes places (length p.leaves) 0 p
  walk_begins = record {
    plan = record {
      since = plan.since ++ added;
      added = further ∙ ap (λ (cs : List Call). cs ++ added) plan.added ∙ append_assoc before plan.since added;
      plan = plan_stays listing listing' standing standing' plan.since (plan.since ++ added) added p.leaves (p.leaves ++ batch) batch p lists stands plan.plan refl none refl;
      later = plan.later;
    };
    earlier = calls;
    asked = added;
    true_places = are;
    known = λ n h reply is. asked_after plan.since added n h reply is;
    here = omega arith;
    batch = ap hashes_of (drop-append_seam p.leaves batch) ∙ sym same;
    ascend = λ i j m n e le missed. (let asked = entry_asked listing standing before calls p i m plan e in are.later j n m asked.0 None missed asked.1);
    passed = λ s run is_external e lt over. absurd (omega (arith, lt));
    fresh = λ j n m h reply missed is. are.later j n m h reply missed (subst (λ (cs : List Call). IsAskedIn cs m h reply) (sym plan.added) (asked_before before plan.since m h reply is));
  }

pub walk_ends : (listing : List ℕ → Option (List ℕ)) (standing : List (List ℕ) → Segment → Type 0) (before calls : List Call) (hashes : List (List ℕ)) (places : List Place) (base at : ℕ) (p : PlanState)
    → IsWalking listing standing before calls (p.leaves ++ []) hashes places base at p → IsPlanSince listing standing before calls p.leaves p
walk_ends listing standing before calls hashes places base at p w = subst (λ (leaves : List (List ℕ × ℕ)). IsPlanSince listing standing before calls leaves p) (append-nil p.leaves) w.plan
