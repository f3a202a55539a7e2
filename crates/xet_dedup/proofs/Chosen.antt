-- The choice for a chunk that is to be stored is true.
use Rattle.std.proofs.Common.{◌≡◌, ◌⊎◌, inl, inr, ◌∙◌, ℕ, ◌+◌, Bool, false, List, length, map, drop, Option, Some, None, refl, sym, ap, subst, arith}
use Rattle.std.specs.Prelude.{slice_get}
use Rattle.std.proofs.lemmas.Option.{slice_get_within}
use Rattle.xet_choices.specs.declared.choice.Choice.{Choice}
use Rattle.xet_choices.specs.declared.choice.Choice.TheVariants.{Inside, NoPlace, Refused}
use Rattle.xet_choices.specs.Calls.{Call, IsAskedIn}
use Rattle.xet_choices.specs.Choices.{Setting, TrueAt, block_at, is_reused, last_place}
use Rattle.xet_dedup_queries.specs.Interface.{run_len}
use Rattle.xet_dedup_queries.specs.declared.places.Place.{Place}
use Rattle.xet_dedup_queries.specs.declared.places.Place.TheVariants.{Covered, Kept, Missed}
use Rattle.xet_file_plan.specs.Moves.{PlanState}
use Rattle.xet_file_plan.specs.Plan.{setting_of}
use Rattle.xet_file_plan.specs.theorems.Storing.{guard_after}
use Rattle.xet_fragmentation.specs.Fragmentation.{Fragmentation, is_allowed}
use Rattle.xet_open_block.specs.OpenBlock.{first_place}
use Rattle.xet_shard_format.specs.declared.record.FileDataSequenceEntry.{FileDataSequenceEntry as Segment}
use Rattle.xet_xorb_chunk.specs.Chunks.{chunk_leaf}
use Rattle.xet_dedup.specs.Placing.{HasNone, Rejects}
use Rattle.xet_dedup.specs.internal.Walking.{IsWalking}
use Rattle.xet_dedup.proofs.Lists.{item_at}
use Rattle.xet_dedup.proofs.Walking.{block_here, first_place_at, leaf_of, run_found}

-- What is known of the choice for a chunk with hash h at a place, and of the plan after the guard was queried for it.
pub record IsChosen (p q : PlanState) (s : Setting) (places : List Place) (at : ℕ) (h : List ℕ) (c : Choice) : Type 0 where
  pub plan : q ≡ record p { guard = guard_after p.guard c }
  pub new : is_reused c ≡ false
  pub is : TrueAt s (length p.leaves) h c
  pub kept : (run : Segment) (is_external : Bool) → slice_get places at ≡ Some (Kept run is_external) → (k : ℕ) × (c ≡ Refused k)
  pub missed : (n : ℕ) → c ≡ NoPlace n → slice_get places at ≡ Some (Missed n)

module _ (listing : List ℕ → Option (List ℕ)) (standing : List (List ℕ) → Segment → Type 0) (before calls : List Call) (leaves : List (List ℕ × ℕ)) (hashes : List (List ℕ)) (places : List Place) (base at : ℕ) (p : PlanState)
    (w : IsWalking listing standing before calls leaves hashes places base at p) (h : List ℕ) (here : slice_get hashes at ≡ Some h) where
  abbrev s : Setting
  s = setting_of p w.plan.since leaves

  rejected_is_chosen : (q : PlanState) (c : Choice) → Rejects p q hashes places at c → IsChosen p q s places at h c
  rejected_is_chosen q c r = subst (IsChosen p q s places at h) (sym r.reason) (record {
    plan = r.plan;
    new = refl;
    is = (
      run_found listing standing before calls leaves hashes places base at p w r.count r.run h here r.found,
      ap (λ (g : Fragmentation). is_allowed g r.count) (sym w.plan.plan.guard) ∙ r.refused,
    );
    kept = λ run is_external e. (r.count, refl);
    missed = λ n e. absurd (cc e);
  })

  not_in_block : first_place (drop at hashes) (map chunk_leaf p.block) ≡ None → last_place h (block_at s (length p.leaves)) ≡ None
  not_in_block none =
      ap (last_place h) (sym (block_here listing standing before calls leaves hashes places base at p w))
      ∙ sym (first_place_at hashes at h (map chunk_leaf p.block) here)
      ∙ none

  missed_is_chosen : (q : PlanState) (n : ℕ) → first_place (drop at hashes) (map chunk_leaf p.block) ≡ None → q ≡ p → slice_get places at ≡ Some (Missed n)
      → IsChosen p q s places at h (NoPlace n)
  missed_is_chosen q n none same e = record {
    plan = same;
    new = refl;
    is = (w.known n h None (w.true_places.each at h (Missed n) here e), not_in_block none);
    kept = λ run is_external f. absurd (cc (e, f));
    missed = λ m f. (let one : n ≡ m = cc f in e ∙ ap (λ (k : ℕ). Some (Missed k)) one);
  }

  covered_is_chosen : (q : PlanState) (start : ℕ) → first_place (drop at hashes) (map chunk_leaf p.block) ≡ None → q ≡ p → slice_get places at ≡ Some (Covered start)
      → IsChosen p q s places at h (Inside (base + start))
  covered_is_chosen q start none same e =
      let covers = w.true_places.each at h (Covered start) here e in
      let run : Segment = covers.1.0 in
      let there = item_at hashes start (let l = slice_get_within hashes at h here in omega (arith, l, covers.0)) in
      let asked = (w.true_places.each start there.0 (Kept run covers.1.1) there.1 covers.1.2).1 in
      let leaf = leaf_of listing standing before calls leaves hashes places base at p w start there.0 there.1 in
      record {
        plan = same;
        new = refl;
        is = (
          leaf.0,
          run_len run,
          asked.0,
          leaf.1,
          subst (λ (x : List ℕ). IsAskedIn w.plan.since asked.0 x (Some (run_len run))) (sym leaf.2) (w.known asked.0 there.0 (Some (run_len run)) asked.1),
          omega (arith, covers.0, w.here),
          omega (arith, covers.1.3, w.here),
          w.passed start run covers.1.1 covers.1.2 covers.0 covers.1.3,
          not_in_block none,
        );
        kept = λ other is_external f. absurd (cc (e, f));
        missed = λ m f. absurd (cc f);
      }

  none_is_chosen : (q : PlanState) (c : Choice) → HasNone p q hashes places base at c → IsChosen p q s places at h c
  none_is_chosen q c n = by n.reason
    where
      by : ((entry : ℕ) × (slice_get places at ≡ Some (Missed entry)) × (c ≡ NoPlace entry)) ⊎ ((start : ℕ) × (slice_get places at ≡ Some (Covered start)) × (c ≡ Inside (base + start)))
          → IsChosen p q s places at h c
      by (inl missed) = subst (IsChosen p q s places at h) (sym missed.2) (missed_is_chosen q missed.0 n.none n.plan missed.1)
      by (inr covered) = subst (IsChosen p q s places at h) (sym covered.2) (covered_is_chosen q covered.0 n.none n.plan covered.1)

  pub is_chosen : (q : PlanState) (c : Choice) → Rejects p q hashes places at c ⊎ HasNone p q hashes places base at c → IsChosen p q s places at h c
  is_chosen q c (inl r) = rejected_is_chosen q c r
  is_chosen q c (inr n) = none_is_chosen q c n
