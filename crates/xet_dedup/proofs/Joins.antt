-- A walk goes on with a run that joined the plan.
use Rattle.std.proofs.Common.{◌≡◌, ◌⊎◌, inl, inr, ◌∙◌, ℕ, ◌+◌, ◌-◌, ◌≤◌, ◌<◌, Bool, true, false, List, ◌++◌, length, take, drop, Option, Some, refl, sym, ap, subst, arith, length-append}
use Rattle.std.specs.Prelude.{replicate, slice_get}
use Rattle.std.proofs.lemmas.Bool.{cases_lt}
use Rattle.std.proofs.lemmas.List.{drop-map, length-drop, length-map, length-take-le, take-append-drop, take-map}
use Rattle.xet_choices.specs.declared.choice.Choice.{Choice}
use Rattle.xet_choices.specs.declared.choice.Choice.TheVariants.{NoPlace, Refused, Reused}
use Rattle.xet_choices.specs.Calls.{Call}
use Rattle.xet_choices.specs.Choices.{IsFound, WasPassed, hashes_of}
use Rattle.xet_choices.specs.theorems.Choices.{get_more}
use Rattle.xet_dedup_queries.specs.Interface.{run_len}
use Rattle.xet_dedup_queries.specs.declared.places.Place.{Place}
use Rattle.xet_dedup_queries.specs.declared.places.Place.TheVariants.{Kept}
use Rattle.xet_file_plan.specs.Moves.{PlanState, continues, joined, last_index, with_run}
use Rattle.xet_file_plan.specs.Placed.{HasHashes}
use Rattle.xet_file_plan.specs.Plan.{IsPlanSince, setting_of}
use Rattle.xet_file_plan.specs.theorems.Plans.{get_either, joined_is_plan, some_same}
use Rattle.xet_fragmentation.specs.Fragmentation.{is_allowed}
use Rattle.xet_shard_format.specs.declared.record.FileDataSequenceEntry.{FileDataSequenceEntry as Segment}
use Rattle.xet_dedup.specs.Placing.{IsRunAt}
use Rattle.xet_dedup.specs.internal.Walking.{IsWalking}
use Rattle.xet_dedup.proofs.Lists.{get_first, get_mapped, get_repeated, get_run, item_at}
use Rattle.xet_dedup.proofs.Walking.{run_counted, run_found, run_hashes}

-- The choice of a chunk that was stored is one from before a run joined.
pub old_entry : (choices : List Choice) (n segment i m : ℕ) → slice_get (choices ++ replicate n (Reused segment)) i ≡ Some (NoPlace m) → slice_get choices i ≡ Some (NoPlace m)
old_entry choices n segment i m e = by (get_either choices (replicate n (Reused segment)) i (NoPlace m) e)
  where
    by : ((slice_get choices i ≡ Some (NoPlace m)) ⊎ ((j : ℕ) × (i ≡ length choices + j) × (slice_get (replicate n (Reused segment)) j ≡ Some (NoPlace m)))) → slice_get choices i ≡ Some (NoPlace m)
    by (inl old) = old
    by (inr new) = let same = get_repeated n new.0 (Reused segment) (NoPlace m) new.2 in absurd (cc same)

module _ (listing : List ℕ → Option (List ℕ)) (standing : List (List ℕ) → Segment → Type 0) (before calls : List Call) (leaves : List (List ℕ × ℕ)) (hashes : List (List ℕ)) (places : List Place) (base at : ℕ) (p : PlanState)
    (w : IsWalking listing standing before calls leaves hashes places base at p) (batch : List (List ℕ × ℕ)) (known : leaves ≡ p.leaves ++ drop at batch) (same : hashes ≡ hashes_of batch)
    (count : ℕ) (some : 0 < count) (within : at + count ≤ length batch) (run : Segment) (found : IsRunAt p hashes places at count run)
    (allowed : continues p.segments run ≡ false → is_allowed p.guard count ≡ true) where
  abbrev ls : List (List ℕ × ℕ)
  ls = take count (drop at batch)

  abbrev q : PlanState
  q = joined p run ls

  abbrev segment : ℕ
  segment = last_index (with_run p.segments run)

  counted : length ls ≡ count
  counted = length-take-le count (drop at batch) (omega (arith, within, length-drop at batch))

  hash_there : (h : List ℕ) × (slice_get hashes at ≡ Some h)
  hash_there = item_at hashes at (omega (arith, ap length same, length-map batch (λ (leaf : List ℕ × ℕ). leaf.0), within, some))

  first_there : (leaf : List ℕ × ℕ) × (slice_get ls 0 ≡ Some leaf)
  first_there = item_at ls 0 (omega (arith, counted, some))

  -- the hashes of the run's chunks
  hashes_there : hashes_of ls ≡ take count (drop at hashes)
  hashes_there =
      sym (take-map (λ (leaf : List ℕ × ℕ). leaf.0) count (drop at batch))
      ∙ ap (take count) (sym (drop-map (λ (leaf : List ℕ × ℕ). leaf.0) at batch))
      ∙ ap (λ (hs : List (List ℕ)). take count (drop at hs)) (sym same)

  -- the leaves that follow
  follows : drop at batch ≡ ls ++ drop count (drop at batch)
  follows = sym (take-append-drop count (drop at batch))

  -- the guard was asked for a run that does not go on
  is_allowed_here : (continues p.segments run ≡ true) ⊎ (is_allowed p.guard (length ls) ≡ true)
  is_allowed_here = by (continues p.segments run) refl
    where
      by : (b : Bool) → continues p.segments run ≡ b → (continues p.segments run ≡ true) ⊎ (is_allowed p.guard (length ls) ≡ true)
      by true e = inl e
      by false e = inr (ap (is_allowed p.guard) counted ∙ allowed e)

  first_hash : (h : List ℕ) → slice_get hashes at ≡ Some h → first_there.0.0 ≡ h
  first_hash h e =
      some_same first_there.0.0 h (
      sym (get_mapped (λ (leaf : List ℕ × ℕ). leaf.0) ls 0 first_there.0 first_there.1)
      ∙ ap (λ (hs : List (List ℕ)). slice_get hs 0) hashes_there
      ∙ get_first hashes count at some
      ∙ e
      )

  plan_then : IsPlanSince listing standing before calls leaves q
  plan_then = record {
    since = w.plan.since;
    added = w.plan.added;
    plan =
        joined_is_plan listing standing w.plan.since leaves p run first_there.0 ls (drop count (drop at batch)) w.plan.plan (known ∙ ap (λ (l : List (List ℕ × ℕ)). p.leaves ++ l) follows) first_there.1
        (run_counted listing standing before calls leaves hashes places base at p w count run found ∙ sym counted)
        (subst (λ (h : List ℕ). IsFound (setting_of p w.plan.since leaves) (length p.leaves) h (length ls)) (sym (first_hash hash_there.0 hash_there.1))
        (subst (IsFound (setting_of p w.plan.since leaves) (length p.leaves) hash_there.0) (sym counted)
        (run_found listing standing before calls leaves hashes places base at p w count run hash_there.0 hash_there.1 found)))
        is_allowed_here
        (subst (HasHashes listing standing p.block run) (sym hashes_there) (run_hashes listing standing before calls leaves hashes places base at p w count run hash_there.0 hash_there.1 found));
    later = λ i m n h reply e asked. w.plan.later i m n h reply (old_entry p.choices (length ls) segment i m e) asked;
  }

  chunks_so_far : length p.choices ≡ base + at
  chunks_so_far = w.plan.plan.one_each ∙ w.here

  -- a kept run that goes on past the run that joined was passed
  passed_then : (i : ℕ) (kept : Segment) (is_external : Bool) → slice_get places i ≡ Some (Kept kept is_external) → i < at + count → at + count < i + run_len kept
      → WasPassed (setting_of q w.plan.since leaves) (base + i)
  passed_then i kept is_external e lt over = by (cases_lt i at)
    where
      before_it : WasPassed (setting_of p w.plan.since leaves) (base + i) → WasPassed (setting_of q w.plan.since leaves) (base + i)
      before_it (inl refused) = inl (refused.0, get_more p.choices (replicate (length ls) (Reused segment)) (base + i) (Refused refused.0) refused.1)
      before_it (inr reused) = inr (
        reused.0,
        reused.1,
        reused.2,
        get_more p.choices (replicate (length ls) (Reused segment)) reused.0 (Reused reused.1) reused.3,
        get_more p.choices (replicate (length ls) (Reused segment)) (base + i) (Reused reused.1) reused.4,
      )

      in_it : (j : ℕ) → at ≤ j → j < at + count → slice_get (p.choices ++ replicate (length ls) (Reused segment)) (base + j) ≡ Some (Reused segment)
      in_it j le below = get_run p.choices (length ls) (base + j) (Reused segment) (omega (arith, le, chunks_so_far)) (omega (arith, below, chunks_so_far, counted))

      -- the run at the place itself is the one that joined
      at_it : i ≡ at → IsRunAt p hashes places at count run → WasPassed (setting_of q w.plan.since leaves) (base + i)
      at_it here (inl there) =
          let both : Some (Kept kept is_external) ≡ Some (Kept run there.0.0) = sym e ∙ ap (slice_get places) here ∙ there.0.1 in
          let is : kept ≡ run = cc both in
          absurd (omega (arith, over, here, there.1, ap run_len is))
      at_it here (inr there) = absurd (there.0 kept is_external (ap (slice_get places) (sym here) ∙ e))

      or_here : (i < at + 1) ⊎ (at + 1 ≤ i) → at ≤ i → WasPassed (setting_of q w.plan.since leaves) (base + i)
      or_here (inl below) le = at_it (omega (arith, below, le)) found
      or_here (inr above) le = inr (base + i - 1, segment, omega (arith, above), subst (λ (j : ℕ). slice_get (p.choices ++ replicate (length ls) (Reused segment)) j ≡ Some (Reused segment)) (omega (arith, above)) (in_it (i - 1) (omega (arith, above)) (omega (arith, lt))), in_it i le lt)

      by : (i < at) ⊎ (at ≤ i) → WasPassed (setting_of q w.plan.since leaves) (base + i)
      by (inl below) = before_it (w.passed i kept is_external e below (omega (arith, over, some)))
      by (inr le) = or_here (cases_lt i (at + 1)) le

  pub walk_joined : IsWalking listing standing before calls leaves hashes places base (at + count) q
  unfolding plan_then
  walk_joined = record {
    plan = plan_then;
    earlier = w.earlier;
    asked = w.asked;
    true_places = w.true_places;
    known = w.known;
    here = omega (arith, length-append p.leaves ls, counted, w.here);
    batch = w.batch;
    ascend = λ i j m n e le missed. w.ascend i j m n (old_entry p.choices (length ls) segment i m e) (omega (arith, le)) missed;
    passed = passed_then;
    fresh = w.fresh;
  }
