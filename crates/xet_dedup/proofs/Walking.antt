-- A walk over the places of a batch: the run at a place was found, and it has the hashes of the chunks there.
use Rattle.std.proofs.Common.{◌≡◌, ◌≢◌, inl, inr, ◌∙◌, ℕ, zero, suc, ◌+◌, ◌<◌, Bool, true, false, List, [], ◌∷◌, length, map, take, drop, Option, Some, refl, sym, ap, subst, arith}
use Rattle.std.specs.Prelude.{slice_get}
use Rattle.std.specs.Cmp.Lexicographic.{bytes_decides}
use Rattle.std.proofs.lemmas.List.{drop-drop, drop-map, length-drop, length-map}
use Rattle.xet_choices.specs.Calls.{Call, IsAskedIn}
use Rattle.xet_choices.specs.Choices.{AreSameRun, IsFound, Setting, block_at, hashes_of, last_place}
use Rattle.xet_dedup_queries.specs.Interface.{run_len}
use Rattle.xet_dedup_queries.specs.declared.places.Place.{Place}
use Rattle.xet_dedup_queries.specs.declared.places.Place.TheVariants.{Kept}
use Rattle.xet_file_plan.specs.Moves.{PlanState, is_open}
use Rattle.xet_file_plan.specs.Placed.{HasHashes, LiesInBlock}
use Rattle.xet_file_plan.specs.Placed.IsMadeOf.{one}
use Rattle.xet_file_plan.specs.Plan.{setting_of}
use Rattle.xet_file_plan.specs.theorems.Placed.{has_hashes_closed, has_hashes_open}
use Rattle.xet_hash.specs.Hash.{sentinel}
use Rattle.xet_open_block.specs.OpenBlock.{first_place}
use Rattle.xet_shard_format.specs.declared.record.FileDataSequenceEntry.{FileDataSequenceEntry as Segment}
use Rattle.xet_xorb_chunk.specs.Chunks.{chunk_leaf}
use Rattle.xet_dedup.specs.Placing.{IsOpenRun, IsRunAt}
use Rattle.xet_dedup.specs.internal.Walking.{IsWalking}
use Rattle.xet_dedup.proofs.Lists.{get_drop, get_made}

pub first_place_at : (hs : List (List ℕ)) (i : ℕ) (h : List ℕ) (ms : List (List ℕ × ℕ)) → slice_get hs i ≡ Some h → first_place (drop i hs) ms ≡ last_place h ms
first_place_at [] i h ms e = absurd (cc e)
first_place_at (x ∷ hs) zero h ms e = let same : x ≡ h = cc e in ap (λ (y : List ℕ). last_place y ms) same
first_place_at (x ∷ hs) (suc i) h ms e = first_place_at hs i h ms e

-- a run of a xorb with a name of its own is not open
pub not_open : (run : Segment) → run.xorb_hash ≢ sentinel → is_open run ≡ false
not_open run named = by (is_open run) refl
  where
    by : (b : Bool) → is_open run ≡ b → b ≡ false
    by false e = refl
    by true e = absurd (named ((bytes_decides run.xorb_hash sentinel).0 e))

-- a run that is open lies in the block, and has the hashes of the query
pub open_run_lies : (p : PlanState) (hashes : List (List ℕ)) (count : ℕ) (run : Segment) → IsOpenRun p hashes count run → LiesInBlock p.block run (take count hashes)
open_run_lies p hashes count run o = record {
  within = (let e : run.chunk_index_end ≡ run.chunk_index_start + run_len run = ap (λ (r : Segment). r.chunk_index_end) o.of_block.same in omega (arith, e, o.of_block.within));
  run = o.of_block.same;
  same = subst (λ (n : ℕ). take n (drop run.chunk_index_start (hashes_of (map chunk_leaf p.block))) ≡ take count hashes) (sym o.counted) o.same;
}

module _ (listing : List ℕ → Option (List ℕ)) (standing : List (List ℕ) → Segment → Type 0) (before calls : List Call) (leaves : List (List ℕ × ℕ)) (hashes : List (List ℕ)) (places : List Place) (base at : ℕ) (p : PlanState)
    (w : IsWalking listing standing before calls leaves hashes places base at p) where
  abbrev s : Setting
  s = setting_of p w.plan.since leaves

  -- the leaf of a chunk of the batch
  pub leaf_of : (i : ℕ) (h : List ℕ) → slice_get hashes i ≡ Some h → (leaf : List ℕ × ℕ) × (slice_get leaves (base + i) ≡ Some leaf) × (leaf.0 ≡ h)
  leaf_of i h e =
      let made = get_made (λ (leaf : List ℕ × ℕ). leaf.0) (drop base leaves) i h (ap (λ (hs : List (List ℕ)). slice_get hs i) w.batch ∙ e) in
      (made.0, sym (get_drop leaves base i) ∙ made.1, made.2)

  -- the hashes of the chunks that follow
  pub hashes_here : drop at hashes ≡ hashes_of (drop (length p.leaves) leaves)
  hashes_here =
      ap (drop at) (sym w.batch)
      ∙ drop-map (λ (leaf : List ℕ × ℕ). leaf.0) at (drop base leaves)
      ∙ ap hashes_of (drop-drop at base leaves)
      ∙ ap (λ (n : ℕ). hashes_of (drop n leaves)) (sym w.here)

  pub block_here : map chunk_leaf p.block ≡ block_at s (length p.leaves)
  block_here = w.plan.plan.block ∙ ap (block_at s) w.plan.plan.one_each

  -- the open block's run is one that was found
  open_found : (count : ℕ) (run : Segment) (h : List ℕ) → slice_get hashes at ≡ Some h → IsOpenRun p (drop at hashes) count run → IsFound s (length p.leaves) h count
  open_found count run h e o =
      let ms : List (List ℕ × ℕ) = map chunk_leaf p.block in
      let start : ℕ = run.chunk_index_start in
      let same : AreSameRun count ms start leaves (length p.leaves) = (
        omega (arith, o.of_block.within, o.counted, length-drop start ms, length-map p.block chunk_leaf),
        ap (take count) (sym (drop-map (λ (leaf : List ℕ × ℕ). leaf.0) start ms)) ∙ o.same ∙ ap (take count) hashes_here,
      ) in
      inr (subst (λ (b : List (List ℕ × ℕ)). (i : ℕ) × (last_place h b ≡ Some i) × (0 < count) × AreSameRun count b i leaves (length p.leaves)) block_here
      (start, sym (first_place_at hashes at h ms e) ∙ o.first, o.some, same))

  -- The run at the place was found from its chunk,
  pub run_found : (count : ℕ) (run : Segment) (h : List ℕ) → slice_get hashes at ≡ Some h → IsRunAt p hashes places at count run → IsFound s (length p.leaves) h count
  run_found count run h e (inl kept) =
      let asked = (w.true_places.each at h (Kept run kept.0.0) e kept.0.1).1 in
      inl (asked.0, subst (λ (n : ℕ). IsAskedIn w.plan.since asked.0 h (Some n)) kept.1 (w.known asked.0 h (Some (run_len run)) asked.1))
  run_found count run h e (inr block) = open_found count run h e block.1

  -- and has the hashes of the chunks there.
  pub run_hashes : (count : ℕ) (run : Segment) (h : List ℕ) → slice_get hashes at ≡ Some h → IsRunAt p hashes places at count run
      → HasHashes listing standing p.block run (take count (drop at hashes))
  run_hashes count run h e (inl kept) =
      let found = (w.true_places.each at h (Kept run kept.0.0) e kept.0.1).0 in
      has_hashes_closed listing standing p.block run (take count (drop at hashes)) (not_open run found.lies.named) (record {
        lies = found.lies;
        made = one run (take count (drop at hashes)) (subst (λ (n : ℕ). standing (take n (drop at hashes)) run) kept.1 found.stands);
      })
  run_hashes count run h e (inr block) = has_hashes_open listing standing p.block run (take count (drop at hashes)) block.1.opened (open_run_lies p (drop at hashes) count run block.1)

  pub run_counted : (count : ℕ) (run : Segment) → IsRunAt p hashes places at count run → run_len run ≡ count
  run_counted count run (inl kept) = kept.1
  run_counted count run (inr block) = block.1.counted
