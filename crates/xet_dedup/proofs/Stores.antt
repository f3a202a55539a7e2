-- A walk goes on with a chunk that was stored.
use Rattle.std.proofs.Common.{◌≡◌, ◌≢◌, ◌⊎◌, inl, inr, ◌∙◌, ℕ, zero, suc, ◌+◌, ◌≤◌, ◌<◌, ◌^◌, Bool, true, false, List, [], ◌∷◌, ◌++◌, append_assoc, length, map, drop, Option, Some, sym, ap, subst, arith, length-append}
use Rattle.std.specs.Prelude.{slice_get}
use Rattle.std.proofs.lemmas.Bool.{cases_lt}
use Rattle.xet_choices.specs.declared.choice.Choice.{Choice}
use Rattle.xet_choices.specs.declared.choice.Choice.TheVariants.{NoPlace, Refused, Reused}
use Rattle.xet_choices.specs.Calls.{Call, IsAskedIn}
use Rattle.xet_choices.specs.Calls.Call.{Registered}
use Rattle.xet_choices.specs.Choices.{TrueAt, WasPassed, fits}
use Rattle.xet_choices.specs.theorems.Calls.{asked_before}
use Rattle.xet_choices.specs.theorems.Choices.{get_more}
use Rattle.xet_dedup_queries.specs.Interface.{IsFoundRun, run_len}
use Rattle.xet_dedup_queries.specs.Places.{ArePlaces, IsPlace}
use Rattle.xet_dedup_queries.specs.Registering.{EachPartStands}
use Rattle.xet_dedup_queries.specs.declared.places.Place.{Place}
use Rattle.xet_dedup_queries.specs.declared.places.Place.TheVariants.{Covered, Kept, Missed, Unasked}
use Rattle.xet_file_plan.specs.Moves.{PlanState, closed, stored}
use Rattle.xet_file_plan.specs.Plan.{IsPlan, IsStorable, setting_of}
use Rattle.xet_file_plan.specs.theorems.Plans.{get_either, get_seam, some_same}
use Rattle.xet_file_plan.specs.theorems.Runs.{lies_stays}
use Rattle.xet_file_plan.specs.theorems.Storing.{IsLatest, stored_after_in_new_block_is_plan, stored_after_is_plan}
use Rattle.xet_hash.specs.Hash.{sentinel}
use Rattle.xet_hash.specs.Merkle.{total_len}
use Rattle.xet_shard_format.specs.declared.record.FileDataSequenceEntry.{FileDataSequenceEntry as Segment}
use Rattle.xet_xorb.specs.Raw.{raw_leaves, raw_of}
use Rattle.xet_xorb.specs.declared.raw.RawXorbData.{RawXorbData}
use Rattle.xet_xorb_chunk.specs.declared.chunk.Chunk.{Chunk}
use Rattle.xet_xorb_chunk.specs.Chunks.{chunk_leaf}
use Rattle.xet_dedup.specs.internal.Walking.{IsWalking}
use Rattle.xet_dedup.proofs.Chosen.{IsChosen}
use Rattle.xet_dedup.proofs.Lists.{get_drop, get_mapped}

-- places stay true as more is known
module _ (listing listing' : List ℕ → Option (List ℕ)) (standing standing' : List (List ℕ) → Segment → Type 0)
    (lists : (h lengths : List ℕ) → listing h ≡ Some lengths → listing' h ≡ Some lengths) (stands : (hashes : List (List ℕ)) (run : Segment) → standing hashes run → standing' hashes run) where
  found_stays : (hashes : List (List ℕ)) (count : ℕ) (run : Segment) → IsFoundRun listing standing hashes count run → IsFoundRun listing' standing' hashes count run
  found_stays hashes count run f = record { some = f.some; within = f.within; counted = f.counted; lies = lies_stays listing listing' standing standing' lists stands run f.lies; stands = stands _ run f.stands }

  place_stays : (calls : List Call) (hashes : List (List ℕ)) (places : List Place) (i : ℕ) (h : List ℕ) (place : Place)
      → IsPlace listing standing calls hashes places i h place → IsPlace listing' standing' calls hashes places i h place
  place_stays calls hashes places i h (Kept run is_external) is = (found_stays (drop i hashes) (run_len run) run is.0, is.1)
  place_stays calls hashes places i h (Missed entry) is = is
  place_stays calls hashes places i h (Covered start) is = is
  place_stays calls hashes places i h Unasked is = is

  pub places_stay : (before calls : List Call) (hashes : List (List ℕ)) (places : List Place) → ArePlaces listing standing before calls hashes places → ArePlaces listing' standing' before calls hashes places
  places_stay before calls hashes places are = record {
    counted = are.counted;
    each = λ i h place e f. place_stays calls hashes places i h place (are.each i h place e f);
    inside = are.inside;
    ascend = are.ascend;
    later = are.later;
  }

module _ (listing : List ℕ → Option (List ℕ)) (standing : List (List ℕ) → Segment → Type 0) (before calls : List Call) (leaves : List (List ℕ × ℕ)) (hashes : List (List ℕ)) (places : List Place) (base at : ℕ) (p : PlanState)
    (w : IsWalking listing standing before calls leaves hashes places base at p) where
  -- the hash of the next chunk of the file is that of the place
  pub hash_here : (leaf : List ℕ × ℕ) (more : List (List ℕ × ℕ)) → leaves ≡ p.leaves ++ (leaf ∷ more) → slice_get hashes at ≡ Some leaf.0
  hash_here leaf more known =
      let there : slice_get leaves (length p.leaves) ≡ Some leaf = ap (λ (l : List (List ℕ × ℕ)). slice_get l (length p.leaves)) known ∙ get_seam p.leaves (leaf ∷ more) in
      let next : slice_get (drop base leaves) at ≡ Some leaf = get_drop leaves base at ∙ ap (slice_get leaves) (sym w.here) ∙ there in
      ap (λ (hs : List (List ℕ)). slice_get hs at) (sym w.batch) ∙ get_mapped (λ (leaf : List ℕ × ℕ). leaf.0) (drop base leaves) at leaf next

  module _ (h : List ℕ) (q : PlanState) (c : Choice) (chosen : IsChosen p q (setting_of p w.plan.since leaves) places at h c) where
    pub is_latest : IsLatest p.choices c
    is_latest i m n is e = w.ascend i at m n e (omega arith) (chosen.missed n is)

    -- the entry of a choice is an old one, or that of the place
    entry_of : (r : PlanState) → r.choices ≡ p.choices ++ c ∷ [] → (i m : ℕ) → slice_get r.choices i ≡ Some (NoPlace m)
        → (slice_get p.choices i ≡ Some (NoPlace m)) ⊎ (slice_get places at ≡ Some (Missed m))
    entry_of r same i m e = by (get_either p.choices (c ∷ []) i (NoPlace m) (ap (λ (cs : List Choice). slice_get cs i) (sym same) ∙ e))
      where
        by : ((slice_get p.choices i ≡ Some (NoPlace m)) ⊎ ((j : ℕ) × (i ≡ length p.choices + j) × (slice_get (c ∷ []) j ≡ Some (NoPlace m)))) → (slice_get p.choices i ≡ Some (NoPlace m)) ⊎ (slice_get places at ≡ Some (Missed m))
        by (inl old) = inl old
        by (inr (zero, j, e)) = inr (chosen.missed m (some_same c (NoPlace m) e))
        by (inr (suc k, j, e)) = absurd (cc e)

    -- The walk goes on with a plan r that has this choice too.
    module _ (listing' : List ℕ → Option (List ℕ)) (standing' : List (List ℕ) → Segment → Type 0) (lists : (h lengths : List ℕ) → listing h ≡ Some lengths → listing' h ≡ Some lengths)
        (stands : (hashes : List (List ℕ)) (run : Segment) → standing hashes run → standing' hashes run) (calls' since : List Call) (added : calls' ≡ before ++ since)
        (grown : (n : ℕ) (x : List ℕ) (reply : Option ℕ) → IsAskedIn w.plan.since n x reply → IsAskedIn since n x reply)
        (r : PlanState) (plan : IsPlan listing' standing' since leaves r) (same : r.choices ≡ p.choices ++ c ∷ []) (longer : length r.leaves ≡ length p.leaves + 1) where
      chunks_so_far : length p.choices ≡ base + at
      chunks_so_far = w.plan.plan.one_each ∙ w.here

      passed_then : (i : ℕ) (kept : Segment) (is_external : Bool) → slice_get places i ≡ Some (Kept kept is_external) → i < at + 1 → at + 1 < i + run_len kept
          → WasPassed (setting_of r since leaves) (base + i)
      passed_then i kept is_external e lt over = by (cases_lt i at)
        where
          has : (j : ℕ) (d : Choice) → slice_get p.choices j ≡ Some d → slice_get r.choices j ≡ Some d
          has j d f = ap (λ (cs : List Choice). slice_get cs j) same ∙ get_more p.choices (c ∷ []) j d f

          before_it : WasPassed (setting_of p w.plan.since leaves) (base + i) → WasPassed (setting_of r since leaves) (base + i)
          before_it (inl refused) = inl (refused.0, has (base + i) (Refused refused.0) refused.1)
          before_it (inr reused) = inr (reused.0, reused.1, reused.2, has reused.0 (Reused reused.1) reused.3, has (base + i) (Reused reused.1) reused.4)

          last : slice_get r.choices (base + i) ≡ Some c → (k : ℕ) × (c ≡ Refused k) → WasPassed (setting_of r since leaves) (base + i)
          last f refused = inl (refused.0, f ∙ ap Some refused.1)

          by : (i < at) ⊎ (at ≤ i) → WasPassed (setting_of r since leaves) (base + i)
          by (inl below) = before_it (w.passed i kept is_external e below (omega (arith, over)))
          by (inr le) =
              let here : at ≡ i = omega (arith, lt, le) in
              let end : base + i ≡ length p.choices = omega (arith, here, chunks_so_far) in
              last (ap (slice_get r.choices) end ∙ ap (λ (cs : List Choice). slice_get cs (length p.choices)) same ∙ get_seam p.choices (c ∷ [])) (chosen.kept kept is_external (ap (slice_get places) here ∙ e))

      ascend_then : (i j m n : ℕ) → slice_get r.choices i ≡ Some (NoPlace m) → at + 1 ≤ j → slice_get places j ≡ Some (Missed n) → m < n
      ascend_then i j m n e le missed = by (entry_of r same i m e)
        where
          by : (slice_get p.choices i ≡ Some (NoPlace m)) ⊎ (slice_get places at ≡ Some (Missed m)) → m < n
          by (inl old) = w.ascend i j m n old (omega (arith, le)) missed
          by (inr new) = w.true_places.ascend at j m n (omega (arith, le)) new missed

      later_then : (i m n : ℕ) (x : List ℕ) (reply : Option ℕ) → slice_get r.choices i ≡ Some (NoPlace m) → IsAskedIn before n x reply → n < m
      later_then i m n x reply e asked = by (entry_of r same i m e)
        where
          by : (slice_get p.choices i ≡ Some (NoPlace m)) ⊎ (slice_get places at ≡ Some (Missed m)) → n < m
          by (inl old) = w.plan.later i m n x reply old asked
          by (inr new) = w.fresh at m n x reply new asked

      pub goes_on : IsWalking listing' standing' before calls' leaves hashes places base (at + 1) r
      goes_on = record {
        plan = record { since = since; added = added; plan = plan; later = later_then };
        earlier = w.earlier;
        asked = w.asked;
        true_places = places_stay listing listing' standing standing' lists stands w.earlier w.asked hashes places w.true_places;
        known = λ n x reply asked. grown n x reply (w.known n x reply asked);
        here = omega (arith, longer, w.here);
        batch = w.batch;
        ascend = ascend_then;
        passed = passed_then;
        fresh = w.fresh;
      }

    module _ (chunk : Chunk) (more : List (List ℕ × ℕ)) (known : leaves ≡ p.leaves ++ (chunk_leaf chunk ∷ more)) (is_hash : h ≡ chunk.hash) (storable : IsStorable chunk) where
      is_true : TrueAt (setting_of p w.plan.since leaves) (length p.leaves) chunk.hash c
      is_true = subst (λ (x : List ℕ). TrueAt (setting_of p w.plan.since leaves) (length p.leaves) x c) is_hash chosen.is

      -- A chunk that fits into the open block.
      pub walk_stored : fits p.settings (map chunk_leaf p.block) (length chunk.bytes) ≡ true → IsWalking listing standing before calls leaves hashes places base (at + 1) (stored q chunk c)
      walk_stored fit =
          goes_on listing standing (λ x lengths e. e) (λ hs run is. is) calls w.plan.since w.plan.added (λ n x reply is. is) (stored q chunk c)
          (subst (λ (r : PlanState). IsPlan listing standing w.plan.since leaves (stored r chunk c)) (sym chosen.plan)
          (stored_after_is_plan listing standing w.plan.since leaves p chunk more c w.plan.plan known storable fit chosen.new is_true is_latest))
          (ap (λ (r : PlanState). r.choices ++ c ∷ []) chosen.plan)
          (ap (λ (r : PlanState). length (r.leaves ++ chunk_leaf chunk ∷ [])) chosen.plan ∙ length-append p.leaves (chunk_leaf chunk ∷ []))

      -- A chunk that begins a new block, after the open block was registered as the xorb x.
      module _ (listing' : List ℕ → Option (List ℕ)) (standing' : List (List ℕ) → Segment → Type 0) (lists : (h lengths : List ℕ) → listing h ≡ Some lengths → listing' h ≡ Some lengths)
          (stands : (hashes : List (List ℕ)) (run : Segment) → standing hashes run → standing' hashes run) (x : RawXorbData) (boundaries : List ℕ) (next : List (List ℕ × ℕ)) (made : x ≡ raw_of p.block boundaries)
          (named : x.xorb_info.metadata.xorb_hash ≢ sentinel) (listed : listing' x.xorb_info.metadata.xorb_hash ≡ Some (map (λ m. m.1) (raw_leaves x)))
          (parts : EachPartStands standing' x) (small : total_len (raw_leaves x) < 2 ^ 32) where
        abbrev added_call : List Call
        added_call = Registered (raw_leaves x) next ∷ []

        pub walk_stored_in_new_block : fits p.settings (map chunk_leaf p.block) (length chunk.bytes) ≡ false
            → IsWalking listing' standing' before (calls ++ added_call) leaves hashes places base (at + 1) (stored (closed q x.xorb_info.metadata.xorb_hash) chunk c)
        walk_stored_in_new_block unfit =
            goes_on listing' standing' lists stands (calls ++ added_call) (w.plan.since ++ added_call) (ap (λ (l : List Call). l ++ added_call) w.plan.added ∙ append_assoc before w.plan.since added_call)
            (λ n y reply is. asked_before w.plan.since added_call n y reply is) (stored (closed q x.xorb_info.metadata.xorb_hash) chunk c)
            (subst (λ (r : PlanState). IsPlan listing' standing' (w.plan.since ++ added_call) leaves (stored (closed r x.xorb_info.metadata.xorb_hash) chunk c)) (sym chosen.plan)
            (stored_after_in_new_block_is_plan listing listing' standing standing' w.plan.since leaves p chunk more c x boundaries next lists stands w.plan.plan known storable unfit chosen.new is_true is_latest made named listed parts small))
            (ap (λ (r : PlanState). r.choices ++ c ∷ []) chosen.plan)
            (ap (λ (r : PlanState). length (r.leaves ++ chunk_leaf chunk ∷ [])) chosen.plan ∙ length-append p.leaves (chunk_leaf chunk ∷ []))
