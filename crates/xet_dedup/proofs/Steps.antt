-- One step of a walk over a batch.
use Rattle.std.proofs.Common.{◌≡◌, ◌⊎◌, inl, inr, ◌∙◌, ℕ, ◌+◌, ◌≤◌, ◌<◌, List, [], ◌∷◌, ◌++◌, append_assoc, length, map, take, drop, Option, Some, refl, sym, ap, subst, arith}
use Rattle.std.specs.Prelude.{slice_get}
use Rattle.std.proofs.lemmas.List.{drop-drop, length-drop, length-map, take-append-drop}
use Rattle.xet_choices.specs.Calls.{Call}
use Rattle.xet_choices.specs.declared.choice.Choice.{Choice}
use Rattle.xet_choices.specs.Choices.{fits, hashes_of}
use Rattle.xet_cut.specs.declared.limits.LimitSettings.{LimitSettings}
use Rattle.xet_fragmentation.specs.Fragmentation.{Fragmentation}
use Rattle.xet_cut.specs.Limits.{AreInRange}
use Rattle.xet_dedup_queries.specs.Acts.{Act}
use Rattle.xet_dedup_queries.specs.declared.places.Place.{Place}
use Rattle.xet_dedup_queries.specs.declared.places.Place.TheVariants.{Covered, Kept, Unasked}
use Rattle.xet_file_plan.specs.Kept.{IsBlockWithin}
use Rattle.xet_file_plan.specs.Moves.{PlanState, closed, joined, stored}
use Rattle.xet_file_plan.specs.Plan.{IsStorable, setting_of}
use Rattle.xet_xorb.specs.Raw.{raw_of}
use Rattle.xet_xorb.specs.declared.raw.RawXorbData.{RawXorbData}
use Rattle.xet_xorb_chunk.specs.declared.chunk.Chunk.{Chunk}
use Rattle.xet_xorb_chunk.specs.Chunks.{chunk_leaf}
use Rattle.xet_dedup.specs.Deduping.{IsChunk}
use Rattle.xet_dedup.specs.declared.walk.Batch.{Batch}
use Rattle.xet_dedup.specs.internal.Batches.{Walks}
use Rattle.xet_dedup.specs.Placing.{Stores}
use Rattle.xet_dedup.proofs.Chosen.{IsChosen, is_chosen}
use Rattle.xet_dedup.proofs.Joins.{walk_joined}
use Rattle.xet_dedup.proofs.Stores.{hash_here, walk_stored, walk_stored_in_new_block}
use Rattle.xet_file_plan.specs.theorems.Bytes.{joined_bytes_open_small, joined_bytes_placed}
use Rattle.xet_shard_format.specs.declared.record.FileDataSequenceEntry.{FileDataSequenceEntry as Segment}
use Rattle.xet_dedup.specs.internal.Joining.{CanJoin, IsBatch}
use Rattle.xet_dedup.specs.Placing.{HasNone, Joins, Rejects}
use Rattle.xet_dedup.specs.internal.Walking.{IsWalking}
use Rattle.xet_dedup.proofs.Lists.{all_at, drop_here, get_mapped, item_at}
use Rattle.xet_dedup.proofs.Walking.{not_open}

module _ (listing : List ℕ → Option (List ℕ)) (standing : List (List ℕ) → Segment → Type 0) (before calls : List Call) (leaves : List (List ℕ × ℕ)) (hashes : List (List ℕ)) (places : List Place) (base at : ℕ) (p : PlanState)
    (w : IsWalking listing standing before calls leaves hashes places base at p) where
  -- The run at a place may join.
  pub can_join : IsBlockWithin p.settings p.block → AreInRange p.settings → at < length hashes → CanJoin p hashes places at
  can_join within range lt =
      let h = item_at hashes at lt in
      let placed = w.plan.plan.placed in
      record {
        kept = λ run is_external e. (let found = (w.true_places.each at h.0 (Kept run is_external) h.1 e).0 in (
          found.some,
          omega (arith, found.within, length-drop at hashes, lt),
          joined_bytes_placed listing standing p.block p.segments (hashes_of p.leaves) run placed found.lies,
          not_open run found.lies.named,
        ));
        of_block = λ run is of. joined_bytes_open_small listing standing p.block p.segments (hashes_of p.leaves) run placed of (omega (arith, within.bytes, range.cut_bytes_to));
        covered = λ start e. (w.true_places.each at h.0 (Covered start) h.1 e).0;
        asked = λ e. w.true_places.each at h.0 Unasked h.1 e;
      }

-- as many hashes as chunks
pub length_hashes : (settings : LimitSettings) (b : Batch) → IsBatch settings b → length b.hashes.now ≡ length b.chunks.now
length_hashes settings b batch = omega (arith, ap length batch.hashes, length-map b.leaves.now (λ (leaf : List ℕ × ℕ). leaf.0), ap length batch.leaves, length-map b.chunks.now chunk_leaf)

-- a chunk of the chunking may be stored
pub is_storable : (settings : LimitSettings) (chunk : Chunk) → AreInRange settings → IsChunk settings chunk → IsStorable chunk
is_storable settings chunk range is = record { hashed = is.hashed; some = is.some; small = omega (arith, is.small, range.maximum_to) }

-- after a run was rejected, or if there is none, the plan is as before but for the guard
module _ (p m : PlanState) (hashes : List (List ℕ)) (places : List Place) (base at : ℕ) (c : Choice) where
  pub rest_kept : Rejects p m hashes places at c ⊎ HasNone p m hashes places base at c → m ≡ record p { guard = m.guard }
  rest_kept (inl r) = r.plan ∙ ap (λ (g : Fragmentation). record p { guard = g }) (ap (λ (n : PlanState). n.guard) (sym r.plan))
  rest_kept (inr n) = n.plan ∙ ap (λ (g : Fragmentation). record p { guard = g }) (ap (λ (n : PlanState). n.guard) (sym n.plan))

-- ---- over an interface

module _ {I : Type 0} (listing : I → List ℕ → Option (List ℕ)) (standing : I → List (List ℕ) → Segment → Type 0) (calling : I → List Call) (start old : I) (b : Batch) (at : ℕ) (p : PlanState)
    (batch : IsBatch p.settings b) (w : Walks listing standing calling start old b at p) where
  -- a run that joined
  module _ (q : PlanState) (count : ℕ) (some : 0 < count) (within : at + count ≤ length b.chunks.now) (joins : Joins p q b.leaves.now b.hashes.now b.places.now at count) where
    length_leaves : length b.leaves.now ≡ length b.chunks.now
    length_leaves = ap length batch.leaves ∙ length-map b.chunks.now chunk_leaf

    rest : p.leaves ++ drop at b.leaves.now ≡ (p.leaves ++ take count (drop at b.leaves.now)) ++ drop (at + count) b.leaves.now
    rest =
        ap (λ (l : List (List ℕ × ℕ)). p.leaves ++ l) (sym (take-append-drop count (drop at b.leaves.now)) ∙ ap (λ (l : List (List ℕ × ℕ)). take count (drop at b.leaves.now) ++ l) (drop-drop count at b.leaves.now))
        ∙ sym (append_assoc p.leaves (take count (drop at b.leaves.now)) (drop (at + count) b.leaves.now))

    -- no leaf is lost
    pub leaves_joined : q.leaves ++ drop (at + count) b.leaves.now ≡ p.leaves ++ drop at b.leaves.now
    leaves_joined = ap (λ (r : PlanState). r.leaves ++ drop (at + count) b.leaves.now) joins.plan ∙ sym rest

    pub step_joined : Walks listing standing calling start old b (at + count) q
    step_joined =
        subst (λ (r : PlanState). Walks listing standing calling start old b (at + count) r) (sym joins.plan)
        (subst (λ (l : List (List ℕ × ℕ)). IsWalking (listing old) (standing old) (calling start) (calling old) l b.hashes.now b.places.now b.base (at + count) (joined p joins.run (take count (drop at b.leaves.now)))) rest
        (walk_joined (listing old) (standing old) (calling start) (calling old) (p.leaves ++ drop at b.leaves.now) b.hashes.now b.places.now b.base at p w b.leaves.now refl batch.hashes count some
        (omega (arith, within, length_leaves)) joins.run joins.found joins.allowed))

  -- a chunk that was stored
  module _ (acting : I → List Act) (new : I) (lists : (h lengths : List ℕ) → listing old h ≡ Some lengths → listing new h ≡ Some lengths) (stands : (hashes : List (List ℕ)) (run : Segment) → standing old hashes run → standing new hashes run)
      (range : AreInRange p.settings) (m q : PlanState) (chunk : Chunk) (c : Choice) (here : slice_get b.chunks.now at ≡ Some chunk)
      (none : Rejects p m b.hashes.now b.places.now at c ⊎ HasNone p m b.hashes.now b.places.now b.base at c) where
    storable : IsStorable chunk
    storable = is_storable p.settings chunk range (all_at (IsChunk p.settings) b.chunks.now at chunk batch.chunks here)

    follows : drop at b.leaves.now ≡ chunk_leaf chunk ∷ drop (at + 1) b.leaves.now
    follows = drop_here b.leaves.now at (chunk_leaf chunk) (ap (λ (l : List (List ℕ × ℕ)). slice_get l at) batch.leaves ∙ get_mapped chunk_leaf b.chunks.now at chunk here)

    leaves_then : p.leaves ++ drop at b.leaves.now ≡ (m.leaves ++ chunk_leaf chunk ∷ []) ++ drop (at + 1) b.leaves.now
    leaves_then =
        ap (λ (l : List (List ℕ × ℕ)). p.leaves ++ l) follows
        ∙ sym (append_assoc p.leaves (chunk_leaf chunk ∷ []) (drop (at + 1) b.leaves.now))
        ∙ ap (λ (r : PlanState). (r.leaves ++ chunk_leaf chunk ∷ []) ++ drop (at + 1) b.leaves.now) (sym (rest_kept p m b.hashes.now b.places.now b.base at c none))

    -- no leaf is lost
    pub leaves_stored : Stores listing standing calling acting old new m q chunk c → q.leaves ++ drop (at + 1) b.leaves.now ≡ p.leaves ++ drop at b.leaves.now
    leaves_stored (inl fitted) = ap (λ (r : PlanState). r.leaves ++ drop (at + 1) b.leaves.now) fitted.2 ∙ sym leaves_then
    leaves_stored (inr cut) = ap (λ (r : PlanState). r.leaves ++ drop (at + 1) b.leaves.now) cut.1.2 ∙ sym leaves_then

    hash_there : slice_get b.hashes.now at ≡ Some chunk.hash
    hash_there =
        hash_here (listing old) (standing old) (calling start) (calling old) (p.leaves ++ drop at b.leaves.now) b.hashes.now b.places.now b.base at p w (chunk_leaf chunk) (drop (at + 1) b.leaves.now)
        (ap (λ (l : List (List ℕ × ℕ)). p.leaves ++ l) follows)

    chosen : IsChosen p m (setting_of p w.plan.since (p.leaves ++ drop at b.leaves.now)) b.places.now at chunk.hash c
    chosen = is_chosen (listing old) (standing old) (calling start) (calling old) (p.leaves ++ drop at b.leaves.now) b.hashes.now b.places.now b.base at p w chunk.hash hash_there m c none

    fits_as_before : fits m.settings (map chunk_leaf m.block) (length chunk.bytes) ≡ fits p.settings (map chunk_leaf p.block) (length chunk.bytes)
    fits_as_before = ap (λ (r : PlanState). fits r.settings (map chunk_leaf r.block) (length chunk.bytes)) (rest_kept p m b.hashes.now b.places.now b.base at c none)

    pub step_stored : Stores listing standing calling acting old new m q chunk c → Walks listing standing calling start new b (at + 1) q
    step_stored (inl fitted) =
        subst (λ (s : I). Walks listing standing calling start s b (at + 1) q) (sym fitted.1)
        (subst (λ (r : PlanState). Walks listing standing calling start old b (at + 1) r) (sym fitted.2)
        (subst (λ (l : List (List ℕ × ℕ)). IsWalking (listing old) (standing old) (calling start) (calling old) l b.hashes.now b.places.now b.base (at + 1) (stored m chunk c)) leaves_then
        (walk_stored (listing old) (standing old) (calling start) (calling old) (p.leaves ++ drop at b.leaves.now) b.hashes.now b.places.now b.base at p w chunk.hash m c chosen chunk (drop (at + 1) b.leaves.now)
        (ap (λ (l : List (List ℕ × ℕ)). p.leaves ++ l) follows) refl storable (sym fits_as_before ∙ fitted.0))))
    step_stored (inr cut) =
        let x : RawXorbData = cut.1.0 in
        let r = cut.1.1 in
        let block : m.block ≡ p.block = ap (λ (n : PlanState). n.block) (rest_kept p m b.hashes.now b.places.now b.base at c none) in
        subst (λ (s : PlanState). Walks listing standing calling start new b (at + 1) s) (sym cut.1.2)
        (subst (λ (l : List (List ℕ × ℕ)). IsWalking (listing new) (standing new) (calling start) (calling new) l b.hashes.now b.places.now b.base (at + 1) (stored (closed m x.xorb_info.metadata.xorb_hash) chunk c)) leaves_then
        (subst (λ (cs : List Call). IsWalking (listing new) (standing new) (calling start) cs (p.leaves ++ drop at b.leaves.now) b.hashes.now b.places.now b.base (at + 1) (stored (closed m x.xorb_info.metadata.xorb_hash) chunk c)) (sym r.calls)
        (walk_stored_in_new_block (listing old) (standing old) (calling start) (calling old) (p.leaves ++ drop at b.leaves.now) b.hashes.now b.places.now b.base at p w chunk.hash m c chosen chunk (drop (at + 1) b.leaves.now)
        (ap (λ (l : List (List ℕ × ℕ)). p.leaves ++ l) follows) refl storable (listing new) (standing new) lists stands x (0 ∷ []) (chunk_leaf chunk ∷ []) (r.made ∙ ap (λ (cs : List Chunk). raw_of cs (0 ∷ [])) block) r.named r.listed r.stands r.small
        (sym fits_as_before ∙ cut.0))))

-- what was stored adds its choice, and leaves the limits
module _ {I : Type 0} (listing : I → List ℕ → Option (List ℕ)) (standing : I → List (List ℕ) → Segment → Type 0) (calling : I → List Call) (acting : I → List Act) (old new : I) (m q : PlanState) (chunk : Chunk) (c : Choice) where
  pub stores_choice : Stores listing standing calling acting old new m q chunk c → q.choices ≡ m.choices ++ c ∷ []
  stores_choice (inl fitted) = ap (λ (r : PlanState). r.choices) fitted.2
  stores_choice (inr cut) = ap (λ (r : PlanState). r.choices) cut.1.2

  pub stores_settings : Stores listing standing calling acting old new m q chunk c → q.settings ≡ m.settings
  stores_settings (inl fitted) = ap (λ (r : PlanState). r.settings) fitted.2
  stores_settings (inr cut) = ap (λ (r : PlanState). r.settings) cut.1.2
