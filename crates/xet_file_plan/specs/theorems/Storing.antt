-- Plans that are right with a chunk that was stored: it joins the open block, or a new one after that was registered.
use Rattle.std.proofs.Common.{◌≡◌, ◌≢◌, ◌⊎◌, inl, inr, ◌∙◌, ℕ, zero, suc, ◌+◌, ◌≤◌, ◌<◌, ◌^◌, Bool, true, false, if◌then◌else◌, List, [], ◌∷◌, ◌++◌, length, map, Option, Some, refl, sym, ap, subst, arith, length-append}
use Rattle.std.specs.Prelude.{slice_get}
use Rattle.std.specs.List.{AllByRecursion}
use Rattle.std.proofs.lemmas.List.{append_assoc, length-map, map-append}
use Rattle.std.proofs.lemmas.Option.{slice_get_within}
use Rattle.xet_choices.specs.declared.choice.Choice.{Choice}
use Rattle.xet_choices.specs.declared.choice.Choice.TheVariants.{Reused, NoPlace, Refused, Inside}
use Rattle.xet_choices.specs.Calls.{Call, registered_chunks}
use Rattle.xet_choices.specs.Calls.Call.{Registered}
use Rattle.xet_choices.specs.Choices.{AllTrue, Setting, TrueAt, block_at, fits, flag_at, guard_at, guard_of, hashes_of, is_reused, new_chunks, next_flag, packed, with_calls, with_choices}
use Rattle.xet_choices.specs.Ranges.{HaveChunks, ranges, total}
use Rattle.xet_choices.specs.theorems.Choices.{block_with_choice, flag_with_choice, grown_setting_calls, stored_joins, stored_stays, true_with_calls}
use Rattle.xet_choices.specs.theorems.Calls.{registered_chunks-append}
use Rattle.xet_choices.specs.theorems.Entries.{new_chunks-append}
use Rattle.xet_choices.specs.theorems.Guard.{asked_refused}
use Rattle.xet_choices.specs.theorems.Ranges.{ranges_all}
use Rattle.xet_cut.specs.declared.limits.LimitSettings.{LimitSettings}
use Rattle.xet_dedup_queries.specs.Interface.{run_len}
use Rattle.xet_fragmentation.specs.Fragmentation.{Fragmentation, asked, is_allowed, with_longer_range, with_range}
use Rattle.xet_dedup_queries.specs.Registering.{EachPartStands}
use Rattle.xet_hash.specs.Hash.{sentinel}
use Rattle.xet_hash.specs.Merkle.{total_len}
use Rattle.xet_xorb.specs.Raw.{raw_leaves, raw_of}
use Rattle.xet_xorb.specs.declared.raw.RawXorbData.{RawXorbData}
use Rattle.xet_shard_format.specs.declared.record.FileDataSequenceEntry.{FileDataSequenceEntry as Segment}
use Rattle.xet_xorb_chunk.specs.declared.chunk.Chunk.{Chunk}
use Rattle.xet_xorb_chunk.specs.Chunks.{chunk_leaf}
use Rattle.xet_file_plan.specs.Moves.{PlanState, closed, continues, counts_of, filled, next_run, rejected, stored, stored_guard, with_run}
use Rattle.xet_file_plan.specs.Placed.{ArePlaced}
use Rattle.xet_file_plan.specs.Plan.{IsPlan, IsStorable, setting_of}
use Rattle.xet_file_plan.specs.theorems.Closing.{hashes_filled, raw_leaves_of, run_len_filled}
use Rattle.xet_file_plan.specs.theorems.Counts.{CountsJoin, counts_join, guard_begins, guard_longer}
use Rattle.xet_file_plan.specs.theorems.Placed.{counts_filled, placed_changed, placed_stays, some_placed, total_placed}
use Rattle.xet_file_plan.specs.theorems.Plans.{choices_of_plan, get_either, get_seam, guard_of_plan, some_same}
use Rattle.xet_file_plan.specs.theorems.Runs.{hashes_stay, next_lies, next_run_len, placed_joined}

-- What is right of a plan before a chunk joins its block: all but the block as the choices give it. The flag of the guard
-- is the one after the choice for the next chunk.
pub record IsReady (listing : List ℕ → Option (List ℕ)) (standing : List (List ℕ) → Segment → Type 0) (calls : List Call) (leaves : List (List ℕ × ℕ)) (low : Bool) (q : PlanState) : Type 0 where
  pub one_each : length q.choices ≡ length q.leaves
  pub placed : ArePlaced listing standing q.block q.segments (hashes_of q.leaves)
  pub choices : AllTrue (setting_of q calls leaves)
  pub ascend : (i j m n : ℕ) → i < j → slice_get q.choices i ≡ Some (NoPlace m) → slice_get q.choices j ≡ Some (NoPlace n) → m < n
  pub guard : q.guard ≡ guard_of q.settings (counts_of q.segments) low
  pub storable : AllByRecursion IsStorable q.block
  pub registered : registered_chunks calls + length q.block ≡ new_chunks q.choices

storable_push : (block : List Chunk) (chunk : Chunk) → AllByRecursion IsStorable block → IsStorable chunk → AllByRecursion IsStorable (block ++ chunk ∷ [])
storable_push [] chunk all is = (is, tt)
storable_push (c ∷ block) chunk all is = (all.0, storable_push block chunk all.1 is)

one_stored : (b : Bool) → b ≡ false → ◌≡◌ {A = ℕ} (if b then 0 else 1) 1
one_stored true e = absurd (cc e)
one_stored false e = refl

-- the entry of a query that found nothing is above those before
abbrev pub IsLatest : List Choice → Choice → Type 0
IsLatest choices c = (i m n : ℕ) → c ≡ NoPlace n → slice_get choices i ≡ Some (NoPlace m) → m < n

module _ (listing : List ℕ → Option (List ℕ)) (standing : List (List ℕ) → Segment → Type 0) (calls : List Call) (leaves : List (List ℕ × ℕ)) (low : Bool) (q : PlanState) (ready : IsReady listing standing calls leaves low q)
    (chunk : Chunk) (following : List (List ℕ × ℕ)) (at : leaves ≡ q.leaves ++ (chunk_leaf chunk ∷ following)) (storable : IsStorable chunk)
    (c : Choice) (new : is_reused c ≡ false) (is : TrueAt (setting_of q calls leaves) (length q.leaves) chunk.hash c) (latest : IsLatest q.choices c)
    (flag : (counts : List ℕ) → next_flag q.settings counts (length q.choices) (flag_at (setting_of q calls leaves) (length q.choices)) c ≡ low)
    (joins : packed q.settings (block_at (setting_of q calls leaves) (length q.choices)) (chunk_leaf chunk) ≡ map chunk_leaf (q.block ++ chunk ∷ [])) where
  abbrev s : Setting
  s = setting_of q calls leaves

  abbrev run : Segment
  run = next_run q.block chunk

  abbrev segments : List Segment
  segments = with_run q.segments run

  abbrev counts : List ℕ
  counts = counts_of segments

  abbrev t : Setting
  t = with_choices s counts (c ∷ [])

  one : run_len run ≡ 1
  one = next_run_len listing standing q.block chunk

  pos : 0 < run_len run
  pos = omega (arith, one)

  all : total s.counts ≡ length q.choices
  all = total_placed listing standing q.block q.segments (hashes_of q.leaves) ready.placed ∙ length-map q.leaves (λ (leaf : List ℕ × ℕ). leaf.0) ∙ sym ready.one_each

  have : HaveChunks s.counts
  have = some_placed listing standing q.block q.segments (hashes_of q.leaves) ready.placed

  joined_counts : CountsJoin s.counts counts (run_len run)
  joined_counts = counts_join q.segments run have pos

  next : slice_get leaves (length q.choices) ≡ Some (chunk_leaf chunk)
  next = (λ i. slice_get (at i) (ready.one_each i)) ∙ get_seam q.leaves (chunk_leaf chunk ∷ following)

  true_here : (leaf : List ℕ × ℕ) → slice_get leaves (length q.choices) ≡ Some leaf → TrueAt s (length q.choices) leaf.0 c
  true_here leaf e =
      subst (λ (l : List ℕ × ℕ). TrueAt s (length q.choices) l.0 c) (some_same (chunk_leaf chunk) leaf (sym next ∙ e))
      (subst (λ (n : ℕ). TrueAt s n chunk.hash c) (sym ready.one_each) is)

  length_both : length (q.leaves ++ chunk_leaf chunk ∷ []) ≡ total counts
  length_both = omega (arith, length-append q.leaves (chunk_leaf chunk ∷ []), joined_counts.sums, all, ready.one_each, one)

  length_choices : length (q.choices ++ c ∷ []) ≡ length (q.leaves ++ chunk_leaf chunk ∷ [])
  length_choices = omega (arith, length-append q.leaves (chunk_leaf chunk ∷ []), length-append q.choices (c ∷ []), ready.one_each)

  guard_now : guard_of q.settings counts low ≡ guard_at t (length (q.leaves ++ chunk_leaf chunk ∷ []))
  guard_now =
      let rs : ranges counts (length (q.leaves ++ chunk_leaf chunk ∷ [])) ≡ counts = ap (ranges counts) length_both ∙ ranges_all counts joined_counts.some in
      let now : flag_at t (length (q.choices ++ c ∷ [])) ≡ low = flag_with_choice s counts all joined_counts.grown c ∙ flag counts in
      λ i. guard_of q.settings (sym rs i) ((sym now ∙ ap (flag_at t) length_choices) i)

  guard_then : stored_guard q run ≡ guard_at t (length (q.leaves ++ chunk_leaf chunk ∷ []))
  guard_then = by (continues q.segments run) refl ∙ guard_now
    where
      by : (b : Bool) → continues q.segments run ≡ b → (if b then with_longer_range q.guard 1 else with_range q.guard 1) ≡ guard_of q.settings counts low
      by true e = (λ i. with_longer_range (ready.guard i) (sym one i)) ∙ guard_longer q.segments run have pos q.settings low e
      by false e = (λ i. with_range (ready.guard i) (sym one i)) ∙ guard_begins q.segments run have pos q.settings low e

  placed_then : ArePlaced listing standing (q.block ++ chunk ∷ []) segments (hashes_of (q.leaves ++ chunk_leaf chunk ∷ []))
  placed_then =
      subst (ArePlaced listing standing (q.block ++ chunk ∷ []) segments) (sym (map-append (λ (leaf : List ℕ × ℕ). leaf.0) q.leaves (chunk_leaf chunk ∷ [])))
      (placed_joined listing standing (q.block ++ chunk ∷ []) q.segments run (hashes_of q.leaves) (chunk.hash ∷ [])
      (placed_stays listing listing standing standing q.block (q.block ++ chunk ∷ []) (hashes_stay listing standing q.block (chunk ∷ [])) q.segments (hashes_of q.leaves) ready.placed)
      pos one (next_lies listing standing q.block chunk))

  block_then : map chunk_leaf (q.block ++ chunk ∷ []) ≡ block_at t (length (q.choices ++ c ∷ []))
  block_then =
      sym joins
      ∙ ap (λ (b : Bool). if b then block_at s (length q.choices) else packed q.settings (block_at s (length q.choices)) (chunk_leaf chunk)) (sym new)
      ∙ sym (block_with_choice s counts all joined_counts.grown c (chunk_leaf chunk) next)

  ascend_then : (i j m n : ℕ) → i < j → slice_get (q.choices ++ c ∷ []) i ≡ Some (NoPlace m) → slice_get (q.choices ++ c ∷ []) j ≡ Some (NoPlace n) → m < n
  ascend_then i j m n lt e f = by (get_either q.choices (c ∷ []) i (NoPlace m) e) (get_either q.choices (c ∷ []) j (NoPlace n) f)
    where
      by : ((slice_get q.choices i ≡ Some (NoPlace m)) ⊎ ((k : ℕ) × (i ≡ length q.choices + k) × (slice_get (c ∷ []) k ≡ Some (NoPlace m))))
          → ((slice_get q.choices j ≡ Some (NoPlace n)) ⊎ ((k : ℕ) × (j ≡ length q.choices + k) × (slice_get (c ∷ []) k ≡ Some (NoPlace n)))) → m < n
      by (inl e) (inl f) = ready.ascend i j m n lt e f
      by (inl e) (inr (zero, at, f)) = latest i m n (some_same c (NoPlace n) f) e
      by (inl e) (inr (suc k, at, f)) = absurd (cc f)
      by (inr (suc k, at, e)) f = absurd (cc e)
      by (inr (zero, at, e)) (inl f) = (let within = slice_get_within q.choices j (NoPlace n) f in absurd (omega (arith, at, lt, within)))
      by (inr (zero, at, e)) (inr (suc k, at', f)) = absurd (cc f)
      by (inr (zero, at, e)) (inr (zero, at', f)) = absurd (omega (arith, at, at', lt))

  new_one : new_chunks (q.choices ++ c ∷ []) ≡ new_chunks q.choices + 1
  new_one =
      let last = one_stored (is_reused c) new in
      let sums = new_chunks-append q.choices (c ∷ []) in
      omega (arith, last, sums)

  pub ready_is_plan : IsPlan listing standing calls leaves (stored q chunk c)
  ready_is_plan = record {
    following = following;
    prefix = at ∙ sym (append_assoc q.leaves (chunk_leaf chunk ∷ []) following);
    one_each = length_choices;
    placed = placed_then;
    choices = stored_joins s counts all joined_counts.grown c new ready.choices true_here;
    ascend = ascend_then;
    guard = guard_then;
    block = block_then;
    storable = storable_push q.block chunk ready.storable storable;
    registered = omega (arith, new_one, ready.registered, length-append q.block (chunk ∷ []));
  }

-- ---- the guard

-- the guard after it was queried for the choice for a chunk: only a run that it rejects changes it
abbrev pub guard_after : Fragmentation → Choice → Fragmentation
guard_after guard (Reused segment) = guard
guard_after guard (NoPlace entry) = guard
guard_after guard (Refused k) = asked guard k
guard_after guard (Inside start) = guard

abbrev low_after : Bool → Choice → Bool
low_after low (Reused segment) = low
low_after low (NoPlace entry) = low
low_after low (Refused k) = false
low_after low (Inside start) = low

next_flag_new : (settings : LimitSettings) (counts : List ℕ) (j : ℕ) (low : Bool) (c : Choice) → is_reused c ≡ false → next_flag settings counts j low c ≡ low_after low c
unfolding next_flag
next_flag_new settings counts j low (Reused segment) new = absurd (cc new)
next_flag_new settings counts j low (NoPlace entry) new = refl
next_flag_new settings counts j low (Refused k) new = refl
next_flag_new settings counts j low (Inside start) new = refl

-- the guard of a plan, after it was queried for the next chunk's choice
guard_queried : (s : Setting) (j : ℕ) (h : List ℕ) (guard : Fragmentation) (rs : List ℕ) (low : Bool) (c : Choice) → TrueAt s j h c → guard ≡ guard_at s j → guard ≡ guard_of s.settings rs low
    → guard_after guard c ≡ guard_of s.settings rs (low_after low c)
guard_queried s j h guard rs low (Reused segment) is here was = was
guard_queried s j h guard rs low (NoPlace entry) is here was = was
guard_queried s j h guard rs low (Refused k) is here was =
    asked_refused guard k (ap (λ (g : Fragmentation). is_allowed g k) here ∙ is.1) ∙ ap (λ (g : Fragmentation). record g { low = false }) was
guard_queried s j h guard rs low (Inside start) is here was = was

-- ---- a chunk joins the open block

-- A plan stays right with a chunk that was stored and fits into the open block. The guard is as after it was queried for
-- the choice.
pub stored_after_is_plan : (listing : List ℕ → Option (List ℕ)) (standing : List (List ℕ) → Segment → Type 0) (calls : List Call) (leaves : List (List ℕ × ℕ)) (p : PlanState)
    (chunk : Chunk) (more : List (List ℕ × ℕ)) (c : Choice)
    → IsPlan listing standing calls leaves p
    → leaves ≡ p.leaves ++ (chunk_leaf chunk ∷ more)
    → IsStorable chunk
    → fits p.settings (map chunk_leaf p.block) (length chunk.bytes) ≡ true
    → is_reused c ≡ false
    → TrueAt (setting_of p calls leaves) (length p.leaves) chunk.hash c
    → IsLatest p.choices c
    → IsPlan listing standing calls leaves (stored (record p { guard = guard_after p.guard c }) chunk c)
unfolding packed
stored_after_is_plan listing standing calls leaves p chunk more c plan at storable fit new is latest =
    let s : Setting = setting_of p calls leaves in
    let low : Bool = flag_at s (length p.choices) in
    let q : PlanState = record p { guard = guard_after p.guard c } in
    let ready : IsReady listing standing calls leaves (low_after low c) q = record {
      one_each = plan.one_each;
      placed = plan.placed;
      choices = plan.choices;
      ascend = plan.ascend;
      guard = guard_queried s (length p.leaves) chunk.hash p.guard (counts_of p.segments) low c is plan.guard (guard_of_plan listing standing calls leaves p plan);
      storable = plan.storable;
      registered = plan.registered;
    } in
    let joins : packed p.settings (block_at s (length p.choices)) (chunk_leaf chunk) ≡ map chunk_leaf (p.block ++ chunk ∷ []) =
    ap (λ (b : List (List ℕ × ℕ)). packed p.settings b (chunk_leaf chunk)) (sym plan.block)
    ∙ ap (λ (b : Bool). if b then map chunk_leaf p.block ++ chunk_leaf chunk ∷ [] else chunk_leaf chunk ∷ []) fit
    ∙ sym (map-append chunk_leaf p.block (chunk ∷ [])) in
    ready_is_plan listing standing calls leaves (low_after low c) q ready chunk more at storable c new is latest (λ counts. next_flag_new p.settings counts (length p.choices) low c new) joins

-- one that no rejected run is the reason for
pub stored_is_plan : (listing : List ℕ → Option (List ℕ)) (standing : List (List ℕ) → Segment → Type 0) (calls : List Call) (leaves : List (List ℕ × ℕ)) (p : PlanState)
    (chunk : Chunk) (more : List (List ℕ × ℕ)) (c : Choice)
    → IsPlan listing standing calls leaves p
    → leaves ≡ p.leaves ++ (chunk_leaf chunk ∷ more)
    → IsStorable chunk
    → fits p.settings (map chunk_leaf p.block) (length chunk.bytes) ≡ true
    → is_reused c ≡ false
    → ((k : ℕ) → c ≢ Refused k)
    → TrueAt (setting_of p calls leaves) (length p.leaves) chunk.hash c
    → IsLatest p.choices c
    → IsPlan listing standing calls leaves (stored p chunk c)
stored_is_plan listing standing calls leaves p chunk more (Reused segment) plan at storable fit new other is latest = absurd (cc new)
stored_is_plan listing standing calls leaves p chunk more (NoPlace entry) plan at storable fit new other is latest =
    stored_after_is_plan listing standing calls leaves p chunk more (NoPlace entry) plan at storable fit new is latest
stored_is_plan listing standing calls leaves p chunk more (Refused k) plan at storable fit new other is latest = absurd (other k refl)
stored_is_plan listing standing calls leaves p chunk more (Inside start) plan at storable fit new other is latest =
    stored_after_is_plan listing standing calls leaves p chunk more (Inside start) plan at storable fit new is latest

not_entry : (choices : List Choice) (k : ℕ) → IsLatest choices (Refused k)
not_entry choices k i m n e at = absurd (cc e)

-- and one after the guard rejected a run
pub refused_is_plan : (listing : List ℕ → Option (List ℕ)) (standing : List (List ℕ) → Segment → Type 0) (calls : List Call) (leaves : List (List ℕ × ℕ)) (p : PlanState)
    (chunk : Chunk) (more : List (List ℕ × ℕ)) (k : ℕ)
    → IsPlan listing standing calls leaves p
    → leaves ≡ p.leaves ++ (chunk_leaf chunk ∷ more)
    → IsStorable chunk
    → fits p.settings (map chunk_leaf p.block) (length chunk.bytes) ≡ true
    → TrueAt (setting_of p calls leaves) (length p.leaves) chunk.hash (Refused k)
    → IsPlan listing standing calls leaves (stored (rejected p k) chunk (Refused k))
refused_is_plan listing standing calls leaves p chunk more k plan at storable fit is =
    stored_after_is_plan listing standing calls leaves p chunk more (Refused k) plan at storable fit refl is (not_entry p.choices k)

-- ---- a chunk begins a new block

-- A plan stays right with a chunk that was stored and does not fit into the open block, after that was registered as the
-- xorb x. The guard is as after it was queried for the choice.
pub stored_after_in_new_block_is_plan : (listing listing' : List ℕ → Option (List ℕ)) (standing standing' : List (List ℕ) → Segment → Type 0) (calls : List Call) (leaves : List (List ℕ × ℕ))
    (p : PlanState) (chunk : Chunk) (more : List (List ℕ × ℕ)) (c : Choice) (x : RawXorbData) (boundaries : List ℕ) (next : List (List ℕ × ℕ))
    → ((h lengths : List ℕ) → listing h ≡ Some lengths → listing' h ≡ Some lengths)
    → ((hashes : List (List ℕ)) (run : Segment) → standing hashes run → standing' hashes run)
    → IsPlan listing standing calls leaves p
    → leaves ≡ p.leaves ++ (chunk_leaf chunk ∷ more)
    → IsStorable chunk
    → fits p.settings (map chunk_leaf p.block) (length chunk.bytes) ≡ false
    → is_reused c ≡ false
    → TrueAt (setting_of p calls leaves) (length p.leaves) chunk.hash c
    → IsLatest p.choices c
    → x ≡ raw_of p.block boundaries
    → x.xorb_info.metadata.xorb_hash ≢ sentinel
    → listing' x.xorb_info.metadata.xorb_hash ≡ Some (map (λ m. m.1) (raw_leaves x))
    → EachPartStands standing' x
    → total_len (raw_leaves x) < 2 ^ 32
    → IsPlan listing' standing' (calls ++ Registered (raw_leaves x) next ∷ []) leaves (stored (record (closed p x.xorb_info.metadata.xorb_hash) { guard = guard_after p.guard c }) chunk c)
unfolding packed
stored_after_in_new_block_is_plan listing listing' standing standing' calls leaves p chunk more c x boundaries next lists stands plan at storable unfit new is latest made named listed parts small =
    let hash : List ℕ = x.xorb_info.metadata.xorb_hash in
    let known : raw_leaves x ≡ map chunk_leaf p.block = ap raw_leaves made ∙ raw_leaves_of p.block boundaries in
    let added : List Call = Registered (raw_leaves x) next ∷ [] in
    let s : Setting = setting_of p calls leaves in
    let q : PlanState = record (closed p hash) { guard = guard_after p.guard c } in
    let low : Bool = flag_at s (length p.choices) in
    let filled_in : with_calls s added ≡ setting_of q (calls ++ added) leaves =
    λ i. record { settings = p.settings; leaves = leaves; calls = calls ++ added; counts = sym (counts_filled hash p.segments) i; choices = p.choices } in
    let within : length p.leaves ≤ length leaves = omega (arith, ap length plan.prefix, length-append p.leaves plan.following) in
    let was = guard_queried s (length p.leaves) chunk.hash p.guard (counts_of p.segments) low c is plan.guard (guard_of_plan listing standing calls leaves p plan) in
    let ready : IsReady listing' standing' (calls ++ added) leaves (low_after low c) q = record {
      one_each = plan.one_each;
      placed =
          placed_changed listing listing' standing standing' p.block [] (filled hash) (run_len_filled hash)
          (hashes_filled listing listing' standing standing' lists stands p.block x known named listed parts small) p.segments (hashes_of p.leaves) plan.placed;
      choices = subst AllTrue filled_in (true_with_calls s added plan.choices);
      ascend = plan.ascend;
      guard = was ∙ ap (λ (cs : List ℕ). guard_of p.settings cs (low_after low c)) (sym (counts_filled hash p.segments));
      storable = tt;
      registered = omega (arith, plan.registered, registered_chunks-append calls added, ap length known, length-map p.block chunk_leaf);
    } in
    let true_now : TrueAt (setting_of q (calls ++ added) leaves) (length p.leaves) chunk.hash c =
    subst (λ (u : Setting). TrueAt u (length p.leaves) chunk.hash c) filled_in
    (stored_stays s (with_calls s added) (choices_of_plan listing standing calls leaves p plan) (grown_setting_calls s added) (length p.leaves) (omega (arith, plan.one_each)) within chunk.hash c new is) in
    let joins : packed p.settings (block_at s (length p.choices)) (chunk_leaf chunk) ≡ chunk_leaf chunk ∷ [] =
    ap (λ (b : List (List ℕ × ℕ)). packed p.settings b (chunk_leaf chunk)) (sym plan.block)
    ∙ ap (λ (b : Bool). if b then map chunk_leaf p.block ++ chunk_leaf chunk ∷ [] else chunk_leaf chunk ∷ []) unfit in
    let flag : (counts : List ℕ) → next_flag p.settings counts (length p.choices) (flag_at (setting_of q (calls ++ added) leaves) (length p.choices)) c ≡ low_after low c =
    λ counts. ap (λ (u : Setting). next_flag p.settings counts (length p.choices) (flag_at u (length p.choices)) c) (sym filled_in) ∙ next_flag_new p.settings counts (length p.choices) low c new in
    ready_is_plan listing' standing' (calls ++ added) leaves (low_after low c) q ready chunk more at storable c new true_now latest flag joins

-- one that no rejected run is the reason for
pub stored_in_new_block_is_plan : (listing listing' : List ℕ → Option (List ℕ)) (standing standing' : List (List ℕ) → Segment → Type 0) (calls calls' : List Call) (leaves : List (List ℕ × ℕ))
    (p : PlanState) (chunk : Chunk) (more : List (List ℕ × ℕ)) (c : Choice) (x : RawXorbData) (boundaries : List ℕ) (next : List (List ℕ × ℕ))
    → ((h lengths : List ℕ) → listing h ≡ Some lengths → listing' h ≡ Some lengths)
    → ((hashes : List (List ℕ)) (run : Segment) → standing hashes run → standing' hashes run)
    → IsPlan listing standing calls leaves p
    → leaves ≡ p.leaves ++ (chunk_leaf chunk ∷ more)
    → IsStorable chunk
    → fits p.settings (map chunk_leaf p.block) (length chunk.bytes) ≡ false
    → is_reused c ≡ false
    → ((k : ℕ) → c ≢ Refused k)
    → TrueAt (setting_of p calls leaves) (length p.leaves) chunk.hash c
    → IsLatest p.choices c
    → x ≡ raw_of p.block boundaries
    → x.xorb_info.metadata.xorb_hash ≢ sentinel
    → listing' x.xorb_info.metadata.xorb_hash ≡ Some (map (λ m. m.1) (raw_leaves x))
    → EachPartStands standing' x
    → total_len (raw_leaves x) < 2 ^ 32
    → calls' ≡ calls ++ Registered (raw_leaves x) next ∷ []
    → IsPlan listing' standing' calls' leaves (stored (closed p x.xorb_info.metadata.xorb_hash) chunk c)
stored_in_new_block_is_plan listing listing' standing standing' calls calls' leaves p chunk more (Reused segment) x boundaries next lists stands plan at storable unfit new other is latest made named listed parts small further = absurd (cc new)
stored_in_new_block_is_plan listing listing' standing standing' calls calls' leaves p chunk more (NoPlace entry) x boundaries next lists stands plan at storable unfit new other is latest made named listed parts small further =
    subst (λ (cs : List Call). IsPlan listing' standing' cs leaves (stored (closed p x.xorb_info.metadata.xorb_hash) chunk (NoPlace entry))) (sym further)
    (stored_after_in_new_block_is_plan listing listing' standing standing' calls leaves p chunk more (NoPlace entry) x boundaries next lists stands plan at storable unfit new is latest made named listed parts small)
stored_in_new_block_is_plan listing listing' standing standing' calls calls' leaves p chunk more (Refused k) x boundaries next lists stands plan at storable unfit new other is latest made named listed parts small further = absurd (other k refl)
stored_in_new_block_is_plan listing listing' standing standing' calls calls' leaves p chunk more (Inside start) x boundaries next lists stands plan at storable unfit new other is latest made named listed parts small further =
    subst (λ (cs : List Call). IsPlan listing' standing' cs leaves (stored (closed p x.xorb_info.metadata.xorb_hash) chunk (Inside start))) (sym further)
    (stored_after_in_new_block_is_plan listing listing' standing standing' calls leaves p chunk more (Inside start) x boundaries next lists stands plan at storable unfit new is latest made named listed parts small)

-- and one after the guard rejected a run
pub refused_in_new_block_is_plan : (listing listing' : List ℕ → Option (List ℕ)) (standing standing' : List (List ℕ) → Segment → Type 0) (calls calls' : List Call) (leaves : List (List ℕ × ℕ))
    (p : PlanState) (chunk : Chunk) (more : List (List ℕ × ℕ)) (k : ℕ) (x : RawXorbData) (boundaries : List ℕ) (next : List (List ℕ × ℕ))
    → ((h lengths : List ℕ) → listing h ≡ Some lengths → listing' h ≡ Some lengths)
    → ((hashes : List (List ℕ)) (run : Segment) → standing hashes run → standing' hashes run)
    → IsPlan listing standing calls leaves p
    → leaves ≡ p.leaves ++ (chunk_leaf chunk ∷ more)
    → IsStorable chunk
    → fits p.settings (map chunk_leaf p.block) (length chunk.bytes) ≡ false
    → TrueAt (setting_of p calls leaves) (length p.leaves) chunk.hash (Refused k)
    → x ≡ raw_of p.block boundaries
    → x.xorb_info.metadata.xorb_hash ≢ sentinel
    → listing' x.xorb_info.metadata.xorb_hash ≡ Some (map (λ m. m.1) (raw_leaves x))
    → EachPartStands standing' x
    → total_len (raw_leaves x) < 2 ^ 32
    → calls' ≡ calls ++ Registered (raw_leaves x) next ∷ []
    → IsPlan listing' standing' calls' leaves (stored (rejected (closed p x.xorb_info.metadata.xorb_hash) k) chunk (Refused k))
refused_in_new_block_is_plan listing listing' standing standing' calls calls' leaves p chunk more k x boundaries next lists stands plan at storable unfit is made named listed parts small further =
    subst (λ (cs : List Call). IsPlan listing' standing' cs leaves (stored (rejected (closed p x.xorb_info.metadata.xorb_hash) k) chunk (Refused k))) (sym further)
    (stored_after_in_new_block_is_plan listing listing' standing standing' calls leaves p chunk more (Refused k) x boundaries next lists stands plan at storable unfit refl is (not_entry p.choices k) made named listed parts small)
