-- Plans that are right: that of no chunks, one that more is known of, and one that a run joins.
use Rattle.std.proofs.Common.{◌≡◌, ◌⊎◌, inl, inr, ◌∙◌, ℕ, zero, suc, ◌+◌, ◌-◌, ◌≤◌, ◌<◌, Bool, true, false, if◌then◌else◌, List, [], ◌∷◌, ◌++◌, length, take, drop, Option, Some, refl, sym, ap, subst, arith, length-append}
use Rattle.std.specs.Prelude.{replicate, slice_get}
use Rattle.std.proofs.lemmas.List.{append_assoc, length-map, length-replicate, length-take-le, map-append}
use Rattle.xet_choices.specs.declared.choice.Choice.{Choice}
use Rattle.xet_choices.specs.declared.choice.Choice.TheVariants.{Reused, NoPlace}
use Rattle.xet_choices.specs.Calls.{Call, registered_chunks}
use Rattle.xet_choices.specs.Choices.{IsFound, Setting, allowed_flag, block_of, flag_at, flag_of, guard_at, guard_of, hashes_of, with_choices, with_leaves}
use Rattle.xet_choices.specs.Ranges.{HaveChunks, count_at, ranges, seg_of, starts, total}
use Rattle.xet_choices.specs.theorems.Calls.{registered_chunks-append}
use Rattle.xet_choices.specs.theorems.Choices.{block_with_run, flag_with_longer_run, flag_with_run, run_joins, true_with_calls, true_with_leaves}
use Rattle.xet_choices.specs.theorems.Entries.{new_chunks-append, new_chunks_run}
use Rattle.xet_choices.specs.theorems.Folds.{block_of_more}
use Rattle.xet_choices.specs.theorems.Guard.{asked_allowed}
use Rattle.xet_choices.specs.theorems.Ranges.{ranges_all}
use Rattle.xet_cut.specs.declared.limits.LimitSettings.{LimitSettings}
use Rattle.xet_dedup_queries.specs.Interface.{run_len}
use Rattle.xet_fragmentation.specs.Fragmentation.{Fragmentation, asked, is_allowed, with_longer_range, with_range}
use Rattle.xet_shard_format.specs.declared.record.FileDataSequenceEntry.{FileDataSequenceEntry as Segment}
use Rattle.xet_file_plan.specs.Moves.{PlanState, continues, counts_of, empty_plan, is_open, joined, joined_guard, last_index, with_run}
use Rattle.xet_file_plan.specs.Placed.{ArePlaced, HasHashes, LiesInBlock, LiesInXorb}
use Rattle.xet_file_plan.specs.Plan.{IsPlan, setting_of}
use Rattle.xet_file_plan.specs.theorems.Counts.{CountsJoin, count_first, counts_join, guard_begins, guard_longer, starts_first, starts_none}
use Rattle.xet_file_plan.specs.theorems.Placed.{closed_lies, each_placed, open_lies, placed_stays, some_placed, total_placed}
use Rattle.xet_file_plan.specs.theorems.Runs.{hashes_known, placed_joined}

-- ---- lists

-- the first item after a list
pub get_seam : {A : Type 0} (xs ys : List A) → slice_get (xs ++ ys) (length xs) ≡ slice_get ys 0
get_seam [] ys = refl
get_seam (x ∷ xs) ys = get_seam xs ys

pub get_either : {A : Type 0} (xs ys : List A) (j : ℕ) (x : A) → slice_get (xs ++ ys) j ≡ Some x
    → (slice_get xs j ≡ Some x) ⊎ ((i : ℕ) × (j ≡ length xs + i) × (slice_get ys i ≡ Some x))
get_either [] ys j x e = inr (j, omega arith, e)
get_either (y ∷ xs) ys zero x e = inl e
get_either (y ∷ xs) ys (suc j) x e = elim (get_either xs ys j x e) [ inl here ↦ inl here | inr there ↦ inr (there.0, omega (arith, there.1), there.2) ]

pub get_reused : (k segment : ℕ) (c : Choice) (i : ℕ) → slice_get (replicate k (Reused segment)) i ≡ Some c → Reused segment ≡ c
get_reused zero segment c i e = absurd cc
get_reused (suc k) segment c zero e = cc e
get_reused (suc k) segment c (suc i) e = get_reused k segment c i e

pub some_same : {A : Type 0} (x y : A) → Some x ≡ Some y → x ≡ y
some_same x y e = cc e

-- ---- the plan of no chunks

pub empty_is_plan : (listing : List ℕ → Option (List ℕ)) (standing : List (List ℕ) → Segment → Type 0) (leaves : List (List ℕ × ℕ)) (settings : LimitSettings)
    → IsPlan listing standing [] leaves (empty_plan settings)
unfolding ArePlaced block_of flag_of ranges
empty_is_plan listing standing leaves settings = record {
  following = leaves;
  prefix = refl;
  one_each = refl;
  placed = refl;
  choices = λ j leaf c here at. absurd (cc here);
  ascend = λ i j m n lt here there. absurd (cc here);
  guard = refl;
  block = refl;
  storable = tt;
  registered = omega arith;
}

-- ---- facts of a plan

module _ (listing : List ℕ → Option (List ℕ)) (standing : List (List ℕ) → Segment → Type 0) (calls : List Call) (leaves : List (List ℕ × ℕ)) (p : PlanState) (plan : IsPlan listing standing calls leaves p) where
  -- The segments have the chunks so far,
  pub chunks_of_plan : total (counts_of p.segments) ≡ length p.leaves
  chunks_of_plan = total_placed listing standing p.block p.segments (hashes_of p.leaves) plan.placed ∙ length-map p.leaves (λ (leaf : List ℕ × ℕ). leaf.0)

  -- each of them some,
  pub segments_have_chunks : HaveChunks (counts_of p.segments)
  segments_have_chunks = some_placed listing standing p.block p.segments (hashes_of p.leaves) plan.placed

  -- and there is a choice for each chunk so far.
  pub choices_of_plan : total (counts_of p.segments) ≡ length p.choices
  choices_of_plan = chunks_of_plan ∙ sym plan.one_each

  pub choices_within : length p.choices ≤ length leaves
  choices_within =
      let e : length leaves ≡ length p.leaves + length plan.following = ap length plan.prefix ∙ length-append p.leaves plan.following in
      omega (arith, e, plan.one_each)

  -- The guard has the ranges of the segments.
  pub guard_of_plan : p.guard ≡ guard_of p.settings (counts_of p.segments) (flag_at (setting_of p calls leaves) (length p.choices))
  guard_of_plan =
      plan.guard
      ∙ (λ i. guard_of p.settings (ranges (counts_of p.segments) (sym chunks_of_plan i)) (flag_at (setting_of p calls leaves) (sym plan.one_each i)))
      ∙ ap (λ (rs : List ℕ). guard_of p.settings rs (flag_at (setting_of p calls leaves) (length p.choices))) (ranges_all (counts_of p.segments) segments_have_chunks)

  -- ---- the segments of a plan

  -- Each segment has a chunk,
  pub some_of_plan : (i : ℕ) (s : Segment) → slice_get p.segments i ≡ Some s → 0 < run_len s
  some_of_plan i s at = some_counts p.segments i s segments_have_chunks at
    where
      some_counts : (ss : List Segment) (i : ℕ) (s : Segment) → HaveChunks (counts_of ss) → slice_get ss i ≡ Some s → 0 < run_len s
      some_counts [] i s some at = absurd (cc at)
      some_counts (r ∷ ss) zero s some at = let same : r ≡ s = cc at in subst (λ (u : Segment). 0 < run_len u) same some.0
      some_counts (r ∷ ss) (suc i) s some at = some_counts ss i s some.1 at

  -- and has the chunks of the file after those of the segments before it: an open one in the block,
  pub open_of_plan : (i : ℕ) (s : Segment) → slice_get p.segments i ≡ Some s → is_open s ≡ true
      → LiesInBlock p.block s (take (run_len s) (drop (total (counts_of (take i p.segments))) (hashes_of p.leaves)))
  open_of_plan i s at is =
      open_lies listing standing p.block s (take (run_len s) (drop (total (counts_of (take i p.segments))) (hashes_of p.leaves))) is
      (each_placed listing standing p.block p.segments (hashes_of p.leaves) i s plan.placed at)

  -- and another one in its xorb.
  pub closed_of_plan : (i : ℕ) (s : Segment) → slice_get p.segments i ≡ Some s → is_open s ≡ false
      → LiesInXorb listing standing s (take (run_len s) (drop (total (counts_of (take i p.segments))) (hashes_of p.leaves)))
  closed_of_plan i s at is =
      closed_lies listing standing p.block s (take (run_len s) (drop (total (counts_of (take i p.segments))) (hashes_of p.leaves))) is
      (each_placed listing standing p.block p.segments (hashes_of p.leaves) i s plan.placed at)

-- ---- a plan of which more is known

stays : (listing listing' : List ℕ → Option (List ℕ)) (standing standing' : List (List ℕ) → Segment → Type 0) (calls added : List Call) (leaves more : List (List ℕ × ℕ)) (p : PlanState)
    → ((h lengths : List ℕ) → listing h ≡ Some lengths → listing' h ≡ Some lengths)
    → ((hashes : List (List ℕ)) (run : Segment) → standing hashes run → standing' hashes run)
    → registered_chunks added ≡ 0
    → IsPlan listing standing calls leaves p → IsPlan listing' standing' (calls ++ added) (leaves ++ more) p
stays listing listing' standing standing' calls added leaves more p lists stands none plan =
    let within = choices_within listing standing calls leaves p plan in
    let s : Setting = setting_of p calls leaves in
    record {
      following = plan.following ++ more;
      prefix = ap (λ (l : List (List ℕ × ℕ)). l ++ more) plan.prefix ∙ append_assoc p.leaves plan.following more;
      one_each = plan.one_each;
      placed =
          placed_stays listing listing' standing standing' p.block p.block (λ s hashes pos h. hashes_known listing listing' standing standing' lists stands p.block s hashes h) p.segments (hashes_of p.leaves) plan.placed;
      choices = true_with_calls (with_leaves s more) added (true_with_leaves s more within plan.choices);
      ascend = plan.ascend;
      guard = plan.guard;
      block = plan.block ∙ sym (block_of_more p.settings [] leaves more (take (length p.choices) p.choices) (let l = length-take-le (length p.choices) p.choices (omega arith) in omega (arith, l, within)));
      storable = plan.storable;
      registered = (let r = registered_chunks-append calls added in omega (arith, r, none, plan.registered));
    }

-- A plan stays right as more xorbs are known, more queries are made and more leaves follow.
pub plan_stays : (listing listing' : List ℕ → Option (List ℕ)) (standing standing' : List (List ℕ) → Segment → Type 0) (calls calls' added : List Call) (leaves leaves' more : List (List ℕ × ℕ)) (p : PlanState)
    → ((h lengths : List ℕ) → listing h ≡ Some lengths → listing' h ≡ Some lengths)
    → ((hashes : List (List ℕ)) (run : Segment) → standing hashes run → standing' hashes run)
    → IsPlan listing standing calls leaves p
    → calls' ≡ calls ++ added
    → registered_chunks added ≡ 0
    → leaves' ≡ leaves ++ more
    → IsPlan listing' standing' calls' leaves' p
plan_stays listing listing' standing standing' calls calls' added leaves leaves' more p lists stands plan further none after =
    subst (λ (cs : List Call). IsPlan listing' standing' cs leaves' p) (sym further)
    (subst (λ (ls : List (List ℕ × ℕ)). IsPlan listing' standing' (calls ++ added) ls p) (sym after)
    (stays listing listing' standing standing' calls added leaves more p lists stands none plan))

-- ---- a run that joins

module _ (listing : List ℕ → Option (List ℕ)) (standing : List (List ℕ) → Segment → Type 0) (calls : List Call) (leaves : List (List ℕ × ℕ)) (p : PlanState) (plan : IsPlan listing standing calls leaves p)
    (run : Segment) (first : List ℕ × ℕ) (rest following : List (List ℕ × ℕ)) (at : leaves ≡ p.leaves ++ ((first ∷ rest) ++ following)) (counted : run_len run ≡ length (first ∷ rest))
    (found : IsFound (setting_of p calls leaves) (length p.leaves) first.0 (length (first ∷ rest)))
    (allowed : (continues p.segments run ≡ true) ⊎ (is_allowed p.guard (length (first ∷ rest)) ≡ true)) where
  abbrev ls : List (List ℕ × ℕ)
  ls = first ∷ rest

  abbrev s : Setting
  s = setting_of p calls leaves

  abbrev segments : List Segment
  segments = with_run p.segments run

  abbrev counts : List ℕ
  counts = counts_of segments

  abbrev added : List Choice
  added = replicate (length ls) (Reused (last_index segments))

  abbrev t : Setting
  t = with_choices s counts added

  all : total s.counts ≡ length p.choices
  all = choices_of_plan listing standing calls leaves p plan

  have : HaveChunks s.counts
  have = segments_have_chunks listing standing calls leaves p plan

  pos : 0 < run_len run
  pos = omega (arith, counted)

  joins : CountsJoin s.counts counts (run_len run)
  joins = counts_join p.segments run have pos

  none_begins : continues p.segments run ≡ true → (i : ℕ) → i < length ls → starts counts (length p.choices + i) ≡ false
  none_begins is i lt = ap (λ (n : ℕ). starts counts (n + i)) (sym all) ∙ starts_none p.segments run have pos is i (omega (arith, lt, counted))

  last_there : last_index segments ≡ length counts - 1
  last_there = omega (arith, length-map segments run_len)

  lies : (i : ℕ) → i < length ls → (seg_of counts (length p.choices + i) ≡ last_index segments) × (starts counts (length p.choices + i) ≡ true → i ≡ 0)
  lies i lt = (
    ap (λ (n : ℕ). seg_of counts (n + i)) (sym all) ∙ joins.last i (omega (arith, lt, counted)) ∙ sym last_there,
    λ is. joins.first i (omega (arith, lt, counted)) (ap (λ (n : ℕ). starts counts (n + i)) all ∙ is),
  )

  -- the first chunk of the run is the next one of the file
  here : (leaf : List ℕ × ℕ) → slice_get leaves (length p.choices) ≡ Some leaf → first ≡ leaf
  here leaf e =
      let next : slice_get leaves (length p.choices) ≡ Some first =
      (λ i. slice_get (at i) (plan.one_each i)) ∙ get_seam p.leaves ((first ∷ rest) ++ following) in
      some_same first leaf (sym next ∙ e)

  guard_here : p.guard ≡ guard_at s (length p.choices)
  guard_here = plan.guard ∙ ap (guard_at s) (sym plan.one_each)

  asked_for : starts counts (length p.choices) ≡ true → (leaf : List ℕ × ℕ) → slice_get leaves (length p.choices) ≡ Some leaf
      → (m : ℕ) × IsFound s (length p.choices) leaf.0 m × (is_allowed (guard_at s (length p.choices)) m ≡ true) × (m ≤ count_at counts (last_index segments))
  asked_for begins leaf e = by (continues p.segments run) refl allowed
    where
      by : (b : Bool) → continues p.segments run ≡ b → (continues p.segments run ≡ true) ⊎ (is_allowed p.guard (length ls) ≡ true)
          → (m : ℕ) × IsFound s (length p.choices) leaf.0 m × (is_allowed (guard_at s (length p.choices)) m ≡ true) × (m ≤ count_at counts (last_index segments))
      by true is ok =
          let none = none_begins is 0 (omega arith) in
          let zeroth : starts counts (length p.choices + 0) ≡ starts counts (length p.choices) = ap (starts counts) (omega arith) in
          absurd (cc (none, zeroth, begins))
      by false is (inl other) = absurd (cc (is, other))
      by false is (inr ok) = (
        length ls,
        subst (λ (n : ℕ). IsFound s n leaf.0 (length ls)) (sym plan.one_each) (subst (λ (l : List ℕ × ℕ). IsFound s (length p.leaves) l.0 (length ls)) (here leaf e) found),
        ap (λ (g : Fragmentation). is_allowed g (length ls)) (sym guard_here) ∙ ok,
        (let c : count_at counts (last_index segments) ≡ run_len run = ap (count_at counts) last_there ∙ count_first p.segments run have pos is in omega (arith, c, counted)),
      )

  length_both : length (p.leaves ++ ls) ≡ total counts
  length_both = omega (arith, length-append p.leaves ls, joins.sums, all, plan.one_each, counted)

  length_choices : length (p.choices ++ added) ≡ length (p.leaves ++ ls)
  length_choices = omega (arith, length-append p.leaves ls, length-append p.choices added, length-replicate (length ls) (Reused (last_index segments)), plan.one_each)

  -- the guard of all segments, if the flag is this
  guard_then : (low : Bool) → flag_at t (length (p.choices ++ added)) ≡ low → guard_of p.settings counts low ≡ guard_at t (length (p.leaves ++ ls))
  guard_then low e =
      let rs : ranges counts (length (p.leaves ++ ls)) ≡ counts = ap (ranges counts) length_both ∙ ranges_all counts joins.some in
      λ i. guard_of p.settings (sym rs i) ((sym e ∙ ap (flag_at t) length_choices) i)

  guard_joined : joined_guard p run (length ls) ≡ guard_at t (length (p.leaves ++ ls))
  guard_joined = by (continues p.segments run) refl allowed
    where
      low : Bool
      low = flag_at s (length p.choices)

      was : p.guard ≡ guard_of p.settings s.counts low
      was = guard_of_plan listing standing calls leaves p plan

      by : (b : Bool) → continues p.segments run ≡ b → (continues p.segments run ≡ true) ⊎ (is_allowed p.guard (length ls) ≡ true)
          → (if b then with_longer_range p.guard (length ls) else with_range (asked p.guard (length ls)) (length ls)) ≡ guard_at t (length (p.leaves ++ ls))
      by true is ok =
          (λ i. with_longer_range (was i) (sym counted i))
          ∙ guard_longer p.segments run have pos p.settings low is
          ∙ guard_then low (flag_with_longer_run s counts all joins.grown (length ls) (last_index segments) (none_begins is))
      by false is (inl other) = absurd (cc (is, other))
      by false is (inr ok) =
          let flag : Bool = allowed_flag (guard_at s (length p.choices)) in
          let begins : starts counts (length p.choices) ≡ true = ap (starts counts) (sym all) ∙ starts_first p.segments run have pos is in
          let none : (i : ℕ) → i < length rest → starts counts (length p.choices + suc i) ≡ false = λ i lt. only_first begins i lt in
          ap (λ (g : Fragmentation). with_range g (length ls)) (asked_allowed p.guard (length ls) ok)
          ∙ (λ i. with_range (record (was i) { low = allowed_flag (guard_here i) }) (sym counted i))
          ∙ guard_begins p.segments run have pos p.settings flag is
          ∙ guard_then flag (flag_with_run s counts all joins.grown (length rest) (last_index segments) begins none)
        where
          only_first : starts counts (length p.choices) ≡ true → (i : ℕ) → i < length rest → starts counts (length p.choices + suc i) ≡ false
          only_first begins i lt = two (starts counts (length p.choices + suc i)) refl
            where
              two : (b : Bool) → starts counts (length p.choices + suc i) ≡ b → b ≡ false
              two false e = refl
              two true e = let z = (lies (suc i) (omega arith)).1 e in absurd (omega (arith, z))

  placed_there : HasHashes listing standing p.block run (hashes_of ls) → ArePlaced listing standing p.block segments (hashes_of (p.leaves ++ ls))
  placed_there has =
      subst (ArePlaced listing standing p.block segments) (sym (map-append (λ (leaf : List ℕ × ℕ). leaf.0) p.leaves ls))
      (placed_joined listing standing p.block p.segments run (hashes_of p.leaves) (hashes_of ls) plan.placed pos (let l = length-map ls (λ (leaf : List ℕ × ℕ). leaf.0) in omega (arith, l, counted)) has)

  no_more_entries : (i n : ℕ) → slice_get (p.choices ++ added) i ≡ Some (NoPlace n) → slice_get p.choices i ≡ Some (NoPlace n)
  no_more_entries i n e = elim (get_either p.choices added i (NoPlace n) e) [
    | inl old ↦ old
    | inr new ↦ (let r = get_reused (length ls) (last_index segments) (NoPlace n) new.0 new.2 in absurd (cc r))
  ]

  join : HasHashes listing standing p.block run (hashes_of ls) → IsPlan listing standing calls leaves (joined p run ls)
  join has = record {
    following = following;
    prefix = at ∙ sym (append_assoc p.leaves ls following);
    one_each = length_choices;
    placed = placed_there has;
    choices = run_joins s counts all joins.grown (length ls) (last_index segments) plan.choices lies asked_for;
    ascend = λ i j m n lt e f. plan.ascend i j m n lt (no_more_entries i m e) (no_more_entries j n f);
    guard = guard_joined;
    block = plan.block ∙ sym (block_with_run s counts all joins.grown (length ls) (last_index segments));
    storable = plan.storable;
    registered = omega (arith, plan.registered, new_chunks-append p.choices added, new_chunks_run (length ls) (last_index segments));
  }

-- A plan stays right with a run that was found for the next chunks: it continues the last segment, or the guard allows it.
pub joined_is_plan : (listing : List ℕ → Option (List ℕ)) (standing : List (List ℕ) → Segment → Type 0) (calls : List Call) (leaves : List (List ℕ × ℕ)) (p : PlanState) (run : Segment)
    (first : List ℕ × ℕ) (ls more : List (List ℕ × ℕ))
    → IsPlan listing standing calls leaves p
    → leaves ≡ p.leaves ++ (ls ++ more)
    → slice_get ls 0 ≡ Some first
    → run_len run ≡ length ls
    → IsFound (setting_of p calls leaves) (length p.leaves) first.0 (length ls)
    → (continues p.segments run ≡ true) ⊎ (is_allowed p.guard (length ls) ≡ true)
    → HasHashes listing standing p.block run (hashes_of ls)
    → IsPlan listing standing calls leaves (joined p run ls)
joined_is_plan listing standing calls leaves p run first [] more plan at begins counted found allowed has = absurd (cc begins)
joined_is_plan listing standing calls leaves p run first (leaf ∷ rest) more plan at begins counted found allowed has =
    let same = some_same leaf first begins in
    join listing standing calls leaves p plan run leaf rest more at counted
    (subst (λ (l : List ℕ × ℕ). IsFound (setting_of p calls leaves) (length p.leaves) l.0 (length (leaf ∷ rest))) (sym same) found) allowed has
