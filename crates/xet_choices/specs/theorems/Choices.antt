-- What is true of choices stays true as a file goes on, and choices that join are true with those before.
use Rattle.std.proofs.Common.{◌≡◌, ◌⊎◌, ◌∙◌, ℕ, zero, suc, ◌+◌, ◌≤◌, ◌<◌, Bool, true, false, if◌then◌else◌, inl, inr, List, [], ◌∷◌, ◌++◌, length, take, drop, Some, None, refl, sym, ap, append_assoc, subst, arith}
use Rattle.std.specs.Prelude.{replicate, slice_get}
use Rattle.std.proofs.lemmas.List.{append-nil, drop-append-le, length-map, length-take, length-take-le, map-append, take-append-le}
use Rattle.std.proofs.lemmas.Bool.{cases_lt}
use Rattle.std.proofs.lemmas.Option.{slice_get_within}
use Rattle.std.proofs.Math.Seq.{take-length}
use Rattle.xet_cut.specs.declared.limits.LimitSettings.{LimitSettings}
use Rattle.xet_fragmentation.specs.Fragmentation.{is_allowed}
use Rattle.xet_choices.specs.declared.choice.Choice.{Choice}
use Rattle.xet_choices.specs.declared.choice.Choice.TheVariants.{Reused, NoPlace, Refused, Inside}
use Rattle.xet_choices.specs.Calls.{Call}
use Rattle.xet_choices.specs.Choices.{AllTrue, AreSameRun, GrownSetting, IsFound, Setting, TrueAt, WasPassed, allowed_flag, block_at, block_of, flag_at, flag_of, guard_at, guard_of, hashes_of, is_reused, last_place, next_flag, packed, with_calls, with_choices, with_leaves}
use Rattle.xet_choices.specs.Ranges.{Grown, count_at, ranges, seg_of, starts, total}
use Rattle.xet_choices.specs.theorems.Calls.{asked_before}
use Rattle.xet_choices.specs.theorems.Folds.{block_of_more, block_of_push, block_of_run, flag_of-append, flag_of_rest}
use Rattle.xet_choices.specs.theorems.Ranges.{count_grows, grown_none, grown_then, ranges_stay, seg_stay, starts_stay}

-- ---- elements of lists

pub get_more : {A : Type 0} (xs ys : List A) (k : ℕ) (x : A) → slice_get xs k ≡ Some x → slice_get (xs ++ ys) k ≡ Some x
get_more [] ys k x e = absurd cc
get_more (y ∷ xs) ys zero x e = e
get_more (y ∷ xs) ys (suc k) x e = get_more xs ys k x e

get_either : {A : Type 0} (xs ys : List A) (j : ℕ) (x : A) → slice_get (xs ++ ys) j ≡ Some x
    → (slice_get xs j ≡ Some x) ⊎ ((i : ℕ) × (j ≡ length xs + i) × (slice_get ys i ≡ Some x))
get_either [] ys j x e = inr (j, omega arith, e)
get_either (y ∷ xs) ys zero x e = inl e
get_either (y ∷ xs) ys (suc j) x e = elim (get_either xs ys j x e) [ inl here ↦ inl here | inr there ↦ inr (there.0, omega (arith, there.1), there.2) ]

get_within : {A : Type 0} (xs ys : List A) (j : ℕ) (x : A) → j < length xs → slice_get (xs ++ ys) j ≡ Some x → slice_get xs j ≡ Some x
get_within xs ys j x lt e = elim (get_either xs ys j x e) [ inl here ↦ here | inr there ↦ absurd (omega (arith, there.1)) ]

get_replicate : (k : ℕ) (c e : Choice) (i : ℕ) → slice_get (replicate k c) i ≡ Some e → (i < k) × (c ≡ e)
get_replicate zero c e i is = absurd cc
get_replicate (suc k) c e zero is = (omega arith, cc is)
get_replicate (suc k) c e (suc i) is = (let r = get_replicate k c e i is in (omega (arith, r.0), r.1))

-- ---- segments that agree on the first n chunks

record Agree (cs ds : List ℕ) (n : ℕ) : Type 0 where
  same_ranges : (j : ℕ) → j ≤ n → ranges ds j ≡ ranges cs j
  same_seg : (j : ℕ) → j < n → seg_of ds j ≡ seg_of cs j
  same_starts : (j : ℕ) → j < n → starts ds j ≡ starts cs j
  longer : (i : ℕ) → count_at cs i ≤ count_at ds i

agree_grown : (cs ds : List ℕ) (n : ℕ) → total cs ≡ n → Grown cs ds → Agree cs ds n
agree_grown cs ds n all g = record {
  same_ranges = λ j le. ranges_stay cs ds g j (omega (arith, le, all));
  same_seg = λ j lt. seg_stay cs ds g j (omega (arith, lt, all));
  same_starts = λ j lt. starts_stay cs ds g j (omega (arith, lt, all));
  longer = count_grows cs ds g;
}

agree_same : (cs : List ℕ) (n : ℕ) → Agree cs cs n
agree_same cs n = record { same_ranges = λ j le. refl; same_seg = λ j lt. refl; same_starts = λ j lt. refl; longer = λ i. omega arith }

next_flag_stays : (settings : LimitSettings) (cs ds : List ℕ) (n : ℕ) → Agree cs ds n → (j : ℕ) → j < n → (low : Bool) (c : Choice)
    → next_flag settings ds j low c ≡ next_flag settings cs j low c
unfolding next_flag
next_flag_stays settings cs ds n a j lt low (Reused segment) =
    (λ i. if a.same_starts j lt i then allowed_flag (guard_of settings (a.same_ranges j (omega (arith, lt)) i) low) else low)
next_flag_stays settings cs ds n a j lt low (NoPlace entry) = refl
next_flag_stays settings cs ds n a j lt low (Refused run) = refl
next_flag_stays settings cs ds n a j lt low (Inside start) = refl

flag_of_stays : (settings : LimitSettings) (cs ds : List ℕ) (n : ℕ) → Agree cs ds n → (j : ℕ) (low : Bool) (choices : List Choice) → j + length choices ≤ n
    → flag_of settings ds j low choices ≡ flag_of settings cs j low choices
unfolding flag_of
flag_of_stays settings cs ds n a j low [] le = refl
flag_of_stays settings cs ds n a j low (c ∷ choices) le =
    ap (λ (f : Bool). flag_of settings ds (suc j) f choices) (next_flag_stays settings cs ds n a j (omega (arith, le)) low c)
    ∙ flag_of_stays settings cs ds n a (suc j) (next_flag settings cs j low c) choices (omega (arith, le))

-- ---- a run of the open block

hashes_below : (k : ℕ) (block : List (List ℕ × ℕ)) (p : ℕ) (leaves : List (List ℕ × ℕ)) (j : ℕ) → AreSameRun k block p leaves j → k ≤ length (hashes_of (drop j leaves))
hashes_below k block p leaves j is =
    let here : length (take k (hashes_of (drop p block))) ≡ k = length-take-le k (hashes_of (drop p block)) (omega (arith, is.0, length-map (drop p block) (λ (m : List ℕ × ℕ). m.0))) in
    let there = ap length is.1 in
    omega (arith, here, there, length-take k (hashes_of (drop j leaves)))

same_run_more : (k : ℕ) (block : List (List ℕ × ℕ)) (p : ℕ) (leaves more : List (List ℕ × ℕ)) (j : ℕ) → j ≤ length leaves → AreSameRun k block p leaves j
    → AreSameRun k block p (leaves ++ more) j
same_run_more k block p leaves more j le is = (
  is.0,
  is.1
      ∙ sym (take-append-le k (hashes_of (drop j leaves)) (hashes_of more) (hashes_below k block p leaves j is))
      ∙ sym (ap (λ (ls : List (List ℕ × ℕ)). take k (hashes_of ls)) (drop-append-le j leaves more le)
      ∙ ap (take k) (map-append (λ (m : List ℕ × ℕ). m.0) (drop j leaves) more)),
)

-- ---- a file that goes on

module _ (s : Setting) (leaves : List (List ℕ × ℕ)) (calls : List Call) (counts : List ℕ) (choices : List Choice) (agree : Agree s.counts counts (length s.choices)) where
  abbrev t : Setting
  t = record { settings = s.settings; leaves = s.leaves ++ leaves; calls = s.calls ++ calls; counts = counts; choices = s.choices ++ choices }

  -- before chunk j
  module _ (j : ℕ) (le : j ≤ length s.choices) (within : j ≤ length s.leaves) where
    same_choices : take j (s.choices ++ choices) ≡ take j s.choices
    same_choices = take-append-le j s.choices choices le

    same_block : block_at t j ≡ block_at s j
    same_block =
        ap (λ (cs : List Choice). block_of s.settings [] (s.leaves ++ leaves) cs) same_choices
        ∙ block_of_more s.settings [] s.leaves leaves (take j s.choices) (omega (arith, within, length-take-le j s.choices le))

    same_flag : flag_at t j ≡ flag_at s j
    same_flag =
        ap (λ (cs : List Choice). flag_of s.settings counts 0 true cs) same_choices
        ∙ flag_of_stays s.settings s.counts counts (length s.choices) agree 0 true (take j s.choices) (omega (arith, le, length-take-le j s.choices le))

    same_guard : guard_at t j ≡ guard_at s j
    same_guard = λ i. guard_of s.settings (agree.same_ranges j le i) (same_flag i)

    found_stays : (h : List ℕ) (k : ℕ) → IsFound s j h k → IsFound t j h k
    found_stays h k (inl asked) = inl (asked.0, asked_before s.calls calls asked.0 h (Some k) asked.1)
    found_stays h k (inr there) =
        inr (subst (λ (b : List (List ℕ × ℕ)). (p : ℕ) × (last_place h b ≡ Some p) × (0 < k) × AreSameRun k b p (s.leaves ++ leaves) j) (sym same_block)
        (there.0, there.1, there.2, same_run_more k (block_at s j) there.0 s.leaves leaves j within there.3))

    allowed_stays : (k : ℕ) (b : Bool) → is_allowed (guard_at s j) k ≡ b → is_allowed (guard_at t j) k ≡ b
    allowed_stays k b e = ap (λ f. is_allowed f k) same_guard ∙ e

    none_stays : (h : List ℕ) → last_place h (block_at s j) ≡ None → last_place h (block_at t j) ≡ None
    none_stays h e = ap (last_place h) same_block ∙ e

    passed_stays : (start : ℕ) → WasPassed s start → WasPassed t start
    passed_stays start (inl refused) = inl (refused.0, get_more s.choices choices start _ refused.1)
    passed_stays start (inr reused) = inr (reused.0, reused.1, reused.2, get_more s.choices choices reused.0 _ reused.3, get_more s.choices choices start _ reused.4)

    -- the choice for a chunk that was stored
    new_stays : (h : List ℕ) (c : Choice) → is_reused c ≡ false → TrueAt s j h c → TrueAt t j h c
    new_stays h (Reused segment) e is = absurd (cc e)
    new_stays h (NoPlace entry) e is = (asked_before s.calls calls entry h None is.0, none_stays h is.1)
    new_stays h (Refused run) e is = (found_stays h run is.0, allowed_stays run false is.1)
    new_stays h (Inside start) e is =
        (is.0, is.1, is.2, get_more s.leaves leaves start _ is.3, asked_before s.calls calls is.2 is.0.0 (Some is.1) is.4, is.5, is.6, passed_stays start is.7, none_stays h is.8)

  stays_for : (j : ℕ) (h : List ℕ) (c : Choice) → j < length s.choices → j < length s.leaves → TrueAt s j h c → TrueAt t j h c
  stays_for j h (Reused segment) lt within is = (
    is.0 ∙ sym (agree.same_seg j lt),
    λ begins. (let was = is.1 (sym (agree.same_starts j lt) ∙ begins) in (
      was.0,
      found_stays j (omega (arith, lt)) (omega (arith, within)) h was.0 was.1,
      allowed_stays j (omega (arith, lt)) (omega (arith, within)) was.0 true was.2,
      (let grew = agree.longer segment in omega (arith, was.3, grew)),
    )),
  )
  stays_for j h (NoPlace entry) lt within is = new_stays j (omega (arith, lt)) (omega (arith, within)) h (NoPlace entry) refl is
  stays_for j h (Refused run) lt within is = new_stays j (omega (arith, lt)) (omega (arith, within)) h (Refused run) refl is
  stays_for j h (Inside start) lt within is = new_stays j (omega (arith, lt)) (omega (arith, within)) h (Inside start) refl is

  all_for : AllTrue s → ((j : ℕ) → j < length s.choices → (leaf : List ℕ × ℕ) → slice_get (s.leaves ++ leaves) j ≡ Some leaf → slice_get s.leaves j ≡ Some leaf)
      → ((i : ℕ) (leaf : List ℕ × ℕ) (c : Choice) → slice_get choices i ≡ Some c → slice_get (s.leaves ++ leaves) (length s.choices + i) ≡ Some leaf → TrueAt t (length s.choices + i) leaf.0 c)
      → AllTrue t
  all_for so_far known new j leaf c here chunk = elim (get_either s.choices choices j c here) [
    | inl old ↦ (
        let lt = slice_get_within s.choices j c old in
        let was = known j lt leaf chunk in
        stays_for j leaf.0 c lt (slice_get_within s.leaves j leaf was) (so_far j leaf c old was)
        )
    | inr added ↦ subst (λ (k : ℕ). TrueAt t k leaf.0 c) (sym added.1) (new added.0 leaf c added.2 (subst (λ (k : ℕ). slice_get (s.leaves ++ leaves) k ≡ Some leaf) added.1 chunk))
  ]

-- ---- settings that have grown

pub grown_setting_none : (s : Setting) → GrownSetting s s
grown_setting_none s = record {
  more_leaves = [];
  more_calls = [];
  more_choices = [];
  settings = refl;
  leaves = sym (append-nil s.leaves);
  calls = sym (append-nil s.calls);
  counts = grown_none s.counts;
  choices = sym (append-nil s.choices);
}

pub grown_setting_leaves : (s : Setting) (leaves : List (List ℕ × ℕ)) → GrownSetting s (with_leaves s leaves)
grown_setting_leaves s leaves = record {
  more_leaves = leaves;
  more_calls = [];
  more_choices = [];
  settings = refl;
  leaves = refl;
  calls = sym (append-nil s.calls);
  counts = grown_none s.counts;
  choices = sym (append-nil s.choices);
}

pub grown_setting_calls : (s : Setting) (calls : List Call) → GrownSetting s (with_calls s calls)
grown_setting_calls s calls = record {
  more_leaves = [];
  more_calls = calls;
  more_choices = [];
  settings = refl;
  leaves = sym (append-nil s.leaves);
  calls = refl;
  counts = grown_none s.counts;
  choices = sym (append-nil s.choices);
}

pub grown_setting_choices : (s : Setting) (counts : List ℕ) (choices : List Choice) → Grown s.counts counts → GrownSetting s (with_choices s counts choices)
grown_setting_choices s counts choices grown = record {
  more_leaves = [];
  more_calls = [];
  more_choices = choices;
  settings = refl;
  leaves = sym (append-nil s.leaves);
  calls = sym (append-nil s.calls);
  counts = grown;
  choices = refl;
}

pub grown_setting_then : (s t u : Setting) → GrownSetting s t → GrownSetting t u → GrownSetting s u
grown_setting_then s t u g h = record {
  more_leaves = g.more_leaves ++ h.more_leaves;
  more_calls = g.more_calls ++ h.more_calls;
  more_choices = g.more_choices ++ h.more_choices;
  settings = h.settings ∙ g.settings;
  leaves = h.leaves ∙ ap (λ (l : List (List ℕ × ℕ)). l ++ h.more_leaves) g.leaves ∙ append_assoc s.leaves g.more_leaves h.more_leaves;
  calls = h.calls ∙ ap (λ (l : List Call). l ++ h.more_calls) g.calls ∙ append_assoc s.calls g.more_calls h.more_calls;
  counts = grown_then s.counts t.counts u.counts g.counts h.counts;
  choices = h.choices ∙ ap (λ (l : List Choice). l ++ h.more_choices) g.choices ∙ append_assoc s.choices g.more_choices h.more_choices;
}

module _ (s t : Setting) (all : total s.counts ≡ length s.choices) (g : GrownSetting s t) where
  joined : record { settings = s.settings; leaves = s.leaves ++ g.more_leaves; calls = s.calls ++ g.more_calls; counts = t.counts; choices = s.choices ++ g.more_choices } ≡ t
  joined = sym (λ i. record { settings = g.settings i; leaves = g.leaves i; calls = g.calls i; counts = t.counts; choices = g.choices i })

  agree : Agree s.counts t.counts (length s.choices)
  agree = agree_grown s.counts t.counts (length s.choices) all g.counts

  -- Before a chunk whose earlier ones all have choices, the open block and the guard are the same,
  module _ (j : ℕ) (le : j ≤ length s.choices) (within : j ≤ length s.leaves) where
    pub block_stays : block_at t j ≡ block_at s j
    block_stays = ap (λ (u : Setting). block_at u j) (sym joined) ∙ same_block s g.more_leaves g.more_calls t.counts g.more_choices agree j le within

    pub flag_stays : flag_at t j ≡ flag_at s j
    flag_stays = ap (λ (u : Setting). flag_at u j) (sym joined) ∙ same_flag s g.more_leaves g.more_calls t.counts g.more_choices agree j le within

    pub guard_stays : guard_at t j ≡ guard_at s j
    guard_stays = ap (λ (u : Setting). guard_at u j) (sym joined) ∙ same_guard s g.more_leaves g.more_calls t.counts g.more_choices agree j le within

    -- and a run that was found there is found still.
    pub run_stays : (h : List ℕ) (k : ℕ) → IsFound s j h k → IsFound t j h k
    run_stays h k found = subst (λ (u : Setting). IsFound u j h k) joined (found_stays s g.more_leaves g.more_calls t.counts g.more_choices agree j le within h k found)

    -- What is true of the choice for a chunk that was stored is true as soon as the earlier ones have theirs.
    pub stored_stays : (h : List ℕ) (c : Choice) → is_reused c ≡ false → TrueAt s j h c → TrueAt t j h c
    stored_stays h c stored is = subst (λ (u : Setting). TrueAt u j h c) joined (new_stays s g.more_leaves g.more_calls t.counts g.more_choices agree j le within h c stored is)

  -- What is true of a choice stays true.
  pub true_stays : (j : ℕ) (h : List ℕ) (c : Choice) → j < length s.choices → j < length s.leaves → TrueAt s j h c → TrueAt t j h c
  true_stays j h c lt within is = subst (λ (u : Setting). TrueAt u j h c) joined (stays_for s g.more_leaves g.more_calls t.counts g.more_choices agree j h c lt within is)

  -- Choices that join are true with the earlier ones if they are true by themselves.
  pub all_join : length s.choices ≤ length s.leaves → AllTrue s
      → ((j : ℕ) (leaf : List ℕ × ℕ) (c : Choice) → length s.choices ≤ j → slice_get t.choices j ≡ Some c → slice_get t.leaves j ≡ Some leaf → TrueAt t j leaf.0 c)
      → AllTrue t
  all_join le so_far new j leaf c here chunk = elim (cases_lt j (length s.choices)) [
    | inl lt ↦ (
        let choice : slice_get s.choices j ≡ Some c = get_within s.choices g.more_choices j c lt (subst (λ (l : List Choice). slice_get l j ≡ Some c) g.choices here) in
        let at : slice_get s.leaves j ≡ Some leaf =
        get_within s.leaves g.more_leaves j leaf (omega (arith, lt)) (subst (λ (l : List (List ℕ × ℕ)). slice_get l j ≡ Some leaf) g.leaves chunk) in
        true_stays j leaf.0 c lt (omega (arith, lt)) (so_far j leaf c choice at)
        )
    | inr ge ↦ new j leaf c ge here chunk
  ]

-- ---- further calls, further leaves

pub true_with_calls : (s : Setting) (calls : List Call) → AllTrue s → AllTrue (with_calls s calls)
true_with_calls s calls so_far j leaf c here chunk =
    subst (λ (u : Setting). TrueAt u j leaf.0 c) (λ i. record { settings = s.settings; leaves = append-nil s.leaves i; calls = s.calls ++ calls; counts = s.counts; choices = append-nil s.choices i }) (
    stays_for s [] calls s.counts [] (agree_same s.counts (length s.choices)) j leaf.0 c (slice_get_within s.choices j c here) (slice_get_within s.leaves j leaf chunk) (so_far j leaf c here chunk)
    )

pub true_with_leaves : (s : Setting) (leaves : List (List ℕ × ℕ)) → length s.choices ≤ length s.leaves → AllTrue s → AllTrue (with_leaves s leaves)
true_with_leaves s leaves le so_far j leaf c here chunk =
    let lt = slice_get_within s.choices j c here in
    let at = get_within s.leaves leaves j leaf (omega (arith, lt)) chunk in
    subst (λ (u : Setting). TrueAt u j leaf.0 c) (λ i. record { settings = s.settings; leaves = s.leaves ++ leaves; calls = append-nil s.calls i; counts = s.counts; choices = append-nil s.choices i }) (
    stays_for s leaves [] s.counts [] (agree_same s.counts (length s.choices)) j leaf.0 c lt (omega (arith, lt)) (so_far j leaf c here at)
    )

-- ---- choices that join

module _ (s : Setting) (counts : List ℕ) (all : total s.counts ≡ length s.choices) (grown : Grown s.counts counts) where
  -- Those of chunks of the same leaves.
  pub choices_join : (choices : List Choice) → AllTrue s
      → ((i : ℕ) (leaf : List ℕ × ℕ) (c : Choice) → slice_get choices i ≡ Some c → slice_get s.leaves (length s.choices + i) ≡ Some leaf
      → TrueAt (with_choices s counts choices) (length s.choices + i) leaf.0 c)
      → AllTrue (with_choices s counts choices)
  choices_join choices so_far new j leaf c here chunk = elim (get_either s.choices choices j c here) [
    | inl old ↦ true_stays s (with_choices s counts choices) all (grown_setting_choices s counts choices grown) j leaf.0 c (slice_get_within s.choices j c old) (slice_get_within s.leaves j leaf chunk) (so_far j leaf c old chunk)
    | inr added ↦ subst (λ (k : ℕ). TrueAt (with_choices s counts choices) k leaf.0 c) (sym added.1) (new added.0 leaf c added.2 (subst (λ (k : ℕ). slice_get s.leaves k ≡ Some leaf) added.1 chunk))
  ]

  -- That of a chunk that was stored.
  pub stored_joins : (c : Choice) → is_reused c ≡ false → AllTrue s
      → ((leaf : List ℕ × ℕ) → slice_get s.leaves (length s.choices) ≡ Some leaf → TrueAt s (length s.choices) leaf.0 c)
      → AllTrue (with_choices s counts (c ∷ []))
  stored_joins c stored so_far is = choices_join (c ∷ []) so_far new
    where
      new : (i : ℕ) (leaf : List ℕ × ℕ) (e : Choice) → slice_get (c ∷ []) i ≡ Some e → slice_get s.leaves (length s.choices + i) ≡ Some leaf
          → TrueAt (with_choices s counts (c ∷ [])) (length s.choices + i) leaf.0 e
      new (suc i) leaf e here chunk = absurd (cc here)
      new zero leaf e here chunk =
          let one : c ≡ e = cc here in
          let n : length s.choices + 0 ≡ length s.choices = omega arith in
          let at : slice_get s.leaves (length s.choices) ≡ Some leaf = subst (λ (k : ℕ). slice_get s.leaves k ≡ Some leaf) n chunk in
          let lt = slice_get_within s.leaves (length s.choices) leaf at in
          let there = stored_stays s (with_choices s counts (c ∷ [])) all (grown_setting_choices s counts (c ∷ []) grown) (length s.choices) (omega arith) (omega (arith, lt)) leaf.0 c stored (is leaf at) in
          subst (λ (e : Choice). TrueAt (with_choices s counts (c ∷ [])) (length s.choices + 0) leaf.0 e) one
          (subst (λ (k : ℕ). TrueAt (with_choices s counts (c ∷ [])) k leaf.0 c) (sym n) there)

  -- Those of a run that was reused: its chunks lie in one segment, and if that begins with it, the guard allowed it.
  pub run_joins : (k segment : ℕ) → AllTrue s
      → ((i : ℕ) → i < k → (seg_of counts (length s.choices + i) ≡ segment) × (starts counts (length s.choices + i) ≡ true → i ≡ 0))
      → (starts counts (length s.choices) ≡ true → (leaf : List ℕ × ℕ) → slice_get s.leaves (length s.choices) ≡ Some leaf
      → (m : ℕ) × IsFound s (length s.choices) leaf.0 m × (is_allowed (guard_at s (length s.choices)) m ≡ true) × (m ≤ count_at counts segment))
      → AllTrue (with_choices s counts (replicate k (Reused segment)))
  run_joins k segment so_far lies asked = choices_join (replicate k (Reused segment)) so_far new
    where
      one : (i : ℕ) (leaf : List ℕ × ℕ) → i < k → slice_get s.leaves (length s.choices + i) ≡ Some leaf
          → TrueAt (with_choices s counts (replicate k (Reused segment))) (length s.choices + i) leaf.0 (Reused segment)
      one i leaf below chunk = (
        sym (lies i below).0,
        λ begins. (let zeroth : length s.choices + i ≡ length s.choices = omega (arith, (lies i below).1 begins) in
            let at : slice_get s.leaves (length s.choices) ≡ Some leaf = subst (λ (j : ℕ). slice_get s.leaves j ≡ Some leaf) zeroth chunk in
            let lt = slice_get_within s.leaves (length s.choices) leaf at in
            let was = asked (subst (λ (j : ℕ). starts counts j ≡ true) zeroth begins) leaf at in
            let t = with_choices s counts (replicate k (Reused segment)) in
            let g = grown_setting_choices s counts (replicate k (Reused segment)) grown in
            subst (λ (j : ℕ). (m : ℕ) × IsFound t j leaf.0 m × (is_allowed (guard_at t j) m ≡ true) × (m ≤ count_at counts segment)) (sym zeroth) (
              was.0,
              run_stays s t all g (length s.choices) (omega arith) (omega (arith, lt)) leaf.0 was.0 was.1,
              ap (λ f. is_allowed f was.0) (guard_stays s t all g (length s.choices) (omega arith) (omega (arith, lt))) ∙ was.2,
              was.3,
            )),
      )

      new : (i : ℕ) (leaf : List ℕ × ℕ) (c : Choice) → slice_get (replicate k (Reused segment)) i ≡ Some c → slice_get s.leaves (length s.choices + i) ≡ Some leaf
          → TrueAt (with_choices s counts (replicate k (Reused segment))) (length s.choices + i) leaf.0 c
      new i leaf c here chunk = (let r = get_replicate k (Reused segment) c i here in
          subst (λ (e : Choice). TrueAt (with_choices s counts (replicate k (Reused segment))) (length s.choices + i) leaf.0 e) r.1 (one i leaf r.0 chunk))

  -- ---- the open block and the flag after them

  end : (choices : List Choice) → take (length (s.choices ++ choices)) (s.choices ++ choices) ≡ s.choices ++ choices
  end choices = take-length (s.choices ++ choices)

  pub block_with_choice : (c : Choice) (leaf : List ℕ × ℕ) → slice_get s.leaves (length s.choices) ≡ Some leaf
      → block_at (with_choices s counts (c ∷ [])) (length (s.choices ++ c ∷ [])) ≡ (if is_reused c then block_at s (length s.choices) else packed s.settings (block_at s (length s.choices)) leaf)
  block_with_choice c leaf at =
      ap (block_of s.settings [] s.leaves) (end (c ∷ []))
      ∙ block_of_push s.settings [] s.leaves s.choices leaf c at
      ∙ ap (λ (cs : List Choice). if is_reused c then block_of s.settings [] s.leaves cs else packed s.settings (block_of s.settings [] s.leaves cs) leaf) (sym (take-length s.choices))

  pub block_with_run : (k segment : ℕ) → block_at (with_choices s counts (replicate k (Reused segment))) (length (s.choices ++ replicate k (Reused segment))) ≡ block_at s (length s.choices)
  block_with_run k segment =
      ap (block_of s.settings [] s.leaves) (end (replicate k (Reused segment)))
      ∙ block_of_run s.settings [] s.leaves s.choices k segment
      ∙ ap (block_of s.settings [] s.leaves) (sym (take-length s.choices))

  flag_so_far : flag_of s.settings counts 0 true s.choices ≡ flag_at s (length s.choices)
  flag_so_far =
      flag_of_stays s.settings s.counts counts (length s.choices) (agree_grown s.counts counts (length s.choices) all grown) 0 true s.choices (omega arith)
      ∙ ap (flag_of s.settings s.counts 0 true) (sym (take-length s.choices))

  flag_then : (choices : List Choice) → flag_at (with_choices s counts choices) (length (s.choices ++ choices)) ≡ flag_of s.settings counts (length s.choices) (flag_at s (length s.choices)) choices
  flag_then choices =
      ap (flag_of s.settings counts 0 true) (end choices)
      ∙ flag_of-append s.settings counts 0 true s.choices choices
      ∙ ap (λ (n : ℕ). flag_of s.settings counts n (flag_of s.settings counts 0 true s.choices) choices) (omega arith)
      ∙ ap (λ (low : Bool). flag_of s.settings counts (length s.choices) low choices) flag_so_far

  -- after the choice for one chunk
  pub flag_with_choice : (c : Choice) → flag_at (with_choices s counts (c ∷ [])) (length (s.choices ++ c ∷ [])) ≡ next_flag s.settings counts (length s.choices) (flag_at s (length s.choices)) c
  unfolding flag_of
  flag_with_choice c = flag_then (c ∷ [])

  -- after a run that continues a segment
  pub flag_with_longer_run : (k segment : ℕ) → ((i : ℕ) → i < k → starts counts (length s.choices + i) ≡ false)
      → flag_at (with_choices s counts (replicate k (Reused segment))) (length (s.choices ++ replicate k (Reused segment))) ≡ flag_at s (length s.choices)
  flag_with_longer_run k segment none =
      flag_then (replicate k (Reused segment)) ∙ flag_of_rest s.settings counts (length s.choices) (flag_at s (length s.choices)) k segment none

  -- after a run with which a segment begins
  pub flag_with_run : (k segment : ℕ) → starts counts (length s.choices) ≡ true → ((i : ℕ) → i < k → starts counts (length s.choices + suc i) ≡ false)
      → flag_at (with_choices s counts (replicate (suc k) (Reused segment))) (length (s.choices ++ replicate (suc k) (Reused segment))) ≡ allowed_flag (guard_at s (length s.choices))
  unfolding flag_of next_flag
  flag_with_run k segment begins none =
      let n : ℕ = length s.choices in
      let low : Bool = flag_at s (length s.choices) in
      let agree = agree_grown s.counts counts (length s.choices) all grown in
      let first : (if starts counts n then allowed_flag (guard_of s.settings (ranges counts n) low) else low) ≡ allowed_flag (guard_of s.settings (ranges counts n) low) = rw begins refl in
      flag_then (replicate (suc k) (Reused segment))
      ∙ ap (λ (b : Bool). flag_of s.settings counts (suc n) b (replicate k (Reused segment))) first
      ∙ flag_of_rest s.settings counts (suc n) (allowed_flag (guard_of s.settings (ranges counts n) low)) k segment (λ i lt. ap (starts counts) (omega arith) ∙ none i lt)
      ∙ ap (λ (rs : List ℕ). allowed_flag (guard_of s.settings rs low)) (agree.same_ranges n (omega arith))
