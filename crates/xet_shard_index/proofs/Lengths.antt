-- The lengths of runs that are put over one another, and of what they hold together.
use Rattle.std.proofs.Common.{◌≡◌, inl, inr, ℕ, zero, suc, ◌+◌, ◌-◌, ◌*◌, ◌^◌, ◌<◌, ◌≤◌, true, false, cond, List, [], ◌∷◌, ◌++◌, fold, get_or, length, take, count_by, Option, Some, None, is_none, is_some, refl, sym, subst, ap, ◌∙◌, arith, zero-le, add-mul, mul-add, mul-le-mul_right, mul_comm}
use Rattle.std.proofs.Math.Nat.{pow-suc}
use Rattle.std.proofs.lemmas.List.{take_more}
use Rattle.std.proofs.lemmas.List.Sums.{fold_push, sum_by-cons}
use Rattle.xet_shard_index.specs.declared.word_place.WordPlace.{WordPlace}
use Rattle.xet_shard_index.specs.Runs.{AllAbove, Item, Rising, merged, over, put}
use Rattle.xet_shard_index.specs.internal.Lengths.{AreRuns, first_length}
use Rattle.xet_shard_index.proofs.Merging.{Run, above_mono, at, at_first, at_later, at_over, none_below, over_assoc, or_else, order, over_both, over_newer, over_none, over_older, put_first, put_later, put_same, rising_over}
use Rattle.xet_shard_index.proofs.Searching.{digits_bound}

-- ---- one run over another

length_put_at_least : (i : Item) (js : Run) → length js ≤ length (put i js)
unfolding put
length_put_at_least i [] = zero-le
length_put_at_least i (j ∷ js) = elim (order i.0 j.0) [
  | inl below ↦ rw (put_first i j js below) (omega arith)
  | inr (inl same) ↦ rw (put_same i j js same) (omega arith)
  | inr (inr above) ↦ rw (put_later i j js above) (let l = length_put_at_least i js in omega (arith, l))
]

length_older : (newer older : Run) → length older ≤ length (over newer older)
unfolding over
length_older [] older = omega arith
length_older (i ∷ newer) older = let l = length_older newer older in let p = length_put_at_least i (over newer older) in omega (arith, l, p)

pub length_newer : (newer older : Run) → Rising newer → Rising older → length newer ≤ length (over newer older)
unfolding Rising AllAbove
length_newer [] older hn ho = zero-le
length_newer (i ∷ newer) older hn ho = inner older ho (length_newer newer)
  where
    inner : (js : Run) → Rising js → ((ks : Run) → Rising newer → Rising ks → length newer ≤ length (over newer ks)) → length (i ∷ newer) ≤ length (over (i ∷ newer) js)
    inner [] h later = rw (over_none (i ∷ newer) hn) (omega arith)
    inner (j ∷ js) h later = elim (order i.0 j.0) [
      | inl below ↦ rw (over_newer i newer (j ∷ js) hn.0 (below, above_mono i.0 j.0 js (omega (arith, below)) h.0)) (let l = later (j ∷ js) hn.1 h in omega (arith, l))
      | inr (inl same) ↦ rw (over_both i j newer js same hn.0) (let l = later js hn.1 h.1 in omega (arith, l))
      | inr (inr above) ↦ rw (over_older (i ∷ newer) j js (above, above_mono j.0 i.0 newer (omega (arith, above)) hn.0)) (let l = inner js h.1 later in omega (arith, l))
    ]

-- a word without a place counts as one
abbrev pub one_if_new : Option WordPlace → ℕ
one_if_new o = cond (is_none o) 1 0

pub length_put : (i : Item) (js : Run) → Rising js → length (put i js) ≡ one_if_new (at i.0 js) + length js
unfolding put Rising AllAbove
length_put i [] h = refl
length_put i (j ∷ js) h = elim (order i.0 j.0) [
  | inl below ↦ rw (put_first i j js below, none_below i.0 i.0 (j ∷ js) (omega arith) (below, above_mono i.0 j.0 js (omega (arith, below)) h.0)) (omega arith)
  | inr (inl same) ↦ let e : one_if_new (at i.0 (j ∷ js)) ≡ 0 = ap one_if_new (ap (λ (w : ℕ). at w (j ∷ js)) same ∙ at_first j js) in rw (put_same i j js same) (omega (arith, e))
  | inr (inr above) ↦ rw (put_later i j js above, at_later i.0 j js (λ e. absurd (omega (arith, e, above)))) (let l = length_put i js h.1 in omega (arith, l))
]

-- a newer run adds the words that the older one has not
pub length_over : (newer older : Run) → Rising newer → Rising older → length (over newer older) ≡ length older + count_by (λ (i : Item). is_none (at i.0 older)) newer
unfolding over Rising
length_over [] older hn ho = omega arith
length_over (i ∷ newer) older hn ho =
    let place : at i.0 (over newer older) ≡ at i.0 older = at_over i.0 newer older ∙ rw (none_below i.0 i.0 newer (omega arith) hn.0) refl in
    let l = length_over newer older hn.1 ho in
    let p = length_put i (over newer older) (rising_over newer older ho) in
    let e = ap one_if_new place in
    let c : count_by (λ (k : Item). is_none (at k.0 older)) (i ∷ newer) ≡ one_if_new (at i.0 older) + count_by (λ (k : Item). is_none (at k.0 older)) newer = sum_by-cons (λ (k : Item). one_if_new (at k.0 older)) i newer in
    omega (arith, l, p, e, c)

-- ---- several runs

rising_fold : (acc : Run) (rs : List Run) → Rising acc → Rising (fold (λ older newer. over newer older) acc rs)
rising_fold acc [] h = h
rising_fold acc (r ∷ rs) h = rising_fold (over r acc) rs (rising_over r acc h)

pub rising_merged : (rs : List Run) → Rising (merged rs)
unfolding Rising
rising_merged rs = rising_fold [] rs tt

length_fold : (acc : Run) (rs : List Run) → length acc ≤ length (fold (λ older newer. over newer older) acc rs)
length_fold acc [] = omega arith
length_fold acc (r ∷ rs) = let l = length_older r acc in let p = length_fold (over r acc) rs in omega (arith, l, p)

length_in_fold : (acc : Run) (rs : List Run) (i : ℕ) (d : Run) → Rising acc → AreRuns rs → i < length rs → length (get_or rs i d) ≤ length (fold (λ older newer. over newer older) acc rs)
unfolding AreRuns
length_in_fold acc [] i d h runs low = absurd (omega (arith, low))
length_in_fold acc (r ∷ rs) zero d h runs low = let l = length_newer r acc runs.0 h in let p = length_fold (over r acc) rs in omega (arith, l, p)
length_in_fold acc (r ∷ rs) (suc i) d h runs low = length_in_fold (over r acc) rs i d (rising_over r acc h) runs.3 (omega (arith, low))

-- no run is longer than all of them together
pub length_run : (rs : List Run) (i : ℕ) (d : Run) → AreRuns rs → i < length rs → length (get_or rs i d) ≤ length (merged rs)
unfolding Rising
length_run rs i d runs low = length_in_fold [] rs i d tt runs low

pub rising_run : (rs : List Run) (i : ℕ) (d : Run) → AreRuns rs → i < length rs → Rising (get_or rs i d)
unfolding AreRuns
rising_run [] i d runs low = absurd (omega (arith, low))
rising_run (r ∷ rs) zero d runs low = runs.0
rising_run (r ∷ rs) (suc i) d runs low = rising_run rs i d runs.3 (omega (arith, low))

first_reaches : (r : Run) (rs : List Run) → AreRuns (r ∷ rs) → 2 ^ length rs ≤ length r
unfolding AreRuns first_length
first_reaches r [] runs = omega (arith, runs.1)
first_reaches r (s ∷ rs) runs = let l = first_reaches s rs runs.3 in let p = pow-suc 2 (length rs) in omega (arith, l, p, runs.2)

-- there are no more runs than the number of words has binary digits
pub few_runs : (rs : List Run) (b : ℕ) → AreRuns rs → length (merged rs) < 2 ^ b → length rs ≤ b
few_runs [] b runs low = zero-le
few_runs (r ∷ rs) b runs low =
    let l = length_run (r ∷ rs) 0 [] runs (omega arith) in
    digits_bound (length rs) b (length (merged (r ∷ rs))) (let f = first_reaches r rs runs in omega (arith, l, f)) low

-- ---- the newest runs

pub merged_next : (rs : List Run) (i : ℕ) (d : Run) → i < length rs → merged (take (i + 1) rs) ≡ over (get_or rs i d) (merged (take i rs))
merged_next rs i d low = ap merged (take_more rs i d low) ∙ fold_push (λ (older newer : Run). over newer older) [] (take i rs) (get_or rs i d)

-- the first runs with one more
pub runs_with : (rs : List Run) (k : ℕ) (r : Run) → AreRuns rs → k ≤ length rs → Rising r → 0 < length r
    → ((last : ℕ) → k ≡ last + 1 → 2 * length r ≤ length (get_or rs last [])) → AreRuns (take k rs ++ r ∷ [])
unfolding AreRuns first_length
runs_with rs zero r runs low rising some short = (rising, some, zero-le, tt)
runs_with [] (suc k) r runs low rising some short = absurd (omega (arith, low))
runs_with (s ∷ rs) (suc k) r runs low rising some short =
    (runs.0, runs.1, next rs k runs.2 (omega (arith, low)) short, runs_with rs k r runs.3 (omega (arith, low)) rising some (λ last e. short (suc last) (omega (arith, e))))
  where
    next : (ts : List Run) (m : ℕ) → 2 * first_length ts ≤ length s → m ≤ length ts → ((last : ℕ) → suc m ≡ last + 1 → 2 * length r ≤ length (get_or (s ∷ ts) last [])) → 2 * first_length (take m ts ++ r ∷ []) ≤ length s
    next ts zero twice few shorter = shorter zero (omega arith)
    next [] (suc m) twice few shorter = absurd (omega (arith, few))
    next (t ∷ ts) (suc m) twice few shorter = twice

-- ---- the loops

or_else_some : {X : Type 0} (o p : Option X) → is_some o ≡ true → o ≡ or_else o p
or_else_some (Some x) p e = refl
or_else_some None p e = cc

or_else_none : {X : Type 0} (o p : Option X) → is_some o ≡ false → or_else o p ≡ p
or_else_none (Some x) p e = cc
or_else_none None p e = refl

-- the look-up of a word in the newest run that is left, and then in the older ones
module _ (w : ℕ) (rs : List Run) (left : ℕ) (r : Run) (some : 0 < left) (within : left ≤ length rs) (er : r ≡ get_or rs (left - 1) r) where
  newest : merged (take left rs) ≡ over r (merged (take (left - 1) rs))
  newest =
      let e : left ≡ left - 1 + 1 = omega (arith, some) in
      ap (λ (n : ℕ). merged (take n rs)) e ∙ merged_next rs (left - 1) r (omega (arith, some, within)) ∙ ap (λ (x : Run). over x (merged (take (left - 1) rs))) (sym er)

  look : at w (merged (take left rs)) ≡ or_else (at w r) (at w (merged (take (left - 1) rs)))
  look = ap (at w) newest ∙ at_over w r (merged (take (left - 1) rs))

  pub found_here : (o : Option WordPlace) → o ≡ at w r → is_some o ≡ true → at w (merged rs) ≡ at w (merged (take left rs)) → o ≡ at w (merged rs)
  found_here o e there same = or_else_some o (at w (merged (take (left - 1) rs))) there ∙ ap (λ x. or_else x (at w (merged (take (left - 1) rs)))) e ∙ sym look ∙ sym same

  pub not_here : (o : Option WordPlace) → o ≡ at w r → is_some o ≡ false → at w (merged rs) ≡ at w (merged (take left rs)) → at w (merged rs) ≡ at w (merged (take (left - 1) rs))
  not_here o e none same = same ∙ look ∙ ap (λ x. or_else x (at w (merged (take (left - 1) rs)))) (sym e) ∙ or_else_none o (at w (merged (take (left - 1) rs))) none

  -- a run that is put over the newest one
  pub over_newest : (made : Run) → over (over made r) (merged (take (left - 1) rs)) ≡ over made (merged (take left rs))
  over_newest made = over_assoc made r (merged (take (left - 1) rs)) (rising_merged (take (left - 1) rs)) ∙ ap (over made) (sym newest)

-- the length of a run has as many binary digits fewer than that of all as there are older runs
digits_at : (rs : List Run) (i k b : ℕ) (d : Run) → AreRuns rs → i < length rs → first_length rs < 2 ^ b → b ≡ k + i → length (get_or rs i d) < 2 ^ k
unfolding AreRuns first_length
digits_at [] i k b d runs low fits sum = absurd (omega (arith, low))
digits_at (r ∷ rs) zero k b d runs low fits sum = subst (λ (n : ℕ). length r < 2 ^ n) (omega (arith, sum)) fits
digits_at (r ∷ rs) (suc i) k zero d runs low fits sum = absurd (omega (arith, sum))
digits_at (r ∷ rs) (suc i) k (suc b) d runs low fits sum =
    digits_at rs i k b d runs.3 (omega (arith, low)) (let p = pow-suc 2 b in omega (arith, p, fits, runs.2)) (omega (arith, sum))

first_fits : (rs : List Run) (b : ℕ) → AreRuns rs → length (merged rs) < 2 ^ b → 0 < length rs → first_length rs < 2 ^ b
unfolding first_length
first_fits [] b runs fits some = absurd (omega (arith, some))
first_fits (r ∷ rs) b runs fits some = let l = length_run (r ∷ rs) 0 [] runs (omega arith) in omega (arith, l, fits)

pub digits_run : (rs : List Run) (i b : ℕ) (r : Run) → AreRuns rs → i < length rs → r ≡ get_or rs i r → length (merged rs) < 2 ^ b → length r < 2 ^ (b - i)
digits_run rs i b r runs low is fits =
    let few = few_runs rs b runs fits in
    subst (λ (x : Run). length x < 2 ^ (b - i)) (sym is) (digits_at rs i (b - i) b r runs low (first_fits rs b runs fits (omega (arith, low))) (omega (arith, few, low)))

square_next : (k : ℕ) → (k + 1) * (k + 1) ≡ k * k + 2 * k + 1
square_next k = let a = mul-add (k + 1) k 1 in let b = add-mul k 1 k in omega (arith, a, b)

-- The steps in the runs from one on: at most a square. The run before them adds the next odd number.
pub steps_run : (b left before now next : ℕ) → 0 < left → left ≤ b → next ≤ now + (2 * (b - (left - 1)) - 1) → now ≤ before + (b - left) * (b - left) → next ≤ before + (b - (left - 1)) * (b - (left - 1))
steps_run b left before now next some few run so_far =
    let e : b - (left - 1) ≡ (b - left) + 1 = omega (arith, some, few) in
    let s : (b - (left - 1)) * (b - (left - 1)) ≡ (b - left + 1) * (b - left + 1) = ap (λ (n : ℕ). n * n) e in
    let n = square_next (b - left) in
    omega (arith, s, n, run, so_far, some, few)

pub steps_all : (b left now before : ℕ) → now ≤ before + (b - left) * (b - left) → now ≤ before + b * b
steps_all b left now before steps =
    let x : ℕ = b - left in
    let less : x ≤ b = omega arith in
    let m = mul-le-mul_right {m = x} {n = b} x less in
    let n = mul-le-mul_right {m = x} {n = b} b less in
    let e : b * x ≡ x * b = mul_comm b x in
    omega (arith, m, n, e, steps)
