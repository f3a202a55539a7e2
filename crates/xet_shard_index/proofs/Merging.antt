-- Runs that are put over one another.
use Rattle.std.proofs.Common.{◌≡◌, ◌≢◌, ◌⊎◌, inl, inr, ℕ, ◌+◌, ◌<◌, ◌≤◌, ◌==◌, nat_cmp, nat_eq, nat_lt, Less, Equal, Greater, Bool, true, false, cond, List, [], ◌∷◌, ◌++◌, length, get_or, drop, zero, suc, Option, Some, None, refl, sym, ap, ◌∙◌, arith}
use Rattle.std.proofs.lemmas.Bool.{cases_lt}
use Rattle.std.proofs.lemmas.Bool.Decides.{eqb_tells, nat_tests}
use Rattle.std.proofs.lemmas.List.{append_assoc, append-nil, drop_all, drop_more}
use Rattle.std.specs.Cmp.{ranks}
use Rattle.std.specs.Map.{lookup}
use Rattle.xet_shard_index.specs.Runs.{AllAbove, Item, Rising, over, put}
use Rattle.xet_shard_index.specs.declared.word_place.WordPlace.{WordPlace}

abbrev pub Run : Type 0
Run = List Item

-- the place of a word in a run
abbrev pub at : ℕ → Run → Option WordPlace
at word run = lookup {X = WordPlace} (nat_eq word) run

-- the first of two that is there
abbrev pub or_else : {X : Type 0} → Option X → Option X → Option X
or_else (Some x) other = Some x
or_else None other = other

-- two numbers by their order
pub order : (m n : ℕ) → (m < n) ⊎ ((m ≡ n) ⊎ (n < m))
order m n = elim (cases_lt m n) [
  | inl below ↦ inl below
  | inr not_below ↦ elim (cases_lt n m) [ inl above ↦ inr (inr above) | inr not_above ↦ inr (inl (omega (arith, not_below, not_above))) ]
]

pub cmp_less : (m n : ℕ) → Less ≡ nat_cmp m n → m < n
cmp_less m n e = rw (← e) at (ranks m n)

pub cmp_equal : (m n : ℕ) → Equal ≡ nat_cmp m n → m ≡ n
cmp_equal m n e = rw (← e) at (ranks m n)

pub cmp_greater : (m n : ℕ) → Greater ≡ nat_cmp m n → n < m
cmp_greater m n e = rw (← e) at (ranks m n)

-- ---- one item put in

pub put_first : (i j : Item) (js : Run) → i.0 < j.0 → put i (j ∷ js) ≡ i ∷ j ∷ js
unfolding put
put_first i j js h = let e : nat_lt i.0 j.0 ≡ true = grind (arith, nat_tests) in rw e refl

pub put_same : (i j : Item) (js : Run) → i.0 ≡ j.0 → put i (j ∷ js) ≡ i ∷ js
unfolding put
put_same i j js h =
    let e : nat_lt i.0 j.0 ≡ false = grind (arith, nat_tests) in
    let f : (i.0 == j.0) ≡ true = grind (arith, nat_tests) in
    rw (e, f) refl

pub put_later : (i j : Item) (js : Run) → j.0 < i.0 → put i (j ∷ js) ≡ j ∷ put i js
unfolding put
put_later i j js h =
    let e : nat_lt i.0 j.0 ≡ false = grind (arith, nat_tests) in
    let f : (i.0 == j.0) ≡ false = grind (arith, nat_tests) in
    rw (e, f) refl

-- ---- above

pub above_mono : (v w : ℕ) (is : Run) → v ≤ w → AllAbove w is → AllAbove v is
unfolding AllAbove
above_mono v w [] le h = tt
above_mono v w (i ∷ is) le h = (omega (arith, h.0), above_mono v w is le h.1)

above_put : (w : ℕ) (i : Item) (js : Run) → w < i.0 → AllAbove w js → AllAbove w (put i js)
unfolding AllAbove put
above_put w i [] low h = (low, tt)
above_put w i (j ∷ js) low h = elim (order i.0 j.0) [
  | inl below ↦ rw (put_first i j js below) (low, h)
  | inr (inl same) ↦ rw (put_same i j js same) (low, h.1)
  | inr (inr above) ↦ rw (put_later i j js above) (h.0, above_put w i js low h.1)
]

pub above_over : (w : ℕ) (newer older : Run) → AllAbove w newer → AllAbove w older → AllAbove w (over newer older)
unfolding AllAbove over
above_over w [] older hn ho = ho
above_over w (i ∷ newer) older hn ho = above_put w i (over newer older) hn.0 (above_over w newer older hn.1 ho)

-- ---- rising

rising_put : (i : Item) (js : Run) → Rising js → Rising (put i js)
unfolding Rising put AllAbove
rising_put i [] h = (tt, tt)
rising_put i (j ∷ js) h = elim (order i.0 j.0) [
  | inl below ↦ rw (put_first i j js below) ((below, above_mono i.0 j.0 js (omega arith) h.0), h)
  | inr (inl same) ↦ rw (put_same i j js same) (above_mono i.0 j.0 js (omega arith) h.0, h.1)
  | inr (inr above) ↦ rw (put_later i j js above) (above_put j.0 i js above h.0, rising_put i js h.1)
]

pub rising_over : (newer older : Run) → Rising older → Rising (over newer older)
unfolding over
rising_over [] older h = h
rising_over (i ∷ newer) older h = rising_put i (over newer older) (rising_over newer older h)

-- ---- look-ups

pub at_put : (w : ℕ) (i : Item) (js : Run) → at w (put i js) ≡ cond (nat_eq w i.0) (Some i.1) (at w js)
unfolding put
at_put w i [] = refl
at_put w i (j ∷ js) = elim (order i.0 j.0) [
  | inl below ↦ rw (put_first i j js below) refl
  | inr (inl same) ↦ rw (put_same i j js same) (by_same (nat_eq w i.0) (nat_eq w j.0) (ap (nat_eq w) same))
  | inr (inr above) ↦ rw (put_later i j js above, at_put w i js) (by_later (eqb_tells w i.0) (eqb_tells w j.0) above)
]
  where
    by_same : (a b : Bool) → a ≡ b → cond a (Some i.1) (at w js) ≡ cond a (Some i.1) (cond b (Some j.1) (at w js))
    by_same true b e = refl
    by_same false b e = rw (sym e) refl

    by_later : ((nat_eq w i.0 ≡ true) × (w ≡ i.0)) ⊎ ((nat_eq w i.0 ≡ false) × (w ≢ i.0)) → ((nat_eq w j.0 ≡ true) × (w ≡ j.0)) ⊎ ((nat_eq w j.0 ≡ false) × (w ≢ j.0)) → j.0 < i.0
        → cond (nat_eq w j.0) (Some j.1) (cond (nat_eq w i.0) (Some i.1) (at w js)) ≡ cond (nat_eq w i.0) (Some i.1) (cond (nat_eq w j.0) (Some j.1) (at w js))
    by_later (inl a) (inl b) above = absurd (omega (arith, a.1, b.1, above))
    by_later (inl a) (inr b) above = rw (a.0, b.0) refl
    by_later (inr a) b above = rw a.0 refl

-- the place in the newer run, if it has the word, and else in the older one
pub at_over : (w : ℕ) (newer older : Run) → at w (over newer older) ≡ or_else (at w newer) (at w older)
unfolding over
at_over w [] older = refl
at_over w (i ∷ newer) older = at_put w i (over newer older) ∙ rw (at_over w newer older) (by (nat_eq w i.0))
  where
    by : (b : Bool) → cond b (Some i.1) (or_else (at w newer) (at w older)) ≡ or_else (cond b (Some i.1) (at w newer)) (at w older)
    by true = refl
    by false = refl

-- a run has no word that is not above the words that all of its words are above
pub none_below : (v w : ℕ) (is : Run) → v ≤ w → AllAbove w is → at v is ≡ None
unfolding AllAbove
none_below v w [] le h = refl
none_below v w (i ∷ is) le h = let e : nat_eq v i.0 ≡ false = grind (arith, nat_tests, h.0) in rw e (none_below v w is le h.1)

-- ---- a rising run is its places

pub at_first : (i : Item) (is : Run) → at i.0 (i ∷ is) ≡ Some i.1
at_first i is = let e : nat_eq i.0 i.0 ≡ true = grind (arith, nat_tests) in rw e refl

pub at_later : (w : ℕ) (i : Item) (is : Run) → w ≢ i.0 → at w (i ∷ is) ≡ at w is
at_later w i is other = let e : nat_eq w i.0 ≡ false = grind (arith, nat_tests) in rw e refl

some_not_none : {X : Type 0} (x : X) → Some x ≡ None → ⊥
some_not_none x e = cc

some_is : {X : Type 0} (x y : X) → Some x ≡ Some y → x ≡ y
some_is x y e = cc

pub same_run : (is js : Run) → Rising is → Rising js → ((w : ℕ) → at w is ≡ at w js) → is ≡ js
unfolding Rising AllAbove
same_run [] [] hi hj same = refl
same_run [] (j ∷ js) hi hj same = absurd (some_not_none j.1 (sym (at_first j js) ∙ sym (same j.0)))
same_run (i ∷ is) [] hi hj same = absurd (some_not_none i.1 (sym (at_first i is) ∙ same i.0))
same_run (i ∷ is) (j ∷ js) hi hj same = elim (order i.0 j.0) [
  | inl below ↦ absurd (some_not_none i.1 (sym (at_first i is) ∙ same i.0 ∙ none_below i.0 i.0 (j ∷ js) (omega arith) (below, above_mono i.0 j.0 js (omega arith) hj.0)))
  | inr (inl words) ↦ both words (same_run is js hi.1 hj.1)
  | inr (inr above) ↦ absurd (some_not_none j.1 (sym (at_first j js) ∙ sym (same j.0) ∙ none_below j.0 j.0 (i ∷ is) (omega arith) (above, above_mono j.0 i.0 is (omega arith) hi.0)))
]
  where
    rest : i.0 ≡ j.0 → (w : ℕ) → at w is ≡ at w js
    rest words w = elim (order w i.0) [
      | inl below ↦ none_below w i.0 is (omega arith) hi.0 ∙ sym (none_below w j.0 js (omega arith) hj.0)
      | inr (inl here) ↦ none_below w i.0 is (omega arith) hi.0 ∙ sym (none_below w j.0 js (omega arith) hj.0)
      | inr (inr above) ↦ sym (at_later w i is (λ e. absurd (omega (arith, e, above)))) ∙ same w ∙ at_later w j js (λ e. absurd (omega (arith, e, above, words)))
    ]

    both : i.0 ≡ j.0 → (((w : ℕ) → at w is ≡ at w js) → is ≡ js) → i ∷ is ≡ j ∷ js
    both words later =
        let places : i.1 ≡ j.1 = some_is i.1 j.1 (sym (at_first i is) ∙ same i.0 ∙ ap (λ w. at w (j ∷ js)) words ∙ at_first j js) in
        let items : i ≡ j = ap (λ (w : ℕ). (w, i.1)) words ∙ ap (λ (p : WordPlace). (j.0, p)) places in
        ap (λ x. x ∷ is) items ∙ ap (λ xs. j ∷ xs) (later (rest words))

-- it does not matter which of three runs are put over one another first
pub over_assoc : (a b c : Run) → Rising c → over (over a b) c ≡ over a (over b c)
over_assoc a b c h = same_run _ _ (rising_over (over a b) c h) (rising_over a (over b c) (rising_over b c h))
    (λ w. at_over w (over a b) c ∙ ap (λ o. or_else o (at w c)) (at_over w a b) ∙ by w (at w a) ∙ ap (or_else (at w a)) (sym (at_over w b c)) ∙ sym (at_over w a (over b c)))
  where
    by : (w : ℕ) (o : Option WordPlace) → or_else (or_else o (at w b)) (at w c) ≡ or_else o (or_else (at w b) (at w c))
    by w (Some x) = refl
    by w None = refl

-- ---- two runs from their first items

put_below : (i : Item) (js : Run) → AllAbove i.0 js → put i js ≡ i ∷ js
unfolding AllAbove put
put_below i [] h = refl
put_below i (j ∷ js) h = put_first i j js h.0

pub over_none : (newer : Run) → Rising newer → over newer [] ≡ newer
unfolding Rising over
over_none [] h = refl
over_none (i ∷ newer) h = ap (put i) (over_none newer h.1) ∙ put_below i newer h.0

-- the newer run begins with the lower word
pub over_newer : (i : Item) (newer older : Run) → AllAbove i.0 newer → AllAbove i.0 older → over (i ∷ newer) older ≡ i ∷ over newer older
unfolding over
over_newer i newer older hn ho = put_below i (over newer older) (above_over i.0 newer older hn ho)

-- the older run does
pub over_older : (newer : Run) (j : Item) (older : Run) → AllAbove j.0 newer → over newer (j ∷ older) ≡ j ∷ over newer older
unfolding over AllAbove
over_older [] j older h = refl
over_older (i ∷ newer) j older h = ap (put i) (over_older newer j older h.1) ∙ put_later i j (over newer older) h.0

-- both begin with the same word
pub over_both : (i j : Item) (newer older : Run) → i.0 ≡ j.0 → AllAbove i.0 newer → over (i ∷ newer) (j ∷ older) ≡ i ∷ over newer older
unfolding over
over_both i j newer older same h =
    ap (put i) (over_older newer j older (above_mono j.0 i.0 newer (omega arith) h)) ∙ put_same i j (over newer older) same

-- ---- a step of merging two runs from the front

pub rising_drop : (n : ℕ) (is : Run) → Rising is → Rising (drop n is)
unfolding Rising
rising_drop zero is h = h
rising_drop (suc n) [] h = h
rising_drop (suc n) (i ∷ is) h = rising_drop n is h.1

-- an item goes from the front of what is left to the end of what is done
pub pushed : (before after left rest all : Run) (x : Item) → after ≡ before ++ x ∷ [] → before ++ left ≡ all → left ≡ x ∷ rest → after ++ rest ≡ all
pushed before after left rest all x ea e el =
    ap (λ (ys : Run). ys ++ rest) ea ∙ append_assoc before (x ∷ []) rest ∙ ap (λ (ys : Run). before ++ ys) (sym el) ∙ e

pub next_item : (is : Run) (n : ℕ) (x : Item) → n < length is → x ≡ get_or is n x → drop n is ≡ x ∷ drop (n + 1) is
next_item is n x low e = drop_more is n x low ∙ ap (λ (y : Item). y ∷ drop (n + 1) is) (sym e)

module _ (newer older before after all : Run) (i j : ℕ) (x y : Item) (rn : Rising newer) (ro : Rising older) (ex : drop i newer ≡ x ∷ drop (i + 1) newer) (ey : drop j older ≡ y ∷ drop (j + 1) older) where
  above_newer : AllAbove x.0 (drop (i + 1) newer)
  unfolding Rising
  above_newer = (rw ex at (rising_drop i newer rn)).0

  above_older : AllAbove y.0 (drop (j + 1) older)
  unfolding Rising
  above_older = (rw ey at (rising_drop j older ro)).0

  pub merge_newer : Less ≡ nat_cmp x.0 y.0 → after ≡ before ++ x ∷ [] → before ++ over (drop i newer) (drop j older) ≡ all → after ++ over (drop (i + 1) newer) (drop j older) ≡ all
  unfolding AllAbove
  merge_newer e ea so_far =
      let below : x.0 < y.0 = cmp_less x.0 y.0 e in
      pushed before after (over (drop i newer) (drop j older)) (over (drop (i + 1) newer) (drop j older)) all x ea so_far
      (ap (λ (ys : Run). over ys (drop j older)) ex
      ∙ over_newer x (drop (i + 1) newer) (drop j older) above_newer (rw ey (below, above_mono x.0 y.0 (drop (j + 1) older) (omega (arith, below)) above_older)))

  pub merge_both : Equal ≡ nat_cmp x.0 y.0 → after ≡ before ++ x ∷ [] → before ++ over (drop i newer) (drop j older) ≡ all → after ++ over (drop (i + 1) newer) (drop (j + 1) older) ≡ all
  merge_both e ea so_far =
      pushed before after (over (drop i newer) (drop j older)) (over (drop (i + 1) newer) (drop (j + 1) older)) all x ea so_far
      (ap (λ (ys : Run). over ys (drop j older)) ex ∙ ap (over (x ∷ drop (i + 1) newer)) ey
      ∙ over_both x y (drop (i + 1) newer) (drop (j + 1) older) (cmp_equal x.0 y.0 e) above_newer)

  pub merge_older : Greater ≡ nat_cmp x.0 y.0 → after ≡ before ++ y ∷ [] → before ++ over (drop i newer) (drop j older) ≡ all → after ++ over (drop i newer) (drop (j + 1) older) ≡ all
  unfolding AllAbove
  merge_older e ea so_far =
      let below : y.0 < x.0 = cmp_greater x.0 y.0 e in
      pushed before after (over (drop i newer) (drop j older)) (over (drop i newer) (drop (j + 1) older)) all y ea so_far
      (ap (over (drop i newer)) ey
      ∙ over_older (drop i newer) y (drop (j + 1) older) (rw ex (below, above_mono y.0 x.0 (drop (i + 1) newer) (omega (arith, below)) above_newer)))

-- one of the runs has come to its end
pub merge_end : (newer older before all : Run) (i j : ℕ) → Rising newer → length newer ≤ i → before ++ over (drop i newer) (drop j older) ≡ all → (before ++ drop i newer) ++ drop j older ≡ all
unfolding over
merge_end newer older before all i j rn past so_far =
    let e : drop i newer ≡ [] = drop_all i newer past in
    rw (e, append-nil before) (rw e at so_far)

pub merge_end_older : (newer older before all : Run) (i j : ℕ) → Rising newer → length older ≤ j → before ++ over (drop i newer) (drop j older) ≡ all → (before ++ drop i newer) ++ drop j older ≡ all
merge_end_older newer older before all i j rn past so_far =
    let e : drop j older ≡ [] = drop_all j older past in
    rw (e, append-nil (before ++ drop i newer)) (rw (e, over_none (drop i newer) (rising_drop i newer rn)) at so_far)
