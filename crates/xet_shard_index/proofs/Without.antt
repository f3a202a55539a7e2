-- The items of a run whose word is not in another run.
use Rattle.std.proofs.Common.{◌≡◌, ℕ, ◌+◌, ◌≤◌, ◌<◌, nat_cmp, Less, Equal, Greater, Bool, true, false, [], ◌∷◌, ◌++◌, drop, filter, length, Some, refl, sym, ap, ◌∙◌, arith}
use Rattle.std.proofs.lemmas.List.{drop_all}
use Rattle.xet_shard_index.specs.Runs.{AllAbove, Item, Rising, without}
use Rattle.xet_shard_index.proofs.Merging.{Run, above_mono, at, at_first, at_later, cmp_equal, cmp_greater, cmp_less, none_below, pushed, rising_drop}

-- ---- a part of a run

above_part : (test : Item → Bool) (w : ℕ) (is : Run) → AllAbove w is → AllAbove w (filter test is)
unfolding AllAbove
above_part test w [] h = tt
above_part test w (i ∷ is) h = by (test i) refl (above_part test w is h.1)
  where
    by : (b : Bool) → test i ≡ b → AllAbove w (filter test is) → AllAbove w (filter test (i ∷ is))
    by true e later = rw e (h.0, later)
    by false e later = rw e later

pub rising_part : (test : Item → Bool) (is : Run) → Rising is → Rising (filter test is)
unfolding Rising
rising_part test [] h = tt
rising_part test (i ∷ is) h = by (test i) refl (rising_part test is h.1)
  where
    by : (b : Bool) → test i ≡ b → Rising (filter test is) → Rising (filter test (i ∷ is))
    by true e later = rw e (above_part test i.0 is h.0, later)
    by false e later = rw e later

-- ---- two runs from their first items

without_none : (is : Run) → without is [] ≡ is
without_none [] = refl
without_none (i ∷ is) = ap (λ (ys : Run). i ∷ ys) (without_none is)

-- the run begins with the lower word
without_less : (i : Item) (is other : Run) → AllAbove i.0 other → without (i ∷ is) other ≡ i ∷ without is other
without_less i is other h = rw (none_below i.0 i.0 other (omega arith) h) refl

-- both begin with the same word
without_equal : (i j : Item) (is js : Run) → i.0 ≡ j.0 → without (i ∷ is) (j ∷ js) ≡ without is (j ∷ js)
without_equal i j is js same =
    let e : at i.0 (j ∷ js) ≡ Some j.1 = ap (λ (w : ℕ). at w (j ∷ js)) same ∙ at_first j js in
    rw e refl

-- the other run begins with a lower word
without_above : (is : Run) (j : Item) (js : Run) → AllAbove j.0 is → without is (j ∷ js) ≡ without is js
unfolding AllAbove
without_above [] j js h = refl
without_above (i ∷ is) j js h =
    let e : at i.0 (j ∷ js) ≡ at i.0 js = at_later i.0 j js (λ same. absurd (omega (arith, same, h.0))) in
    rw (e, without_above is j js h.1) refl

-- ---- a step from the front

module _ (run other before all : Run) (i j : ℕ) (x y : Item) (rr : Rising run) (ro : Rising other) (ex : drop i run ≡ x ∷ drop (i + 1) run) (ey : drop j other ≡ y ∷ drop (j + 1) other) where
  above_run : AllAbove x.0 (drop (i + 1) run)
  unfolding Rising
  above_run = (rw ex at (rising_drop i run rr)).0

  above_other : AllAbove y.0 (drop (j + 1) other)
  unfolding Rising
  above_other = (rw ey at (rising_drop j other ro)).0

  pub leave_less : (after : Run) → Less ≡ nat_cmp x.0 y.0 → after ≡ before ++ x ∷ [] → before ++ without (drop i run) (drop j other) ≡ all → after ++ without (drop (i + 1) run) (drop j other) ≡ all
  unfolding AllAbove
  leave_less after e ea so_far =
      let below : x.0 < y.0 = cmp_less x.0 y.0 e in
      pushed before after (without (drop i run) (drop j other)) (without (drop (i + 1) run) (drop j other)) all x ea so_far
      (ap (λ (ys : Run). without ys (drop j other)) ex
      ∙ without_less x (drop (i + 1) run) (drop j other) (rw ey (below, above_mono x.0 y.0 (drop (j + 1) other) (omega (arith, below)) above_other)))

  pub leave_equal : Equal ≡ nat_cmp x.0 y.0 → before ++ without (drop i run) (drop j other) ≡ all → before ++ without (drop (i + 1) run) (drop (j + 1) other) ≡ all
  leave_equal e so_far =
      let same : x.0 ≡ y.0 = cmp_equal x.0 y.0 e in
      ap (λ (ys : Run). before ++ ys)
      (sym (ap (λ (ys : Run). without ys (drop j other)) ex ∙ ap (without (x ∷ drop (i + 1) run)) ey
      ∙ without_equal x y (drop (i + 1) run) (drop (j + 1) other) same
      ∙ without_above (drop (i + 1) run) y (drop (j + 1) other) (above_mono y.0 x.0 (drop (i + 1) run) (omega (arith, same)) above_run)))
      ∙ so_far

  pub leave_greater : Greater ≡ nat_cmp x.0 y.0 → before ++ without (drop i run) (drop j other) ≡ all → before ++ without (drop i run) (drop (j + 1) other) ≡ all
  unfolding AllAbove
  leave_greater e so_far =
      let below : y.0 < x.0 = cmp_greater x.0 y.0 e in
      ap (λ (ys : Run). before ++ ys)
      (sym (ap (without (drop i run)) ey
      ∙ without_above (drop i run) y (drop (j + 1) other) (rw ex (below, above_mono y.0 x.0 (drop (i + 1) run) (omega (arith, below)) above_run))))
      ∙ so_far

-- one of the runs has come to its end
pub leave_end : (run other before all : Run) (i j : ℕ) → length run ≤ i → before ++ without (drop i run) (drop j other) ≡ all → before ++ drop i run ≡ all
leave_end run other before all i j past so_far =
    let e : drop i run ≡ [] = drop_all i run past in
    rw e (rw e at so_far)

pub leave_end_other : (run other before all : Run) (i j : ℕ) → length other ≤ j → before ++ without (drop i run) (drop j other) ≡ all → before ++ drop i run ≡ all
leave_end_other run other before all i j past so_far =
    let e : drop j other ≡ [] = drop_all j other past in
    ap (λ (ys : Run). before ++ ys) (sym (ap (without (drop i run)) e ∙ without_none (drop i run))) ∙ so_far
