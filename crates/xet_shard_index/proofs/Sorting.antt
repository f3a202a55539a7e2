-- The items of a shard, sorted by their words: of those with one word the last is kept.
use Rattle.std.proofs.Common.{◌≡◌, ◌≢◌, ◌⊎◌, inl, inr, ℕ, zero, suc, ◌+◌, ◌<◌, ◌≤◌, ◌==◌, nat_eq, nat_cmp, is_lt, Bool, true, false, cond, List, [], ◌∷◌, ◌++◌, filter, get_or, length, map, drop, Option, Some, None, option_map, refl, sym, ap, ◌∙◌, arith, zero-le, suc-le-suc}
use Rattle.std.proofs.lemmas.Bool.Decides.{eqb_tells, nat_tests}
use Rattle.std.proofs.lemmas.List.{append-nil, drop_all, drop_more}
use Rattle.std.specs.List.Sorted.{IsNonDecreasingBy, IsStableByKey, ties}
use Rattle.xet_shard.specs.Queries.{last_of}
use Rattle.xet_shard_index.specs.Places.{indexed_shard, place_in, within_reach, word_place}
use Rattle.xet_shard_index.specs.declared.word_place.WordPlace.{WordPlace}
use Rattle.xet_shard_index.specs.Runs.{AllAbove, Item, Rising}
use Rattle.xet_shard_index.specs.internal.Items.{lasts, placed}
use Rattle.xet_shard_index.proofs.Merging.{Run, at, or_else}

-- the place of a word in the last item that has it
last_place : ℕ → Run → Option WordPlace
last_place w [] = None
last_place w (i ∷ is) = or_else (last_place w is) (cond (nat_eq w i.0) (Some i.1) None)

or_else_none : {X : Type 0} (o : Option X) → or_else o None ≡ o
or_else_none (Some x) = refl
or_else_none None = refl

-- ---- the last item with a word, before and after a stable sort

abbrev same_word : Item → Item → Bool
same_word = ties (λ x y. is_lt (nat_cmp x.0 y.0))

same_true : (x y : Item) → x.0 ≡ y.0 → same_word x y ≡ true
same_true x y h = grind (arith, nat_tests)

same_false : (x y : Item) → x.0 ≢ y.0 → same_word x y ≡ false
same_false x y h = grind (arith, nat_tests)

last_filter : (x : Item) (is : Run) → last_place x.0 (filter (same_word x) is) ≡ last_place x.0 is
unfolding last_place
last_filter x [] = refl
last_filter x (i ∷ is) = by (eqb_tells x.0 i.0) (last_filter x is)
  where
    by : ((nat_eq x.0 i.0 ≡ true) × (x.0 ≡ i.0)) ⊎ ((nat_eq x.0 i.0 ≡ false) × (x.0 ≢ i.0)) → last_place x.0 (filter (same_word x) is) ≡ last_place x.0 is
        → last_place x.0 (filter (same_word x) (i ∷ is)) ≡ last_place x.0 (i ∷ is)
    by (inl a) later = rw (same_true x i a.1) (ap (λ o. or_else o (cond (nat_eq x.0 i.0) (Some i.1) None)) later)
    by (inr a) later = rw (same_false x i a.1, a.0) (later ∙ sym (or_else_none (last_place x.0 is)))

last_stable : (is js : Run) (w : ℕ) → IsStableByKey (λ (i : Item). i.0) nat_cmp is js → last_place w js ≡ last_place w is
last_stable is js w stable =
    let x : Item = (w, word_place 0 (0, 0)) in
    sym (last_filter x js) ∙ ap (last_place w) (stable x) ∙ last_filter x is

-- ---- the last item with a word, where each word is kept once

-- no word is below a number
NoneBelow : ℕ → Run → Type 0
NoneBelow v [] = Unit {0}
NoneBelow v (i ∷ is) = (v ≤ i.0) × NoneBelow v is

-- the words do not fall
Climbs : Run → Type 0
Climbs [] = Unit {0}
Climbs (i ∷ is) = NoneBelow i.0 is × Climbs is

none_below_at : (v : ℕ) (is : Run) → ((j : ℕ) (d : Item) → j < length is → v ≤ (get_or is j d).0) → NoneBelow v is
unfolding NoneBelow
none_below_at v [] h = tt
none_below_at v (i ∷ is) h = (h zero i (suc-le-suc zero-le), none_below_at v is (λ j d low. h (suc j) d (suc-le-suc low)))

climbs : (is : Run) → IsNonDecreasingBy (λ (i : Item). i.0) is → Climbs is
unfolding Climbs
climbs [] h = tt
climbs (i ∷ is) h = (
  none_below_at i.0 is (λ j d low. h zero (suc j) d zero-le (suc-le-suc low)),
  climbs is (λ j k d le low. h (suc j) (suc k) d (suc-le-suc le) (suc-le-suc low)),
)

no_last : (w v : ℕ) (is : Run) → w < v → NoneBelow v is → last_place w is ≡ None
unfolding last_place NoneBelow
no_last w v [] low h = refl
no_last w v (i ∷ is) low h = let e : nat_eq w i.0 ≡ false = grind (arith, nat_tests, h.0, low) in rw (no_last w v is low h.1, e) refl

above_none_below : (v w : ℕ) (is : Run) → v < w → NoneBelow w is → AllAbove v is
unfolding NoneBelow AllAbove
above_none_below v w [] low h = tt
above_none_below v w (i ∷ is) low h = (omega (arith, h.0, low), above_none_below v w is low h.1)

lasts_same : (i j : Item) (js : Run) → i.0 ≡ j.0 → lasts (i ∷ j ∷ js) ≡ lasts (j ∷ js)
unfolding lasts
lasts_same i j js h = let e : (i.0 == j.0) ≡ true = grind (arith, nat_tests) in rw e refl

lasts_other : (i j : Item) (js : Run) → i.0 ≢ j.0 → lasts (i ∷ j ∷ js) ≡ i ∷ lasts (j ∷ js)
unfolding lasts
lasts_other i j js h = let e : (i.0 == j.0) ≡ false = grind (arith, nat_tests) in rw e refl

above_lasts : (v : ℕ) (is : Run) → AllAbove v is → AllAbove v (lasts is)
unfolding AllAbove lasts
above_lasts v [] h = tt
above_lasts v (i ∷ []) h = h
above_lasts v (i ∷ j ∷ js) h = by (eqb_tells i.0 j.0) (above_lasts v (j ∷ js) h.1)
  where
    by : ((nat_eq i.0 j.0 ≡ true) × (i.0 ≡ j.0)) ⊎ ((nat_eq i.0 j.0 ≡ false) × (i.0 ≢ j.0)) → AllAbove v (lasts (j ∷ js)) → AllAbove v (lasts (i ∷ j ∷ js))
    by (inl a) later = rw (lasts_same i j js a.1) later
    by (inr a) later = rw (lasts_other i j js a.1) (h.0, later)

rising_lasts : (is : Run) → Climbs is → Rising (lasts is)
unfolding Climbs NoneBelow Rising AllAbove lasts
rising_lasts [] h = tt
rising_lasts (i ∷ []) h = (tt, tt)
rising_lasts (i ∷ j ∷ js) h = by (eqb_tells i.0 j.0) (rising_lasts (j ∷ js) h.1)
  where
    by : ((nat_eq i.0 j.0 ≡ true) × (i.0 ≡ j.0)) ⊎ ((nat_eq i.0 j.0 ≡ false) × (i.0 ≢ j.0)) → Rising (lasts (j ∷ js)) → Rising (lasts (i ∷ j ∷ js))
    by (inl a) later = rw (lasts_same i j js a.1) later
    by (inr a) later =
        let low : i.0 < j.0 = omega (arith, a.1, h.0.0) in
        rw (lasts_other i j js a.1) (above_lasts i.0 (j ∷ js) (low, above_none_below i.0 j.0 js low h.1.0), later)

at_lasts : (w : ℕ) (is : Run) → Climbs is → at w (lasts is) ≡ last_place w is
unfolding Climbs NoneBelow last_place lasts
at_lasts w [] h = refl
at_lasts w (i ∷ []) h = refl
at_lasts w (i ∷ j ∷ js) h = by (eqb_tells i.0 j.0) (eqb_tells w i.0) (at_lasts w (j ∷ js) h.1)
  where
    kept : (o : Option WordPlace) (p q : WordPlace) → or_else (or_else o (Some p)) (Some q) ≡ or_else o (Some p)
    kept (Some x) p q = refl
    kept None p q = refl

    by : ((nat_eq i.0 j.0 ≡ true) × (i.0 ≡ j.0)) ⊎ ((nat_eq i.0 j.0 ≡ false) × (i.0 ≢ j.0)) → ((nat_eq w i.0 ≡ true) × (w ≡ i.0)) ⊎ ((nat_eq w i.0 ≡ false) × (w ≢ i.0))
        → at w (lasts (j ∷ js)) ≡ last_place w (j ∷ js) → at w (lasts (i ∷ j ∷ js)) ≡ last_place w (i ∷ j ∷ js)
    by (inl a) (inl b) later =
        let e : nat_eq w j.0 ≡ true = grind (arith, nat_tests, a.1, b.1) in
        ap (at w) (lasts_same i j js a.1) ∙ later ∙ rw (e, b.0) (sym (kept (last_place w js) j.1 i.1))
    by (inl a) (inr b) later = ap (at w) (lasts_same i j js a.1) ∙ later ∙ rw b.0 (sym (or_else_none (last_place w (j ∷ js))))
    by (inr a) (inl b) later =
        let low : w < j.0 = omega (arith, a.1, b.1, h.0.0) in
        ap (at w) (lasts_other i j js a.1) ∙ rw (no_last w j.0 (j ∷ js) low (omega arith, h.1.0), b.0) refl
    by (inr a) (inr b) later = ap (at w) (lasts_other i j js a.1) ∙ rw b.0 (later ∙ sym (or_else_none (last_place w (j ∷ js))))

-- ---- the items of a shard

last_mapped : (shard w : ℕ) (items : List (ℕ × ℕ × ℕ)) → last_place w (map (λ (i : ℕ × ℕ × ℕ). (i.0, word_place shard (i.1, i.2))) items) ≡ option_map (word_place shard) (last_of w items)
unfolding last_place last_of
last_mapped shard w [] = refl
last_mapped shard w (i ∷ is) =
    ap (λ o. or_else o (cond (nat_eq w i.0) (Some (word_place shard (i.1, i.2))) None)) (last_mapped shard w is)
    ∙ by (last_of w is) (eqb_tells w i.0) (eqb_tells i.0 w)
  where
    by : (o : Option (ℕ × ℕ)) → ((nat_eq w i.0 ≡ true) × (w ≡ i.0)) ⊎ ((nat_eq w i.0 ≡ false) × (w ≢ i.0)) → ((nat_eq i.0 w ≡ true) × (i.0 ≡ w)) ⊎ ((nat_eq i.0 w ≡ false) × (i.0 ≢ w))
        → or_else (option_map (word_place shard) o) (cond (nat_eq w i.0) (Some (word_place shard (i.1, i.2))) None)
        ≡ option_map (word_place shard) (elim o as (λ _. Option (ℕ × ℕ)) [ Some found ↦ Some found | None ↦ cond (i.0 == w) (Some (i.1, i.2)) None ])
    by (Some x) a b = refl
    by None (inl a) (inl b) = rw (a.0, b.0) refl
    by None (inr a) (inr b) = rw (a.0, b.0) refl
    by None (inl a) (inr b) = absurd (b.1 (sym a.1))
    by None (inr a) (inl b) = absurd (a.1 (sym b.1))

-- the items of a shard after they were sorted and the last of each word kept
pub sorted_rising : (is : Run) → IsNonDecreasingBy (λ (i : Item). i.0) is → Rising (lasts is)
sorted_rising is h = rising_lasts is (climbs is h)

pub sorted_places : (shard w : ℕ) (items : List (ℕ × ℕ × ℕ)) (is : Run) → IsNonDecreasingBy (λ (i : Item). i.0) is → IsStableByKey (λ (i : Item). i.0) nat_cmp (placed shard items) is
    → at w (lasts is) ≡ place_in w (indexed_shard shard items)
sorted_places shard w items is h stable = at_lasts w is (climbs is h) ∙ last_stable (placed shard items) is w stable ∙ last_mapped shard w (within_reach items)

-- ---- the loops

pub last_item : (is : Run) (i : ℕ) (d : Item) → i + 1 ≡ length is → lasts (drop i is) ≡ get_or is i d ∷ lasts (drop (i + 1) is)
unfolding lasts
last_item is i d e =
    let rest : drop (i + 1) is ≡ [] = drop_all (i + 1) is (omega (arith, e)) in
    ap lasts (drop_more is i d (omega (arith, e))) ∙ rw rest refl

pub item_kept : (is : Run) (i : ℕ) (d : Item) → i + 1 < length is → (get_or is (i + 1) d).0 ≢ (get_or is i d).0 → lasts (drop i is) ≡ get_or is i d ∷ lasts (drop (i + 1) is)
item_kept is i d low other =
    ap lasts (drop_more is i d (omega (arith, low)) ∙ ap (λ xs. get_or is i d ∷ xs) (drop_more is (i + 1) d low))
    ∙ lasts_other (get_or is i d) (get_or is (i + 1) d) (drop (i + 1 + 1) is) (λ e. other (sym e))
    ∙ ap (λ xs. get_or is i d ∷ lasts xs) (sym (drop_more is (i + 1) d low))

pub item_left : (is : Run) (i : ℕ) (d : Item) → i + 1 < length is → (get_or is (i + 1) d).0 ≡ (get_or is i d).0 → lasts (drop i is) ≡ lasts (drop (i + 1) is)
item_left is i d low same =
    ap lasts (drop_more is i d (omega (arith, low)) ∙ ap (λ xs. get_or is i d ∷ xs) (drop_more is (i + 1) d low))
    ∙ lasts_same (get_or is i d) (get_or is (i + 1) d) (drop (i + 1 + 1) is) (sym same)
    ∙ ap lasts (sym (drop_more is (i + 1) d low))

pub lasts_end : (is done : Run) (i : ℕ) → length is ≤ i → done ++ lasts (drop i is) ≡ lasts is → done ≡ lasts is
unfolding lasts
lasts_end is done i past so_far = let e : drop i is ≡ [] = drop_all i is past in sym (append-nil done) ∙ rw e at so_far
