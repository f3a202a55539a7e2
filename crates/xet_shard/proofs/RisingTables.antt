-- Where the items of a table rise, an index that bisects it finds what all of its items tell.
use Rattle.std.proofs.Common.{◌≡◌, ◌≢◌, ◌<◌, ◌≤◌, ℕ, zero, suc, ◌+◌, Bool, true, false, eqb, List, [], ◌∷◌, ◌++◌, drop, filter, get_or, length, nat_le, nat_lt, take, None, Option, Some, refl, sym, ap, subst, ◌∙◌, arith, ◌⊎◌, inl, inr}
use Rattle.std.specs.Prelude.{◌==◌, IfSome, if◌then◌else◌}
use Rattle.std.specs.List.{AllByRecursion, list_any, slice_get}
use Rattle.std.specs.Ordering.{is_lt, nat_cmp, ordering_then}
use Rattle.std.specs.declared.cmp.Ordering.{Ordering}
use Rattle.std.specs.declared.cmp.Ordering.TheVariants.{Less, Equal, Greater}
use Rattle.std.proofs.lemmas.Bool.{cases_Bool, eq-eqb, eqb-false, eqb-true, leb-false, leb-true, ltb-false, ltb-true, ne_eqb}
use Rattle.std.proofs.lemmas.Cmp.{ranked}
use Rattle.std.proofs.lemmas.List.{drop_more}
use Rattle.xet_hash.specs.Order.{hash_cmp}
use Rattle.xet_shard_format.specs.declared.record.MDBFileInfo.{MDBFileInfo}
use Rattle.xet_shard_format.specs.declared.record.MDBXorbInfo.{MDBXorbInfo}
use Rattle.xet_shard_format.specs.declared.row.Row.{Row}
use Rattle.xet_shard.specs.Bisection.{Bisects}
use Rattle.xet_shard_format.specs.Lookups.{chunk_items, chunks_from, file_items, heads_from, place_cmp, xorb_items}
use Rattle.xet_shard_format.specs.Records.{AreRecords, IsFile, file_record_hash, file_head, file_rest, file_section, first_word, section, xorb_record_hash, xorb_rows}
use Rattle.xet_shard_format.specs.Rows.{IsHashBytes, RowFits}
use Rattle.xet_shard_format.specs.Sorted.{put_in, sorted}
use Rattle.xet_shard_format.specs.theorems.Bytes.{IsBytes, all_are_bytes}
use Rattle.xet_base.specs.theorems.Elements.{all_back}
use Rattle.xet_shard_format.specs.theorems.Places.{then_regroups}
use Rattle.xet_shard_format.specs.theorems.SectionLaws.{section_cons}
use Rattle.xet_shard.specs.Queries.{last_of, place_before, tells_row}
use Rattle.xet_shard.proofs.Bisecting.{bisects_rest}

-- each is at least the one before
abbrev pub Rises : {X : Type 0} → (X → ℕ) → ℕ → List X → Type 0
Rises key low [] = Unit {0}
Rises key low (x ∷ xs) = (low ≤ key x) × Rises key (key x) xs

module _ {X : Type 0} (key : X → ℕ) where
  pub rises_from : (low lower : ℕ) (xs : List X) → lower ≤ low → Rises key low xs → Rises key lower xs
  rises_from low lower [] le rise = tt
  rises_from low lower (x ∷ xs) le rise = (omega (arith, le, rise.0), rise.1)

  -- an item that passes, of which each one before is not greater
  below_at : (bound low k : ℕ) (xs : List X) → k < length xs → Rises key low xs → IfSome (slice_get xs k) (λ i. nat_lt (key i) bound ≡ true) → low < bound
  below_at bound low k [] lt rise passes = absurd (omega arith)
  below_at bound low zero (x ∷ xs) lt rise passes = omega (arith, rise.0, ltb-true (key x) bound passes)
  below_at bound low (suc k) (x ∷ xs) lt rise passes = omega (arith, rise.0, below_at bound (key x) k xs (omega arith) rise.1 passes)

  first_below : (bound low k : ℕ) (x : X) (xs : List X) → Rises key low (x ∷ xs) → Bisects (λ i. nat_lt (key i) bound) (x ∷ xs) (suc k) → key x < bound
  first_below bound low k x xs rise b = below_at bound (key x) k (x ∷ xs) (omega (arith, b.within)) (omega arith, rise.1) b.before

  none_equal : (word low : ℕ) (xs : List X) → word < low → Rises key low xs → filter (λ i. key i == word) xs ≡ []
  none_equal word low [] lt rise = refl
  none_equal word low (x ∷ xs) lt rise = rw (ne_eqb (key x) word (omega (arith, lt, rise.0))) (none_equal word (key x) xs (omega (arith, lt, rise.0)) rise.1)

  rises_take : (n low : ℕ) (xs : List X) → Rises key low xs → Rises key low (take n xs)
  rises_take zero low xs rise = tt
  rises_take (suc n) low [] rise = tt
  rises_take (suc n) low (x ∷ xs) rise = (rise.0, rises_take n (key x) xs rise.1)

  -- of items from a word on, those of the word come first
  equal_take : (word n : ℕ) (xs : List X) → Rises key word xs → filter (λ i. key i == word) (take n xs) ≡ take n (filter (λ i. key i == word) xs)
  equal_take word zero xs rise = refl
  equal_take word (suc n) [] rise = refl
  equal_take word (suc n) (x ∷ xs) rise = elim (cases_Bool (eqb (key x) word)) [
    | inl e ↦
        let same : key x ≤ word = omega (arith, eqb-true (key x) word e) in
        rw (e) (ap (λ (is : List X). x ∷ is) (equal_take word n xs (rises_from (key x) word xs rise.0 rise.1)))
    | inr e ↦
        let past : word < key x = omega (arith, rise.0, eqb-false (key x) word e) in
        let none = none_equal word (key x) xs past rise.1 in
        rw (e, none, none_equal word (key x) (take n xs) past (rises_take n (key x) xs rise.1)) refl
  ]

  rises_drop : (word low index : ℕ) (xs : List X) → Rises key low xs → Bisects (λ i. nat_lt (key i) word) xs index → Rises key word (drop index xs)
  rises_drop word low zero [] rise b = tt
  rises_drop word low (suc k) [] rise b = tt
  rises_drop word low zero (x ∷ xs) rise b = (ltb-false (key x) word b.after, rise.1)
  rises_drop word low (suc k) (x ∷ xs) rise b = rises_drop word (key x) k xs rise.1 (bisects_rest (λ i. nat_lt (key i) word) x xs k b)

  -- the items of a word come from the index on
  equal_drop : (word low index : ℕ) (xs : List X) → Rises key low xs → Bisects (λ i. nat_lt (key i) word) xs index → filter (λ i. key i == word) (drop index xs) ≡ filter (λ i. key i == word) xs
  equal_drop word low zero xs rise b = refl
  equal_drop word low (suc k) [] rise b = refl
  equal_drop word low (suc k) (x ∷ xs) rise b =
      rw (ne_eqb (key x) word (omega (arith, first_below word low k x xs rise b))) (equal_drop word (key x) k xs rise.1 (bisects_rest (λ i. nat_lt (key i) word) x xs k b))

  pub equal_from : (word low n index : ℕ) (xs : List X) → Rises key low xs → Bisects (λ i. nat_lt (key i) word) xs index → filter (λ i. key i == word) (take n (drop index xs)) ≡ take n (filter (λ i. key i == word) xs)
  equal_from word low n index xs rise b = equal_take word n (drop index xs) (rises_drop word low index xs rise b) ∙ ap (take n) (equal_drop word low index xs rise b)

  -- ---- whether an item is equal

  none_tells : (word low : ℕ) (xs : List X) → word < low → Rises key low xs → list_any (λ i. key i == word) xs ≡ false
  none_tells word low [] lt rise = refl
  none_tells word low (x ∷ xs) lt rise = rw (ne_eqb (key x) word (omega (arith, lt, rise.0))) (none_tells word (key x) xs (omega (arith, lt, rise.0)) rise.1)

pub row_told : (row low index : ℕ) (xs : List (ℕ × ℕ)) → Rises (λ i. i.1) low xs → Bisects (λ i. nat_lt i.1 row) xs index → tells_row row index xs ≡ list_any (λ i. i.1 == row) xs
row_told row low index [] rise b = refl
row_told row low zero (x ∷ xs) rise b = elim (cases_Bool (eqb (x.1) row)) [
  | inl e ↦ rw e refl
  | inr e ↦ rw (e, none_tells (λ (i : ℕ × ℕ). i.1) row (x.1) xs (omega (arith, ltb-false (x.1) row b.after, eqb-false (x.1) row e)) rise.1) refl
]
row_told row low (suc k) (x ∷ xs) rise b =
    rw (ne_eqb (x.1) row (omega (arith, first_below (λ (i : ℕ × ℕ). i.1) row low k x xs rise b))) (row_told row (x.1) k xs rise.1 (bisects_rest (λ (i : ℕ × ℕ). nat_lt i.1 row) x xs k b))

-- ---- the last item of a word

abbrev Item : Type 0
Item = ℕ × ℕ × ℕ

abbrev first : Item → ℕ
first i = i.0

none_last : (word low : ℕ) (xs : List Item) → word < low → Rises first low xs → last_of word xs ≡ None
unfolding last_of
none_last word low [] lt rise = refl
none_last word low (x ∷ xs) lt rise = rw (none_last word (x.0) xs (omega (arith, lt, rise.0)) rise.1, ne_eqb (x.0) word (omega (arith, lt, rise.0))) refl

-- an item of another word before the others
last_skips : (word : ℕ) (x : Item) (xs : List Item) → x.0 ≢ word → last_of word (x ∷ xs) ≡ last_of word xs
unfolding last_of
last_skips word x xs ne = ap (λ (b : Bool). elim (last_of word xs) [ Some found ↦ Some found | None ↦ if b then Some (x.1, x.2) else None ]) (ne_eqb (x.0) word ne) ∙ by (last_of word xs)
  where
    by : (r : Option (ℕ × ℕ)) → elim r as (λ _. Option (ℕ × ℕ)) [ Some found ↦ Some found | None ↦ None ] ≡ r
    by None = refl
    by (Some p) = refl

-- an item of the word before the index
found_before : (word k : ℕ) (xs : List Item) → k < length xs → Rises first word xs → IfSome (slice_get xs k) (λ i. nat_le i.0 word ≡ true) → (p : ℕ × ℕ) × (place_before word (suc k) xs ≡ Some p)
found_before word k [] lt rise passes = absurd (omega arith)
found_before word zero (x ∷ xs) lt rise passes = ((x.1, x.2), rw (eq-eqb (x.0) word (omega (arith, rise.0, leb-true (x.0) word passes))) refl)
found_before word (suc k) (x ∷ xs) lt rise passes = found_before word k xs (omega arith) (rises_from first (x.0) word xs rise.0 rise.1) passes

pub last_before : (word low index : ℕ) (xs : List Item) → Rises first low xs → Bisects (λ i. nat_le i.0 word) xs index → place_before word index xs ≡ last_of word xs
unfolding last_of
last_before word low zero [] rise b = refl
last_before word low (suc k) [] rise b = absurd (omega (arith, b.within))
last_before word low zero (x ∷ xs) rise b = sym (none_last word (x.0) (x ∷ xs) (leb-false (x.0) word b.after) (omega arith, rise.1))
last_before word low (suc zero) (x ∷ xs) rise b = ap (λ (r : Option (ℕ × ℕ)). elim r [ Some found ↦ Some found | None ↦ if x.0 == word then Some (x.1, x.2) else None ]) (last_before word (x.0) 0 xs rise.1 (bisects_rest (λ (i : Item). nat_le i.0 word) x xs 0 b))
last_before word low (suc (suc k)) (x ∷ xs) rise b =
    let rest : place_before word (suc k) xs ≡ last_of word xs = last_before word (x.0) (suc k) xs rise.1 (bisects_rest (λ (i : Item). nat_le i.0 word) x xs (suc k) b) in
    elim (cases_Bool (eqb (x.0) word)) [
      | inl e ↦
          let same : x.0 ≡ word = eqb-true (x.0) word e in
          let found = found_before word k xs (omega (arith, b.within)) (rises_from first (x.0) word xs (omega (arith, same)) rise.1) b.before in
          found.1 ∙ rw (sym rest ∙ found.1) refl
      | inr e ↦ rest ∙ sym (last_skips word x xs (eqb-false (x.0) word e))
    ]

-- ---- what rises

lt_then : (a b : ℕ) (rest : Ordering) → is_lt (ordering_then (nat_cmp a b) rest) ≡ true → (a < b) ⊎ ((a ≡ b) × (is_lt rest ≡ true))
lt_then a b rest less = by (nat_cmp a b) refl less
  where
    by : (o : Ordering) → o ≡ nat_cmp a b → is_lt (ordering_then o rest) ≡ true → (a < b) ⊎ ((a ≡ b) × (is_lt rest ≡ true))
    by Less e h = inl (ranked a b Less e)
    by Equal e h = inr (ranked a b Equal e, h)
    by Greater e h = absurd (cc h)

ge_then : (a b : ℕ) (rest : Ordering) → is_lt (ordering_then (nat_cmp a b) rest) ≡ false → b ≤ a
ge_then a b rest not_less = by (nat_cmp a b) refl not_less
  where
    by : (o : Ordering) → o ≡ nat_cmp a b → is_lt (ordering_then o rest) ≡ false → b ≤ a
    by Less e h = absurd (cc h)
    by Equal e h = let same : a ≡ b = ranked a b Equal e in omega (arith, same)
    by Greater e h = let gt : b < a = ranked a b Greater e in omega (arith, gt)

-- a hash of eight bytes or more, by these
eight : (h : List ℕ) → 8 ≤ length h → h ≡ get_or h 0 0 ∷ get_or h 1 0 ∷ get_or h 2 0 ∷ get_or h 3 0 ∷ get_or h 4 0 ∷ get_or h 5 0 ∷ get_or h 6 0 ∷ get_or h 7 0 ∷ drop 8 h
eight h le =
    let at : (n : ℕ) → n < 8 → drop n h ≡ get_or h n 0 ∷ drop (n + 1) h = λ n lt. drop_more h n 0 (omega (arith, lt, le)) in
    at 0 (omega arith) ∙ ap (λ (t : List ℕ). get_or h 0 0 ∷ t) (at 1 (omega arith) ∙ ap (λ (t : List ℕ). get_or h 1 0 ∷ t) (at 2 (omega arith) ∙ ap (λ (t : List ℕ). get_or h 2 0 ∷ t) (at 3 (omega arith) ∙ ap (λ (t : List ℕ). get_or h 3 0 ∷ t) (at 4 (omega arith) ∙ ap (λ (t : List ℕ). get_or h 4 0 ∷ t) (at 5 (omega arith) ∙ ap (λ (t : List ℕ). get_or h 5 0 ∷ t) (at 6 (omega arith) ∙ ap (λ (t : List ℕ). get_or h 6 0 ∷ t) (at 7 (omega arith))))))))

-- the order of hashes is first that of their first words
pub words_rise : (a b : List ℕ) → 8 ≤ length a → 8 ≤ length b → IsBytes a → IsBytes b → is_lt (hash_cmp a b) ≡ true → first_word a ≤ first_word b
words_rise a b la lb fa fb less =
    let h : is_lt (hash_cmp (get_or a 0 0 ∷ get_or a 1 0 ∷ get_or a 2 0 ∷ get_or a 3 0 ∷ get_or a 4 0 ∷ get_or a 5 0 ∷ get_or a 6 0 ∷ get_or a 7 0 ∷ drop 8 a) (get_or b 0 0 ∷ get_or b 1 0 ∷ get_or b 2 0 ∷ get_or b 3 0 ∷ get_or b 4 0 ∷ get_or b 5 0 ∷ get_or b 6 0 ∷ get_or b 7 0 ∷ drop 8 b)) ≡ true = sym (λ i. is_lt (hash_cmp (eight a la i) (eight b lb i))) ∙ less in
    elim (lt_then (get_or a 7 0) (get_or b 7 0) _ h) [ inl lt ↦ omega (arith, fa 0, fa 1, fa 2, fa 3, fa 4, fa 5, fa 6, fa 7, fb 0, fb 1, fb 2, fb 3, fb 4, fb 5, fb 6, fb 7, lt) | inr (e7, h7) ↦ elim (lt_then (get_or a 6 0) (get_or b 6 0) _ h7) [ inl lt ↦ omega (arith, fa 0, fa 1, fa 2, fa 3, fa 4, fa 5, fa 6, fa 7, fb 0, fb 1, fb 2, fb 3, fb 4, fb 5, fb 6, fb 7, e7, lt) | inr (e6, h6) ↦ elim (lt_then (get_or a 5 0) (get_or b 5 0) _ h6) [ inl lt ↦ omega (arith, fa 0, fa 1, fa 2, fa 3, fa 4, fa 5, fa 6, fa 7, fb 0, fb 1, fb 2, fb 3, fb 4, fb 5, fb 6, fb 7, e7, e6, lt) | inr (e5, h5) ↦ elim (lt_then (get_or a 4 0) (get_or b 4 0) _ h5) [ inl lt ↦ omega (arith, fa 0, fa 1, fa 2, fa 3, fa 4, fa 5, fa 6, fa 7, fb 0, fb 1, fb 2, fb 3, fb 4, fb 5, fb 6, fb 7, e7, e6, e5, lt) | inr (e4, h4) ↦ elim (lt_then (get_or a 3 0) (get_or b 3 0) _ h4) [ inl lt ↦ omega (arith, fa 0, fa 1, fa 2, fa 3, fa 4, fa 5, fa 6, fa 7, fb 0, fb 1, fb 2, fb 3, fb 4, fb 5, fb 6, fb 7, e7, e6, e5, e4, lt) | inr (e3, h3) ↦ elim (lt_then (get_or a 2 0) (get_or b 2 0) _ h3) [ inl lt ↦ omega (arith, fa 0, fa 1, fa 2, fa 3, fa 4, fa 5, fa 6, fa 7, fb 0, fb 1, fb 2, fb 3, fb 4, fb 5, fb 6, fb 7, e7, e6, e5, e4, e3, lt) | inr (e2, h2) ↦ elim (lt_then (get_or a 1 0) (get_or b 1 0) _ h2) [ inl lt ↦ omega (arith, fa 0, fa 1, fa 2, fa 3, fa 4, fa 5, fa 6, fa 7, fb 0, fb 1, fb 2, fb 3, fb 4, fb 5, fb 6, fb 7, e7, e6, e5, e4, e3, e2, lt) | inr (e1, h1) ↦ elim (lt_then (get_or a 0 0) (get_or b 0 0) _ h1) [ inl lt ↦ omega (arith, fa 0, fa 1, fa 2, fa 3, fa 4, fa 5, fa 6, fa 7, fb 0, fb 1, fb 2, fb 3, fb 4, fb 5, fb 6, fb 7, e7, e6, e5, e4, e3, e2, e1, lt) | inr (e0, h0) ↦ omega (arith, e7, e6, e5, e4, e3, e2, e1, e0) ] ] ] ] ] ] ] ]

module _ {X : Type 0} (hash : X → List ℕ) (head : X → Row) (others : X → List Row) (hash_is : (x : X) → (head x).hash ≡ hash x) (Form : X → Type 0) where
  abbrev rows : X → List Row
  rows x = head x ∷ others x

  words_after : (at : ℕ) (last : List ℕ) (xs : List X) → IsHashBytes last → AllByRecursion RowFits (section rows xs) → AreRecords hash Form (Some last) xs → Rises (λ i. i.0) (first_word last) (heads_from hash rows at xs)
  unfolding heads_from
  words_after at last [] known fits form = tt
  words_after at last (x ∷ xs) known fits form =
      let all : AllByRecursion RowFits (rows x ++ section rows xs) = subst (AllByRecursion RowFits) (section_cons rows x xs) fits in
      let here : IsHashBytes (hash x) = subst IsHashBytes (hash_is x) all.0.hash in (
        words_rise last (hash x) (omega (arith, known.0)) (omega (arith, here.0)) (all_are_bytes last known.1) (all_are_bytes (hash x) here.1) form.0,
        words_after (at + length (rows x)) (hash x) xs here (all_back RowFits (rows x) (section rows xs) all) form.3,
      )

  words_in_order : (at : ℕ) (xs : List X) → AllByRecursion RowFits (section rows xs) → AreRecords hash Form None xs → Rises (λ i. i.0) 0 (heads_from hash rows at xs)
  unfolding heads_from
  words_in_order at [] fits form = tt
  words_in_order at (x ∷ xs) fits form =
      let all : AllByRecursion RowFits (rows x ++ section rows xs) = subst (AllByRecursion RowFits) (section_cons rows x xs) fits in
      (omega arith, words_after (at + length (rows x)) (hash x) xs (subst IsHashBytes (hash_is x) all.0.hash) (all_back RowFits (rows x) (section rows xs) all) form.3)

pub file_words_rise : (files : List MDBFileInfo) → AllByRecursion RowFits (file_section files) → AreRecords file_record_hash IsFile None files → Rises (λ i. i.0) 0 (file_items files)
file_words_rise files fits form = words_in_order file_record_hash file_head file_rest (λ x i. (file_head x).hash) IsFile 0 files fits form

rows_in_order : (at : ℕ) (xs : List MDBXorbInfo) → Rises (λ i. i.1) at (heads_from xorb_record_hash xorb_rows at xs)
unfolding heads_from
rows_in_order at [] = tt
rows_in_order at (x ∷ xs) = (omega arith, rises_from (λ (i : ℕ × ℕ). i.1) (at + length (xorb_rows x)) at (heads_from xorb_record_hash xorb_rows (at + length (xorb_rows x)) xs) (omega arith) (rows_in_order (at + length (xorb_rows x)) xs))

pub xorb_rows_rise : (blocks : List MDBXorbInfo) → Rises (λ i. i.1) 0 (xorb_items blocks)
xorb_rows_rise blocks = rows_in_order 0 blocks

put_rises : (low : ℕ) (x : Item) (ys : List Item) → low ≤ x.0 → Rises first low ys → Rises first low (put_in place_cmp x ys)
unfolding put_in
put_rises low x [] le rise = (le, tt)
put_rises low x (y ∷ ys) le rise = by (is_lt (place_cmp y x)) refl (λ least. put_rises (y.0) x ys least rise.1)
  where
    regrouped : is_lt (place_cmp y x) ≡ is_lt (ordering_then (nat_cmp y.0 x.0) (ordering_then (nat_cmp y.1 x.1) (nat_cmp y.2 x.2)))
    regrouped = ap is_lt (then_regroups (nat_cmp y.0 x.0) (nat_cmp y.1 x.1) (nat_cmp y.2 x.2))

    before : (y.0 < x.0) ⊎ ((y.0 ≡ x.0) × (is_lt (ordering_then (nat_cmp y.1 x.1) (nat_cmp y.2 x.2)) ≡ true)) → y.0 ≤ x.0
    before (inl lt) = omega (arith, lt)
    before (inr same) = omega (arith, same.0)

    by : (b : Bool) → is_lt (place_cmp y x) ≡ b → (y.0 ≤ x.0 → Rises first (y.0) (put_in place_cmp x ys)) → Rises first low (elim b as (λ _. List Item) [ true ↦ y ∷ put_in place_cmp x ys | false ↦ x ∷ y ∷ ys ])
    by true e later = (rise.0, later (before (lt_then (y.0) (x.0) _ (sym regrouped ∙ e))))
    by false e later = (le, (ge_then (y.0) (x.0) _ (sym regrouped ∙ e), rise.1))

sorted_rises : (xs : List Item) → Rises first 0 (sorted place_cmp xs)
unfolding sorted
sorted_rises [] = tt
sorted_rises (x ∷ xs) = put_rises 0 x (sorted place_cmp xs) (omega arith) (sorted_rises xs)

pub chunk_words_rise : (blocks : List MDBXorbInfo) → Rises (λ i. i.0) 0 (chunk_items blocks)
chunk_words_rise blocks = sorted_rises (chunks_from 0 blocks)
