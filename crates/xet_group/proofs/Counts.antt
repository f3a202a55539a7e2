-- Tables of counts, one byte at a time.
use Rattle.std.proofs.Common.{◌≡◌, ◌∙◌, ℕ, zero, suc, ◌+◌, ◌<◌, ◌≤◌, ◌%◌, ◌==◌, ◌&&◌, if◌then◌else◌, Bool, true, false, List, [], length, get_or, set, drop, count_ones, refl, sym, ap, subst, arith, ◌^◌}
use Rattle.std.proofs.lemmas.Bool.{eqb-true, eqb-false, eq-eqb}
use Rattle.std.proofs.lemmas.List.{at_drop_more, at_drop_all, get_or-set_other, get_or-set_same, length-set}
use Rattle.std.proofs.lemmas.List.FromFn.{fill_by_all}
use Rattle.xet_group.specs.theorems.Counting.{count_at-table}
use Rattle.xet_group.specs.Histogram.{IsTable, count_of, byte_counts, table}

-- a property of each group
pub below_four : (P : ℕ → Type 0) → P 0 → P 1 → P 2 → P 3 → (k : ℕ) → k < 4 → P k
below_four P p0 p1 p2 p3 zero h = p0
below_four P p0 p1 p2 p3 (suc zero) h = p1
below_four P p0 p1 p2 p3 (suc (suc zero)) h = p2
below_four P p0 p1 p2 p3 (suc (suc (suc zero))) h = p3
below_four P p0 p1 p2 p3 (suc (suc (suc (suc n)))) h = absurd (omega arith)

-- a table of these counts is the one that has them
pub table_from : (counts : List (List ℕ)) (f : ℕ → ℕ → ℕ) → IsTable counts → ((g k : ℕ) → g < 4 → k < 9 → count_of counts g k ≡ f g k) → counts ≡ table f
table_from counts f shape each =
    fill_by_all _ counts 4 [] shape.rows (λ g low. fill_by_all (f g) (get_or counts g []) 9 0 (shape.places g low) (λ k less. each g k low less))

-- so tables of the same counts are one
pub table_same : (f h : ℕ → ℕ → ℕ) → ((g k : ℕ) → g < 4 → k < 9 → f g k ≡ h g k) → table f ≡ table h
table_same f h each =
    let shape : IsTable (table f) = record { rows = refl; places = below_four (λ (g : ℕ). length (get_or (table f) g []) ≡ 9) refl refl refl refl } in
    table_from (table f) h shape (λ g k low less. count_at-table f g k low less ∙ each g k low less)

-- 1 at the place [g'][k'], and else 0
abbrev pub one_at : ℕ → ℕ → ℕ → ℕ → ℕ
one_at g' k' g k = if (g' == g) && (k' == k) then 1 else 0

-- the first byte is counted, and the rest
pub counted_step : (at : ℕ) (bytes : List ℕ) (i g k : ℕ) → i < length bytes
    → byte_counts at (drop i bytes) g k ≡ one_at (at % 4) (count_ones (get_or bytes i 0)) g k + byte_counts (at + 1) (drop (i + 1) bytes) g k
unfolding byte_counts
counted_step at bytes i g k here = at_drop_more (λ l. byte_counts at l g k) bytes i 0 here

pub counted_none : (at : ℕ) (bytes : List ℕ) (i g k : ℕ) → length bytes ≤ i → byte_counts at (drop i bytes) g k ≡ 0
unfolding byte_counts
counted_none at bytes i g k past = at_drop_all (λ l. byte_counts at l g k) bytes i past

-- the table with another row
pub set_shape : (counts : List (List ℕ)) (g' : ℕ) (row : List ℕ) → IsTable counts → g' < 4 → length row ≡ 9 → IsTable (set counts g' row)
set_shape counts g' row shape low len = record {
  rows = length-set counts g' row ∙ shape.rows;
  places = λ g h. place g h (g' == g) refl;
}
  where
    place : (g : ℕ) → g < 4 → (d : Bool) → (g' == g) ≡ d → length (get_or (set counts g' row) g []) ≡ 9
    place g h true e =
        subst (λ x. length (get_or (set counts g' row) x []) ≡ 9) (eqb-true g' g e) (ap length (get_or-set_same counts g' row [] (omega (arith, shape.rows))) ∙ len)
    place g h false e = ap length (get_or-set_other counts g' g row [] (λ q. eqb-false g' g e (sym q))) ∙ shape.places g h

-- the table with another count at one place
abbrev pub put : List (List ℕ) → ℕ → ℕ → ℕ → List (List ℕ)
put counts g' k' n = set counts g' (set (get_or counts g' []) k' n)

pub put_shape : (counts : List (List ℕ)) (g' k' n : ℕ) → IsTable counts → g' < 4 → IsTable (put counts g' k' n)
put_shape counts g' k' n shape low = set_shape counts g' (set (get_or counts g' []) k' n) shape low (length-set (get_or counts g' []) k' n ∙ shape.places g' low)

-- one more at a place of a row adds 1 there, and 0 elsewhere
row_one : (row : List ℕ) (k' k : ℕ) → k' < length row → (d : Bool) → (k' == k) ≡ d
    → get_or (set row k' (get_or row k' 0 + 1)) k 0 ≡ (if d then 1 else 0) + get_or row k 0
row_one row k' k low true e =
    subst (λ x. get_or (set row k' (get_or row k' 0 + 1)) x 0 ≡ 1 + get_or row x 0) (eqb-true k' k e) (get_or-set_same row k' _ 0 low ∙ omega arith)
row_one row k' k low false e = get_or-set_other row k' k _ 0 (λ q. eqb-false k' k e (sym q)) ∙ omega arith

-- and so at a place of a table
pub put_one : (counts : List (List ℕ)) (g' k' g k : ℕ) → IsTable counts → g' < 4 → k' < 9
    → count_of (put counts g' k' (count_of counts g' k' + 1)) g k ≡ one_at g' k' g k + count_of counts g k
put_one counts g' k' g k shape lg lk = cell (g' == g) refl
  where
    cell : (d : Bool) → (g' == g) ≡ d → count_of (put counts g' k' (count_of counts g' k' + 1)) g k ≡ (if d && (k' == k) then 1 else 0) + count_of counts g k
    cell true e =
        subst (λ x. count_of (put counts g' k' (count_of counts g' k' + 1)) x k ≡ (if k' == k then 1 else 0) + count_of counts x k) (eqb-true g' g e)
        (ap (λ row. get_or row k 0) (get_or-set_same counts g' _ [] (omega (arith, shape.rows))) ∙ row_one (get_or counts g' []) k' k (omega (arith, shape.places g' lg)) (k' == k) refl)
    cell false e = ap (λ row. get_or row k 0) (get_or-set_other counts g' g _ [] (λ q. eqb-false g' g e (sym q))) ∙ omega arith

-- one more byte is counted, where what stands and what is left were kept
pub one_counted : (counts : List (List ℕ)) (bytes : List ℕ) (at next i g k total : ℕ) → IsTable counts → count_ones (get_or bytes i 0) < 9 → i < length bytes → next ≡ at + 1
    → count_of counts g k + byte_counts at (drop i bytes) g k ≡ total
    → count_of (put counts (at % 4) (count_ones (get_or bytes i 0)) (count_of counts (at % 4) (count_ones (get_or bytes i 0)) + 1)) g k + byte_counts next (drop (i + 1) bytes) g k ≡ total
one_counted counts bytes at next i g k total shape few here one kept =
    rw one
    (omega (arith, kept, put_one counts (at % 4) (count_ones (get_or bytes i 0)) g k shape (omega arith) few, counted_step at bytes i g k here))

-- one more fits
pub one_fits : (counts : List (List ℕ)) (bytes : List ℕ) (at i total : ℕ) → i < length bytes → total < 2 ^ 32
    → count_of counts (at % 4) (count_ones (get_or bytes i 0)) + byte_counts at (drop i bytes) (at % 4) (count_ones (get_or bytes i 0)) ≡ total
    → count_of counts (at % 4) (count_ones (get_or bytes i 0)) + 1 < 2 ^ 32
one_fits counts bytes at i total here fits kept =
    let g = at % 4 in
    let k = count_ones (get_or bytes i 0) in
    let one : one_at g k g k ≡ 1 = rw (eq-eqb g g refl, eq-eqb k k refl) refl in
    omega (arith, kept, fits, counted_step at bytes i g k here, one)
