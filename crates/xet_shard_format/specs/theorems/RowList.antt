-- The rows at the start of bytes.
use Rattle.std.proofs.Common.{◌+◌, ◌*◌, ◌≤◌, take, ◌∙◌, ◌≡◌, ℕ, zero, suc, ◌-◌, ◌<◌, List, [], ◌∷◌, length, drop, refl, sym, ap, arith}
use Rattle.std.proofs.lemmas.List.{drop-drop, drop-take, take-take}
use Rattle.xet_shard_format.specs.declared.row.Row.{Row}
use Rattle.xet_shard_format.specs.Rows.{row, row_of, rows_in}
use Rattle.xet_shard_format.specs.theorems.FirstLast.{half_word_first}

pub length-rows_in : (n : ℕ) (bytes : List ℕ) → length (rows_in n bytes) ≡ n
unfolding rows_in
length-rows_in zero bytes = refl
length-rows_in (suc n) bytes = ap suc (length-rows_in n (drop 48 bytes))

pub rows_none : (n : ℕ) (bytes : List ℕ) → n ≡ 0 → rows_in n bytes ≡ []
unfolding rows_in
rows_none n bytes e = rw e refl

pub rows_next : (n : ℕ) (bytes : List ℕ) → 0 < n → rows_in n bytes ≡ row_of bytes ∷ rows_in (n - 1) (drop 48 bytes)
unfolding rows_in
rows_next n bytes lt =
    let e : n ≡ suc (n - 1) = omega arith in
    ap (λ (k : ℕ). rows_in k bytes) e

-- the first rows are those of the first bytes
pub row_first : (m : ℕ) (bytes : List ℕ) → 48 ≤ m → row_of (take m bytes) ≡ row_of bytes
unfolding row_of
row_first m bytes le = λ i. row (take-take 32 m bytes (omega arith) i) (half_word_first 32 m bytes (omega arith) i) (half_word_first 36 m bytes (omega arith) i) (half_word_first 40 m bytes (omega arith) i) (half_word_first 44 m bytes (omega arith) i)

pub rows_first : (n : ℕ) (bytes : List ℕ) → rows_in n (take (48 * n) bytes) ≡ rows_in n bytes
unfolding rows_in
rows_first zero bytes = refl
rows_first (suc n) bytes =
    let more : 48 * suc n ≡ 48 + 48 * n = omega arith in
    (λ i. row_first (48 * suc n) bytes (omega arith) i ∷ rows_in n (drop 48 (take (more i) bytes))) ∙ (λ i. row_of bytes ∷ rows_in n (drop-take 48 (48 * n) bytes i)) ∙ ap (λ (rs : List Row). row_of bytes ∷ rs) (rows_first n (drop 48 bytes))

-- the rows from a row on
pub rows_drop : (r n : ℕ) (bytes : List ℕ) → r ≤ n → rows_in (n - r) (drop (48 * r) bytes) ≡ drop r (rows_in n bytes)
unfolding rows_in
rows_drop zero n bytes le = let e : n - 0 ≡ n = omega arith in let z : 48 * 0 ≡ 0 = omega arith in λ i. rows_in (e i) (drop (z i) bytes)
rows_drop (suc r) zero bytes le = absurd (omega arith)
rows_drop (suc r) (suc n) bytes le =
    let e : suc n - suc r ≡ n - r = omega arith in
    let d : 48 * suc r ≡ 48 + 48 * r = omega arith in
    (λ i. rows_in (e i) (drop (d i) bytes)) ∙ ap (rows_in (n - r)) (sym (drop-drop (48 * r) 48 bytes)) ∙ rows_drop r n (drop 48 bytes) (omega arith)

-- the first rows are the front of more
pub rows_prefix : (n m : ℕ) (bytes : List ℕ) → n ≤ m → rows_in n bytes ≡ take n (rows_in m bytes)
unfolding rows_in
rows_prefix zero m bytes le = refl
rows_prefix (suc n) zero bytes le = absurd (omega arith)
rows_prefix (suc n) (suc m) bytes le = ap (λ (rs : List Row). row_of bytes ∷ rs) (rows_prefix n m (drop 48 bytes) (omega arith))

-- what is left, from a row on
pub row_left : (i n : ℕ) (bytes : List ℕ) → i < n → drop i (rows_in n bytes) ≡ row_of (drop (48 * i) bytes) ∷ drop (i + 1) (rows_in n bytes)
row_left i n bytes lt =
    let k : n - i - 1 ≡ n - (i + 1) = omega arith in
    let d : 48 * i + 48 ≡ 48 * (i + 1) = omega arith in
    sym (rows_drop i n bytes (omega arith)) ∙ rows_next (n - i) (drop (48 * i) bytes) (omega arith)
    ∙ ap (λ (rs : List Row). row_of (drop (48 * i) bytes) ∷ rs) (ap (rows_in (n - i - 1)) (drop-drop 48 (48 * i) bytes) ∙ (λ j. rows_in (k j) (drop (d j) bytes)) ∙ rows_drop (i + 1) n bytes (omega arith))
