-- Round trip of rows and bytes: what is read encodes to the bytes, and an encoding is read back.
use Rattle.std.proofs.Common.{◌≡◌, ℕ, zero, suc, ◌+◌, ◌*◌, ◌^◌, ◌<◌, ◌≤◌, List, [], ◌∷◌, ◌++◌, length, get_or, take, drop, refl, sym, ap, subst, ◌∙◌, append_assoc, arith, inl, inr}
use Rattle.std.specs.List.{AllByRecursion, All}
use Rattle.std.specs.Int.{w32, w64, from_le_bytes, to_le_bytes}
use Rattle.std.proofs.lemmas.Bool.{cases_lt}
use Rattle.std.proofs.lemmas.List.{take_at, drop_at, take-append-drop, length-append, length-take, length-drop, get_or-drop, get_or-take, get_or_past, get_or_default, drop-drop}
use Rattle.std.proofs.lemmas.List.Concat.{flat_map-cons}
use Rattle.std.proofs.lemmas.List.Elements.{All-get_or}
use Rattle.std.proofs.lemmas.Nat.{le_bytes_4, le_bytes_8, from_le_bytes-to_le_bytes_4}
use Rattle.xet_shard_format.specs.declared.row.Row.{Row}
use Rattle.xet_shard_format.specs.Rows.{RowFits, row, row_of, row_bytes, rows_in, rows_bytes}
use Rattle.xet_codec.specs.Numbers.{half_word, word}

abbrev pub IsBytes : List ℕ → Type 0
IsBytes bytes = (i : ℕ) → get_or bytes i 0 < 256

pub IsBytes-drop : (n : ℕ) (bytes : List ℕ) → IsBytes bytes → IsBytes (drop n bytes)
IsBytes-drop n bytes h i = rw get_or-drop (h (n + i))

pub IsBytes-take : (n : ℕ) (bytes : List ℕ) → IsBytes bytes → IsBytes (take n bytes)
IsBytes-take n bytes h i =
    elim (cases_lt i n) [
      | inl lt ↦ rw (get_or-take n bytes i 0 lt) (h i)
      | inr le ↦ rw (get_or_past (take n bytes) i 0 (omega (arith, length-take n bytes))) (omega arith)
    ]

-- a piece of so many bytes, and what follows it
pub glue : (at n : ℕ) (bytes : List ℕ) → take n (drop at bytes) ++ drop (at + n) bytes ≡ drop at bytes
glue at n bytes = ap (λ (rest : List ℕ). take n (drop at bytes) ++ rest) (sym (drop-drop n at bytes)) ∙ take-append-drop n (drop at bytes)

pub half_word_back : (bytes : List ℕ) (at : ℕ) → IsBytes bytes → at + 4 ≤ length bytes → to_le_bytes w32 (half_word bytes at) ≡ take 4 (drop at bytes)
half_word_back bytes at fits le = le_bytes_4 (take 4 (drop at bytes)) (half_word bytes at) (omega (arith, length-take 4 (drop at bytes), length-drop at bytes)) (IsBytes-take 4 (drop at bytes) (IsBytes-drop at bytes fits)) refl

pub word_back : (bytes : List ℕ) (at : ℕ) → IsBytes bytes → at + 8 ≤ length bytes → to_le_bytes w64 (word bytes at) ≡ take 8 (drop at bytes)
word_back bytes at fits le = le_bytes_8 (take 8 (drop at bytes)) (word bytes at) (omega (arith, length-take 8 (drop at bytes), length-drop at bytes)) (IsBytes-take 8 (drop at bytes) (IsBytes-drop at bytes fits)) refl

pub half_word_below : (bytes : List ℕ) (at : ℕ) → IsBytes bytes → half_word bytes at < 2 ^ 32
half_word_below bytes at fits =
    let piece : IsBytes (take 4 (drop at bytes)) = IsBytes-take 4 (drop at bytes) (IsBytes-drop at bytes fits) in
    omega (arith, piece 0, piece 1, piece 2, piece 3)

pub word_below : (bytes : List ℕ) (at : ℕ) → IsBytes bytes → word bytes at < 2 ^ 64
word_below bytes at fits =
    let piece : IsBytes (take 8 (drop at bytes)) = IsBytes-take 8 (drop at bytes) (IsBytes-drop at bytes fits) in
    omega (arith, piece 0, piece 1, piece 2, piece 3, piece 4, piece 5, piece 6, piece 7)

-- ---- rows

regroup5 : (a b c d e f : List ℕ) → (a ++ (b ++ (c ++ (d ++ e)))) ++ f ≡ a ++ (b ++ (c ++ (d ++ (e ++ f))))
regroup5 a b c d e f = append_assoc a (b ++ (c ++ (d ++ e))) f ∙ ap (λ (t : List ℕ). a ++ t) (append_assoc b (c ++ (d ++ e)) f ∙ ap (λ (t : List ℕ). b ++ t) (append_assoc c (d ++ e) f ∙ ap (λ (t : List ℕ). c ++ t) (append_assoc d e f)))

pub row_back : (bytes : List ℕ) → IsBytes bytes → 48 ≤ length bytes → row_bytes (row_of bytes) ++ drop 48 bytes ≡ bytes
unfolding row_bytes row_of
row_back bytes fits le =
    let p32 = half_word_back bytes 32 fits (omega arith) in
    let p36 = half_word_back bytes 36 fits (omega arith) in
    let p40 = half_word_back bytes 40 fits (omega arith) in
    let p44 = half_word_back bytes 44 fits (omega arith) in
    let read : (take 32 bytes ++ (to_le_bytes w32 (half_word bytes 32) ++ (to_le_bytes w32 (half_word bytes 36) ++ (to_le_bytes w32 (half_word bytes 40) ++ to_le_bytes w32 (half_word bytes 44))))) ++ drop 48 bytes
    ≡ (take 32 bytes ++ (take 4 (drop 32 bytes) ++ (take 4 (drop 36 bytes) ++ (take 4 (drop 40 bytes) ++ take 4 (drop 44 bytes))))) ++ drop 48 bytes =
    λ i. (take 32 bytes ++ (p32 i ++ (p36 i ++ (p40 i ++ p44 i)))) ++ drop 48 bytes in
    read
    ∙ regroup5 (take 32 bytes) (take 4 (drop 32 bytes)) (take 4 (drop 36 bytes)) (take 4 (drop 40 bytes)) (take 4 (drop 44 bytes)) (drop 48 bytes)
    ∙ ap (λ (t : List ℕ). take 32 bytes ++ (take 4 (drop 32 bytes) ++ (take 4 (drop 36 bytes) ++ (take 4 (drop 40 bytes) ++ t)))) (glue 44 4 bytes)
    ∙ ap (λ (t : List ℕ). take 32 bytes ++ (take 4 (drop 32 bytes) ++ (take 4 (drop 36 bytes) ++ t))) (glue 40 4 bytes)
    ∙ ap (λ (t : List ℕ). take 32 bytes ++ (take 4 (drop 32 bytes) ++ t)) (glue 36 4 bytes)
    ∙ ap (λ (t : List ℕ). take 32 bytes ++ t) (glue 32 4 bytes)
    ∙ take-append-drop 32 bytes

pub rows_back : (n : ℕ) (bytes : List ℕ) → IsBytes bytes → 48 * n ≤ length bytes → rows_bytes (rows_in n bytes) ++ drop (48 * n) bytes ≡ bytes
unfolding rows_in
rows_back zero bytes fits le = refl
rows_back (suc n) bytes fits le =
    let more : 48 * suc n ≡ 48 + 48 * n = omega arith in
    let rest : rows_bytes (rows_in n (drop 48 bytes)) ++ drop (48 * n) (drop 48 bytes) ≡ drop 48 bytes = rows_back n (drop 48 bytes) (IsBytes-drop 48 bytes fits) (omega (arith, length-drop 48 bytes)) in
    ap (λ (t : List ℕ). t ++ drop (48 * suc n) bytes) (flat_map-cons row_bytes (row_of bytes) (rows_in n (drop 48 bytes)))
    ∙ append_assoc (row_bytes (row_of bytes)) (rows_bytes (rows_in n (drop 48 bytes))) (drop (48 * suc n) bytes)
    ∙ ap (λ (t : List ℕ). row_bytes (row_of bytes) ++ (rows_bytes (rows_in n (drop 48 bytes)) ++ t)) (ap (λ (k : ℕ). drop k bytes) more ∙ sym (drop-drop (48 * n) 48 bytes))
    ∙ ap (λ (t : List ℕ). row_bytes (row_of bytes) ++ t) rest
    ∙ row_back bytes fits (omega arith)

pub length-row_bytes : (r : Row) → RowFits r → length (row_bytes r) ≡ 48
unfolding row_bytes
length-row_bytes r fits = omega (arith, fits.hash.0, length-append r.hash (to_le_bytes w32 r.a ++ (to_le_bytes w32 r.b ++ (to_le_bytes w32 r.c ++ to_le_bytes w32 r.d))))

pub row_again : (r : Row) (rest : List ℕ) → RowFits r → row_of (row_bytes r ++ rest) ≡ r
unfolding row_bytes row_of
row_again r rest fits =
    let len = fits.hash.0 in
    let encoding : (r.hash ++ (to_le_bytes w32 r.a ++ (to_le_bytes w32 r.b ++ (to_le_bytes w32 r.c ++ to_le_bytes w32 r.d)))) ++ rest ≡ r.hash ++ (to_le_bytes w32 r.a ++ (to_le_bytes w32 r.b ++ (to_le_bytes w32 r.c ++ (to_le_bytes w32 r.d ++ rest)))) =
    regroup5 r.hash (to_le_bytes w32 r.a) (to_le_bytes w32 r.b) (to_le_bytes w32 r.c) (to_le_bytes w32 r.d) rest in
    let tail : List ℕ = to_le_bytes w32 r.a ++ (to_le_bytes w32 r.b ++ (to_le_bytes w32 r.c ++ (to_le_bytes w32 r.d ++ rest))) in
    let past : (k : ℕ) → drop (32 + k) (r.hash ++ tail) ≡ drop k tail = λ k. sym (drop-drop k 32 (r.hash ++ tail)) ∙ ap (drop k) (drop_at r.hash tail 32 len) in
    ap row_of encoding
    ∙ (λ i. row (take_at r.hash tail 32 len i)
    ((ap (λ (t : List ℕ). from_le_bytes w32 (take 4 t)) (past 0) ∙ from_le_bytes-to_le_bytes_4 r.a fits.a) i)
    ((ap (λ (t : List ℕ). from_le_bytes w32 (take 4 t)) (past 4) ∙ from_le_bytes-to_le_bytes_4 r.b fits.b) i)
    ((ap (λ (t : List ℕ). from_le_bytes w32 (take 4 t)) (past 8) ∙ from_le_bytes-to_le_bytes_4 r.c fits.c) i)
    ((ap (λ (t : List ℕ). from_le_bytes w32 (take 4 t)) (past 12) ∙ from_le_bytes-to_le_bytes_4 r.d fits.d) i))

pub rows_again : (rs : List Row) (rest : List ℕ) → AllByRecursion RowFits rs → rows_in (length rs) (rows_bytes rs ++ rest) ≡ rs
unfolding rows_in
rows_again [] rest fits = refl
rows_again (r ∷ rs) rest fits =
    let encoding : rows_bytes (r ∷ rs) ++ rest ≡ row_bytes r ++ (rows_bytes rs ++ rest) = ap (λ (t : List ℕ). t ++ rest) (flat_map-cons row_bytes r rs) ∙ append_assoc (row_bytes r) (rows_bytes rs) rest in
    ap (rows_in (suc (length rs))) encoding
    ∙ (λ i. row_again r (rows_bytes rs ++ rest) fits.0 i ∷ (ap (rows_in (length rs)) (drop_at (row_bytes r) (rows_bytes rs ++ rest) 48 (length-row_bytes r fits.0)) ∙ rows_again rs rest fits.1) i)

pub length-rows_bytes : (rs : List Row) → AllByRecursion RowFits rs → length (rows_bytes rs) ≡ 48 * length rs
length-rows_bytes [] fits = refl
length-rows_bytes (r ∷ rs) fits = ap length (flat_map-cons row_bytes r rs) ∙ length-append (row_bytes r) (rows_bytes rs) ∙ omega (arith, length-row_bytes r fits.0, length-rows_bytes rs fits.1)

-- ---- what was read fits

pub bytes_all : (bytes : List ℕ) → IsBytes bytes → All (λ b. b < 256) bytes
bytes_all bytes fits = λ k d lt. subst (λ (x : ℕ). x < 256) (get_or_default bytes k 0 d lt) (fits k)

pub row_fits : (bytes : List ℕ) → IsBytes bytes → 48 ≤ length bytes → RowFits (row_of bytes)
unfolding row_of
row_fits bytes fits le = record {
  hash = (omega (arith, length-take 32 bytes), bytes_all (take 32 bytes) (IsBytes-take 32 bytes fits));
  a = half_word_below bytes 32 fits;
  b = half_word_below bytes 36 fits;
  c = half_word_below bytes 40 fits;
  d = half_word_below bytes 44 fits;
}

pub rows_fit : (n : ℕ) (bytes : List ℕ) → IsBytes bytes → 48 * n ≤ length bytes → AllByRecursion RowFits (rows_in n bytes)
unfolding rows_in
rows_fit zero bytes fits le = tt
rows_fit (suc n) bytes fits le = (row_fits bytes fits (omega arith), rows_fit n (drop 48 bytes) (IsBytes-drop 48 bytes fits) (omega (arith, length-drop 48 bytes)))

-- a text that grew by a piece, before what follows
pub piece_before : (t t1 whole p rest : List ℕ) → t1 ≡ t ++ p → whole ≡ t1 ++ rest → whole ≡ t ++ (p ++ rest)
piece_before t t1 whole p rest e w = w ∙ ap (λ (x : List ℕ). x ++ rest) e ∙ append_assoc t p rest

pub rows_bytes-append : (rs ss : List Row) → rows_bytes (rs ++ ss) ≡ rows_bytes rs ++ rows_bytes ss
rows_bytes-append [] ss = refl
rows_bytes-append (r ∷ rs) ss = flat_map-cons row_bytes r (rs ++ ss) ∙ ap (λ (t : List ℕ). row_bytes r ++ t) (rows_bytes-append rs ss) ∙ sym (ap (λ (t : List ℕ). t ++ rows_bytes ss) (flat_map-cons row_bytes r rs) ∙ append_assoc (row_bytes r) (rows_bytes rs) (rows_bytes ss))

-- the rows of a head, of three lists, of one list
pub head_and_three : (t t1 t2 t3 t4 : List ℕ) (r : Row) (xs ys zs : List Row) → t1 ≡ t ++ row_bytes r → t2 ≡ t1 ++ rows_bytes xs → t3 ≡ t2 ++ rows_bytes ys → t4 ≡ t3 ++ rows_bytes zs → t4 ≡ t ++ rows_bytes (r ∷ (xs ++ (ys ++ zs)))
head_and_three t t1 t2 t3 t4 r xs ys zs e1 e2 e3 e4 =
    piece_before t t1 t4 (row_bytes r) (rows_bytes xs ++ (rows_bytes ys ++ rows_bytes zs)) e1 (piece_before t1 t2 t4 (rows_bytes xs) (rows_bytes ys ++ rows_bytes zs) e2 (piece_before t2 t3 t4 (rows_bytes ys) (rows_bytes zs) e3 e4))
    ∙ ap (λ (x : List ℕ). t ++ x) (ap (λ (x : List ℕ). row_bytes r ++ x) (ap (λ (x : List ℕ). rows_bytes xs ++ x) (sym (rows_bytes-append ys zs)) ∙ sym (rows_bytes-append xs (ys ++ zs))) ∙ sym (flat_map-cons row_bytes r (xs ++ (ys ++ zs))))

pub head_and_one : (t t1 t2 : List ℕ) (r : Row) (xs : List Row) → t1 ≡ t ++ row_bytes r → t2 ≡ t1 ++ rows_bytes xs → t2 ≡ t ++ rows_bytes (r ∷ xs)
head_and_one t t1 t2 r xs e1 e2 = piece_before t t1 t2 (row_bytes r) (rows_bytes xs) e1 e2 ∙ ap (λ (x : List ℕ). t ++ x) (sym (flat_map-cons row_bytes r xs))

pub all_are_bytes : (bytes : List ℕ) → All (λ b. b < 256) bytes → IsBytes bytes
all_are_bytes bytes all i = elim (cases_lt i (length bytes)) [
  | inl lt ↦ All-get_or (λ (b : ℕ). b < 256) bytes i 0 lt all
  | inr le ↦ rw (get_or_past bytes i 0 le) (omega arith)
]
