-- Counts by lanes: two in a lane, one in a lane, and four lanes of a group.
use Rattle.std.proofs.Common.{◌≡◌, ◌∙◌, ℕ, zero, suc, ◌+◌, ◌-◌, ◌*◌, ◌/◌, ◌%◌, ◌<◌, ◌≤◌, ◌==◌, Bool, true, false, if◌then◌else◌, List, [], ◌∷◌, length, get_or, drop, take, count_ones, replicate, slice_index, slice_index_or, refl, sym, ap, arith}
use Rattle.std.proofs.lemmas.Bool.{eqb-true, eqb-false, eq-eqb, ne_eqb}
use Rattle.std.proofs.lemmas.List.{drop-drop, get_or-drop, length-drop, take_rest}
use Rattle.std.proofs.lemmas.Simd.{get_or-replicate}
use Rattle.xet_group.specs.Histogram.{byte_counts, count_of}
use Rattle.xet_group.specs.internal.Lanes.{AreCounts, group_sum, lane_count}

-- a property of each number of set bits
pub below_nine : (P : ℕ → Type 0) → P 0 → P 1 → P 2 → P 3 → P 4 → P 5 → P 6 → P 7 → P 8 → (k : ℕ) → k < 9 → P k
below_nine P p0 p1 p2 p3 p4 p5 p6 p7 p8 zero h = p0
below_nine P p0 p1 p2 p3 p4 p5 p6 p7 p8 (suc zero) h = p1
below_nine P p0 p1 p2 p3 p4 p5 p6 p7 p8 (suc (suc zero)) h = p2
below_nine P p0 p1 p2 p3 p4 p5 p6 p7 p8 (suc (suc (suc zero))) h = p3
below_nine P p0 p1 p2 p3 p4 p5 p6 p7 p8 (suc (suc (suc (suc zero)))) h = p4
below_nine P p0 p1 p2 p3 p4 p5 p6 p7 p8 (suc (suc (suc (suc (suc zero))))) h = p5
below_nine P p0 p1 p2 p3 p4 p5 p6 p7 p8 (suc (suc (suc (suc (suc (suc zero)))))) h = p6
below_nine P p0 p1 p2 p3 p4 p5 p6 p7 p8 (suc (suc (suc (suc (suc (suc (suc zero))))))) h = p7
below_nine P p0 p1 p2 p3 p4 p5 p6 p7 p8 (suc (suc (suc (suc (suc (suc (suc (suc zero)))))))) h = p8
below_nine P p0 p1 p2 p3 p4 p5 p6 p7 p8 (suc (suc (suc (suc (suc (suc (suc (suc (suc n))))))))) h = absurd (omega arith)

-- a property of each pair
pub below_five : (P : ℕ → Type 0) → P 0 → P 1 → P 2 → P 3 → P 4 → (k : ℕ) → k < 5 → P k
below_five P p0 p1 p2 p3 p4 zero h = p0
below_five P p0 p1 p2 p3 p4 (suc zero) h = p1
below_five P p0 p1 p2 p3 p4 (suc (suc zero)) h = p2
below_five P p0 p1 p2 p3 p4 (suc (suc (suc zero))) h = p3
below_five P p0 p1 p2 p3 p4 (suc (suc (suc (suc zero)))) h = p4
below_five P p0 p1 p2 p3 p4 (suc (suc (suc (suc (suc n))))) h = absurd (omega arith)

-- at most each block is counted
pub count_le : (bytes : List ℕ) (l k n : ℕ) → lane_count bytes l k n ≤ n
unfolding lane_count
count_le bytes l k zero = omega arith
count_le bytes l k (suc n) = elim (count_ones (slice_index bytes l) == k) as (λ d. (if d then 1 else 0) + lane_count (drop 16 bytes) l k n ≤ suc n) [
  | true ↦ omega (arith, count_le (drop 16 bytes) l k n)
  | false ↦ omega (arith, count_le (drop 16 bytes) l k n)
]

-- blocks are counted, and then more
pub count_add : (bytes : List ℕ) (l k m n : ℕ) → lane_count bytes l k (m + n) ≡ lane_count bytes l k m + lane_count (drop (16 * m) bytes) l k n
unfolding lane_count
count_add bytes l k zero n = let e : 0 + n ≡ n = omega arith in rw e (omega arith)
count_add bytes l k (suc m) n =
    let e : suc m + n ≡ suc (m + n) = omega arith in
    let o : 16 + 16 * m ≡ 16 * suc m = omega arith in
    let rest : drop (16 * m) (drop 16 bytes) ≡ drop (16 * suc m) bytes = rw o at (drop-drop (16 * m) 16 bytes) in
    rw (e, sym rest) (omega (arith, count_add (drop 16 bytes) l k m n))

-- one more block is counted
pub count_next : (bytes : List ℕ) (l k n : ℕ) → lane_count bytes l k (n + 1) ≡ lane_count bytes l k n + (if count_ones (slice_index bytes (16 * n + l)) == k then 1 else 0)
unfolding lane_count
count_next bytes l k n =
    let here : get_or (drop (16 * n) bytes) l 0 ≡ get_or bytes (16 * n + l) 0 = get_or-drop (16 * n) bytes l 0 in
    let one = ap {B = ℕ} (λ (x : ℕ). if count_ones x == k then 1 else 0) here in
    omega (arith, count_add bytes l k n 1, one)

-- what a byte with k set bits adds to its lane of vector p
abbrev pub pair_unit : ℕ → ℕ → ℕ
pair_unit p k = (if k == 2 * p then 1 else 0) + 16 * (if k == 2 * p + 1 then 1 else 0)

-- one more block is counted in a pair
pub pair_next : (bytes : List ℕ) (p l i old unit new : ℕ) → i < 15 → new ≡ (old + unit) % 256
    → old ≡ lane_count bytes l (2 * p) i + 16 * lane_count bytes l (2 * p + 1) i
    → unit ≡ pair_unit p (count_ones (slice_index bytes (16 * i + l)))
    → new ≡ lane_count bytes l (2 * p) (i + 1) + 16 * lane_count bytes l (2 * p + 1) (i + 1)
pair_next bytes p l i old unit new few is before more =
    omega (arith, few, is, before, more, count_next bytes l (2 * p) i, count_next bytes l (2 * p + 1) i, count_le bytes l (2 * p) (i + 1), count_le bytes l (2 * p + 1) (i + 1))

-- the low halves of a pair are added
pub low_added : (bytes : List ℕ) (p l done run old pair new : ℕ) → done + run ≤ 255 → run ≤ 15
    → new ≡ (old + pair % 16) % 256 → old ≡ lane_count bytes l (2 * p) done
    → pair ≡ lane_count (drop (16 * done) bytes) l (2 * p) run + 16 * lane_count (drop (16 * done) bytes) l (2 * p + 1) run
    → new ≡ lane_count bytes l (2 * p) (done + run)
low_added bytes p l done run old pair new few short is before more =
    omega (arith, few, short, is, before, more, count_add bytes l (2 * p) done run, count_le bytes l (2 * p) (done + run), count_le (drop (16 * done) bytes) l (2 * p) run)

-- the high halves are added
pub high_added : (bytes : List ℕ) (p l done run old pair new : ℕ) → done + run ≤ 255 → run ≤ 15
    → new ≡ (old + pair / 16) % 256 → old ≡ lane_count bytes l (2 * p + 1) done
    → pair ≡ lane_count (drop (16 * done) bytes) l (2 * p) run + 16 * lane_count (drop (16 * done) bytes) l (2 * p + 1) run
    → new ≡ lane_count bytes l (2 * p + 1) (done + run)
high_added bytes p l done run old pair new few short is before more =
    omega (arith, few, short, is, before, more, count_add bytes l (2 * p + 1) done run, count_le bytes l (2 * p + 1) (done + run), count_le (drop (16 * done) bytes) l (2 * p) run)

-- the tables of units
pub units_0 : (k : ℕ) → k < 9 → slice_index (1 ∷ 16 ∷ 0 ∷ 0 ∷ 0 ∷ 0 ∷ 0 ∷ 0 ∷ 0 ∷ 0 ∷ 0 ∷ 0 ∷ 0 ∷ 0 ∷ 0 ∷ 0 ∷ []) k ≡ pair_unit 0 k
units_0 = below_nine _ refl refl refl refl refl refl refl refl refl

pub units_1 : (k : ℕ) → k < 9 → slice_index (0 ∷ 0 ∷ 1 ∷ 16 ∷ 0 ∷ 0 ∷ 0 ∷ 0 ∷ 0 ∷ 0 ∷ 0 ∷ 0 ∷ 0 ∷ 0 ∷ 0 ∷ 0 ∷ []) k ≡ pair_unit 1 k
units_1 = below_nine _ refl refl refl refl refl refl refl refl refl

pub units_2 : (k : ℕ) → k < 9 → slice_index (0 ∷ 0 ∷ 0 ∷ 0 ∷ 1 ∷ 16 ∷ 0 ∷ 0 ∷ 0 ∷ 0 ∷ 0 ∷ 0 ∷ 0 ∷ 0 ∷ 0 ∷ 0 ∷ []) k ≡ pair_unit 2 k
units_2 = below_nine _ refl refl refl refl refl refl refl refl refl

pub units_3 : (k : ℕ) → k < 9 → slice_index (0 ∷ 0 ∷ 0 ∷ 0 ∷ 0 ∷ 0 ∷ 1 ∷ 16 ∷ 0 ∷ 0 ∷ 0 ∷ 0 ∷ 0 ∷ 0 ∷ 0 ∷ 0 ∷ []) k ≡ pair_unit 3 k
units_3 = below_nine _ refl refl refl refl refl refl refl refl refl

pub units_4 : (k : ℕ) → k < 9 → slice_index (0 ∷ 0 ∷ 0 ∷ 0 ∷ 0 ∷ 0 ∷ 0 ∷ 0 ∷ 1 ∷ 0 ∷ 0 ∷ 0 ∷ 0 ∷ 0 ∷ 0 ∷ 0 ∷ []) k ≡ pair_unit 4 k
units_4 = below_nine _ refl refl refl refl refl refl refl refl refl

-- nothing is counted in zeros
pub zero_counts : (m n k l : ℕ) → k < m → l < n → count_of (replicate m (replicate n 0)) k l ≡ 0
zero_counts m n k l hk hl = ap (λ (v : List ℕ). get_or v l 0) (get_or-replicate m k (replicate n 0) [] hk) ∙ get_or-replicate n l 0 0 hl

-- the group of an index that is counted from another start
same_group : (s at r : ℕ) → r < 4 → ((s + at) % 4 == (s + r) % 4) ≡ (at % 4 == r)
same_group s at r low = cases (at % 4 == r) refl
  where
    cases : (d : Bool) → (at % 4 == r) ≡ d → ((s + at) % 4 == (s + r) % 4) ≡ d
    cases true e = let q = eqb-true (at % 4) r e in eq-eqb _ _ (omega (arith, q))
    cases false e = ne_eqb _ _ (λ q. eqb-false (at % 4) r e (omega (arith, q)))

started : (s at : ℕ) (bytes : List ℕ) (r k : ℕ) → r < 4 → byte_counts (s + at) bytes ((s + r) % 4) k ≡ byte_counts at bytes r k
unfolding byte_counts
started s at [] r k low = refl
started s at (b ∷ bs) r k low = let e : s + at + 1 ≡ s + (at + 1) = omega arith in rw (e, same_group s at r low, started s (at + 1) bs r k low) refl

-- the counts of whole blocks by lanes, and then of the rest
lanes_counted : (n : ℕ) (bytes : List ℕ) (r k : ℕ) → r < 4 → 16 * n ≤ length bytes
    → byte_counts 0 bytes r k
    ≡ lane_count bytes r k n + lane_count bytes (r + 4) k n + lane_count bytes (r + 8) k n + lane_count bytes (r + 12) k n + byte_counts 0 (drop (16 * n) bytes) r k
unfolding byte_counts lane_count
lanes_counted zero bytes r k low most = omega arith
lanes_counted (suc n) (a ∷ b ∷ c ∷ d ∷ u ∷ f ∷ g ∷ h ∷ i ∷ j ∷ l ∷ m ∷ o ∷ p ∷ q ∷ t ∷ rest) zero k low most =
    let more : 16 * suc n ≡ 16 + 16 * n = omega arith in
    let left = ap (λ (y : List ℕ). byte_counts 0 y 0 k) (drop-drop (16 * n) 16 (a ∷ b ∷ c ∷ d ∷ u ∷ f ∷ g ∷ h ∷ i ∷ j ∷ l ∷ m ∷ o ∷ p ∷ q ∷ t ∷ rest)) in
    rw more (omega (arith, left, lanes_counted n rest 0 k low (omega (arith, most)), started 16 0 rest 0 k low))
lanes_counted (suc n) (a ∷ b ∷ c ∷ d ∷ u ∷ f ∷ g ∷ h ∷ i ∷ j ∷ l ∷ m ∷ o ∷ p ∷ q ∷ t ∷ rest) (suc zero) k low most =
    let more : 16 * suc n ≡ 16 + 16 * n = omega arith in
    let left = ap (λ (y : List ℕ). byte_counts 0 y 1 k) (drop-drop (16 * n) 16 (a ∷ b ∷ c ∷ d ∷ u ∷ f ∷ g ∷ h ∷ i ∷ j ∷ l ∷ m ∷ o ∷ p ∷ q ∷ t ∷ rest)) in
    rw more (omega (arith, left, lanes_counted n rest 1 k low (omega (arith, most)), started 16 0 rest 1 k low))
lanes_counted (suc n) (a ∷ b ∷ c ∷ d ∷ u ∷ f ∷ g ∷ h ∷ i ∷ j ∷ l ∷ m ∷ o ∷ p ∷ q ∷ t ∷ rest) (suc (suc zero)) k low most =
    let more : 16 * suc n ≡ 16 + 16 * n = omega arith in
    let left = ap (λ (y : List ℕ). byte_counts 0 y 2 k) (drop-drop (16 * n) 16 (a ∷ b ∷ c ∷ d ∷ u ∷ f ∷ g ∷ h ∷ i ∷ j ∷ l ∷ m ∷ o ∷ p ∷ q ∷ t ∷ rest)) in
    rw more (omega (arith, left, lanes_counted n rest 2 k low (omega (arith, most)), started 16 0 rest 2 k low))
lanes_counted (suc n) (a ∷ b ∷ c ∷ d ∷ u ∷ f ∷ g ∷ h ∷ i ∷ j ∷ l ∷ m ∷ o ∷ p ∷ q ∷ t ∷ rest) (suc (suc (suc zero))) k low most =
    let more : 16 * suc n ≡ 16 + 16 * n = omega arith in
    let left = ap (λ (y : List ℕ). byte_counts 0 y 3 k) (drop-drop (16 * n) 16 (a ∷ b ∷ c ∷ d ∷ u ∷ f ∷ g ∷ h ∷ i ∷ j ∷ l ∷ m ∷ o ∷ p ∷ q ∷ t ∷ rest)) in
    rw more (omega (arith, left, lanes_counted n rest 3 k low (omega (arith, most)), started 16 0 rest 3 k low))
lanes_counted n bytes r k low most = absurd (omega (arith, low, most))

-- the vectors of some blocks have what the counts of the bytes lose with them
pub part_counted : (b : List ℕ) (vectors : List (List ℕ)) (start done n g k : ℕ) → AreCounts vectors (take (length b - 16 * done) (drop (16 * done) b)) n → g < 4 → k < 9
    → 16 * (done + n) ≤ length b
    → group_sum (slice_index_or vectors k []) g + byte_counts start (drop (16 * (done + n)) b) ((start + g) % 4) k ≡ byte_counts start (drop (16 * done) b) ((start + g) % 4) k
part_counted b vectors start done n g k are low less most =
    let rest = drop (16 * done) b in
    let o : 16 * done + 16 * n ≡ 16 * (done + n) = omega arith in
    let z : start + 0 ≡ start = omega arith in
    let next : drop (16 * n) rest ≡ drop (16 * (done + n)) b = rw o at (drop-drop (16 * n) (16 * done) b) in
    let all = take_rest b (16 * done) in
    let lane : (l : ℕ) → l < 16 → count_of vectors k l ≡ lane_count rest l k n = λ l h. rw all at (are k l less h) in
    let here = rw z at (started start 0 rest g k low) in
    let there = rw z at (started start 0 (drop (16 * n) rest) g k low) in
    rw (sym next)
    (omega (
      arith,
      here,
      there,
      lanes_counted n rest g k low (omega (arith, length-drop (16 * done) b)),
      lane g (omega arith),
      lane (g + 4) (omega arith),
      lane (g + 8) (omega arith),
      lane (g + 12) (omega arith),
    ))
