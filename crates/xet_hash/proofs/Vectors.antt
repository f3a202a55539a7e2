-- A step on vectors is the step on the words of each lane.
use Rattle.std.proofs.Common.{◌≡◌, ℕ, zero, suc, ◌+◌, ◌-◌, ◌*◌, ◌/◌, ◌%◌, ◌^◌, ◌<◌, List, [], ◌∷◌, length, replicate, map, take, drop, ◌++◌, ◌≤◌, slice_index, slice_index_or, slice_set, bit_or, bit_xor, refl, sym, ap, ap₂, ◌∙◌, add-one, arith}
use Rattle.std.specs.Int.{w32, rotate_right}
use Rattle.std.specs.List.{range_with_len}
use Rattle.std.specs.Simd.Lanes.{zip2}
use Rattle.std.proofs.lemmas.List.{append-nil, drop-drop, drop-take, take-take}
use Rattle.std.proofs.lemmas.Nat.{mul-le}
use Rattle.std.proofs.lemmas.Simd.{get_or-chunk, length-chunk, get_or-replicate, get_or-zip2, length-replicate, length-zip2}
use Rattle.xet_hash.specs.Blake3.{block_words, chunk_after, chunk_end, chunk_value, compress, full_blocks, start_flag, word_at, words}
use Rattle.std.specs.Int.Bits.{or_zero_r}
use Rattle.xet_hash.specs.theorems.Words.{reads, reads_all}
use Rattle.xet_hash.proofs.Tree.{chunk_after_next, chunk_done}
use Rattle.xet_hash.specs.internal.Lanes.{lane}

-- a vector is set
pub lane_set : (j : ℕ) (v : List (List ℕ)) (i : ℕ) (x : List ℕ) → lane j (slice_set v i x) ≡ slice_set (lane j v) i (slice_index x j)
lane_set j [] i x = refl
lane_set j (y ∷ v) zero x = refl
lane_set j (y ∷ v) (suc i) x = ap (λ (ys : List ℕ). slice_index y j ∷ ys) (lane_set j v i x)

-- a vector is read
pub lane_word : (j : ℕ) (v : List (List ℕ)) (i : ℕ) → slice_index (slice_index_or v i []) j ≡ slice_index (lane j v) i
lane_word j [] i = refl
lane_word j (y ∷ v) zero = refl
lane_word j (y ∷ v) (suc i) = lane_word j v i

-- two shifts of each lane and an or are a rotation
pub shifts_rotate : (n k : ℕ) (a b : List ℕ) (j : ℕ) → length a ≡ n → length b ≡ n → 0 < k → k < 32 → j < n
    → slice_index (zip2 bit_or (zip2 (λ x s. x / 2 ^ s) (zip2 bit_xor a b) (replicate n k)) (zip2 (λ x s. x * 2 ^ s % 2 ^ 32) (zip2 bit_xor a b) (replicate n (32 - k)))) j
    ≡ rotate_right w32 (bit_xor (slice_index a j) (slice_index b j)) k
shifts_rotate n k a b j la lb low high lt =
    let xs : List ℕ = zip2 bit_xor a b in
    let lx : length xs ≡ n = length-zip2 bit_xor a b (omega arith) ∙ la in
    let lk : length (replicate n k) ≡ n = length-replicate n k in
    let lm : length (replicate n (32 - k)) ≡ n = length-replicate n (32 - k) in
    let down : List ℕ = zip2 (λ x s. x / 2 ^ s) xs (replicate n k) in
    let up : List ℕ = zip2 (λ x s. x * 2 ^ s % 2 ^ 32) xs (replicate n (32 - k)) in
    let ld : length down ≡ n = length-zip2 (λ (x s : ℕ). x / 2 ^ s) xs (replicate n k) (omega arith) ∙ lx in
    let lu : length up ≡ n = length-zip2 (λ (x s : ℕ). x * 2 ^ s % 2 ^ 32) xs (replicate n (32 - k)) (omega arith) ∙ lx in
    let left : k % 32 ≡ k = omega arith in
    let right : (32 - k) % 32 ≡ 32 - k = omega arith in
    rw (
      get_or-zip2 bit_or down up j 0 0 0 (omega arith) (omega arith),
      get_or-zip2 (λ (x s : ℕ). x / 2 ^ s) xs (replicate n k) j 0 0 0 (omega arith) (omega arith),
      get_or-zip2 (λ (x s : ℕ). x * 2 ^ s % 2 ^ 32) xs (replicate n (32 - k)) j 0 0 0 (omega arith) (omega arith),
      get_or-zip2 bit_xor a b j 0 0 0 (omega arith) (omega arith),
      get_or-replicate n j k 0 lt,
      get_or-replicate n j (32 - k) 0 lt,
      left,
      right,
    ) refl

-- a property of each of eight lanes
pub below_eight : (P : ℕ → Type 0) → P 0 → P 1 → P 2 → P 3 → P 4 → P 5 → P 6 → P 7 → (j : ℕ) → j < 8 → P j
below_eight P p0 p1 p2 p3 p4 p5 p6 p7 zero h = p0
below_eight P p0 p1 p2 p3 p4 p5 p6 p7 (suc zero) h = p1
below_eight P p0 p1 p2 p3 p4 p5 p6 p7 (suc (suc zero)) h = p2
below_eight P p0 p1 p2 p3 p4 p5 p6 p7 (suc (suc (suc zero))) h = p3
below_eight P p0 p1 p2 p3 p4 p5 p6 p7 (suc (suc (suc (suc zero)))) h = p4
below_eight P p0 p1 p2 p3 p4 p5 p6 p7 (suc (suc (suc (suc (suc zero))))) h = p5
below_eight P p0 p1 p2 p3 p4 p5 p6 p7 (suc (suc (suc (suc (suc (suc zero)))))) h = p6
below_eight P p0 p1 p2 p3 p4 p5 p6 p7 (suc (suc (suc (suc (suc (suc (suc zero))))))) h = p7
below_eight P p0 p1 p2 p3 p4 p5 p6 p7 (suc (suc (suc (suc (suc (suc (suc (suc n)))))))) h = absurd (omega arith)

-- a word of a slice
pub word_in : (b : List ℕ) (p n i : ℕ) → i + 4 ≤ n → word_at (take n (drop p b)) i ≡ word_at b (p + i)
word_in b p n i fits =
    let e1 : p + (i + 1) ≡ p + i + 1 = omega arith in
    let e2 : p + (i + 2) ≡ p + i + 2 = omega arith in
    let e3 : p + (i + 3) ≡ p + i + 3 = omega arith in
    rw (
      get_or-chunk p n b i 0 (omega arith),
      get_or-chunk p n b (i + 1) 0 (omega arith),
      get_or-chunk p n b (i + 2) 0 (omega arith),
      get_or-chunk p n b (i + 3) 0 (omega arith),
      e1,
      e2,
      e3,
    ) refl

-- the words of the block at byte p
pub block_at : (b : List ℕ) (p : ℕ) → p + 64 ≤ length b
    → word_at b p ∷ word_at b (p + 4) ∷ word_at b (p + 8) ∷ word_at b (p + 12)
    ∷ word_at b (p + 16) ∷ word_at b (p + 20) ∷ word_at b (p + 24) ∷ word_at b (p + 28)
    ∷ word_at b (p + 32) ∷ word_at b (p + 36) ∷ word_at b (p + 40) ∷ word_at b (p + 44)
    ∷ word_at b (p + 48) ∷ word_at b (p + 52) ∷ word_at b (p + 56) ∷ word_at b (p + 60) ∷ []
    ≡ block_words (take 64 (drop p b))
unfolding block_words words
block_at b p fits =
    let part : List ℕ = take 64 (drop p b) in
    let len : length part ≡ 64 = length-chunk p 64 b fits in
    let none : 64 - length part ≡ 0 = omega arith in
    let whole : part ++ replicate (64 - length part) 0 ≡ part = rw none (append-nil part) in
    let start : p + 0 ≡ p = omega arith in
    rw (
      whole,
      word_in b p 64 0 (omega arith),
      word_in b p 64 4 (omega arith),
      word_in b p 64 8 (omega arith),
      word_in b p 64 12 (omega arith),
      word_in b p 64 16 (omega arith),
      word_in b p 64 20 (omega arith),
      word_in b p 64 24 (omega arith),
      word_in b p 64 28 (omega arith),
      word_in b p 64 32 (omega arith),
      word_in b p 64 36 (omega arith),
      word_in b p 64 40 (omega arith),
      word_in b p 64 44 (omega arith),
      word_in b p 64 48 (omega arith),
      word_in b p 64 52 (omega arith),
      word_in b p 64 56 (omega arith),
      word_in b p 64 60 (omega arith),
      start,
    ) refl

-- a property of each of four lanes
pub below_four : (P : ℕ → Type 0) → P 0 → P 1 → P 2 → P 3 → (j : ℕ) → j < 4 → P j
below_four P p0 p1 p2 p3 zero h = p0
below_four P p0 p1 p2 p3 (suc zero) h = p1
below_four P p0 p1 p2 p3 (suc (suc zero)) h = p2
below_four P p0 p1 p2 p3 (suc (suc (suc zero))) h = p3
below_four P p0 p1 p2 p3 (suc (suc (suc (suc n)))) h = absurd (omega arith)

-- each of eight places that are the same distance from one another is at most the last
pub up_to_last : (j distance : ℕ) → j < 8 → j * distance ≤ 7 * distance
up_to_last j distance h = mul-le j distance 7 distance (omega arith) (omega arith)

-- a slice of a slice
pub slice_of_slice : (b : List ℕ) (p i n m : ℕ) → i + n ≤ m → take n (drop i (take m (drop p b))) ≡ take n (drop (p + i) b)
slice_of_slice b p i n m fits =
    let whole : i + (m - i) ≡ m = omega arith in
    let inner : drop i (take m (drop p b)) ≡ take (m - i) (drop i (drop p b)) =
    ap (λ (k : ℕ). drop i (take k (drop p b))) (sym whole) ∙ drop-take i (m - i) (drop p b) in
    rw (inner, take-take n (m - i) (drop i (drop p b)) (omega arith), drop-drop i p b) refl

-- the last block of the chunk at byte p
pub last_part : (b : List ℕ) (p : ℕ) → p + 1024 ≤ length b → take 64 (drop (p + 960) b) ≡ drop 960 (take 1024 (drop p b))
last_part b p fits = sym (drop-take 960 64 (drop p b) ∙ rw (drop-drop 960 p b) refl)

-- one more block of the chunk at byte p is compressed
pub chunk_lane_next : (key : List ℕ) (flags t : ℕ) (b : List ℕ) (p n : ℕ) (h r : List ℕ) → n < 15
    → h ≡ chunk_after key flags t (take 1024 (drop p b)) n
    → r ≡ compress h (block_words (take 64 (drop (p + 64 * n) b))) t 64 (bit_or flags (start_flag n))
    → r ≡ chunk_after key flags t (take 1024 (drop p b)) (n + 1)
chunk_lane_next key flags t b p n h r low eh er =
    er ∙ rw (eh, sym (slice_of_slice b p (64 * n) 64 1024 (omega arith))) (sym (chunk_after_next key flags t (take 1024 (drop p b)) n))

-- the last block of the chunk at byte p is compressed
pub chunk_lane_done : (key : List ℕ) (flags t : ℕ) (b : List ℕ) (p : ℕ) (h r : List ℕ) → p + 1024 ≤ length b
    → h ≡ chunk_after key flags t (take 1024 (drop p b)) 15
    → r ≡ compress h (block_words (take 64 (drop (p + 960) b))) t 64 (bit_or flags chunk_end)
    → r ≡ chunk_value key flags 0 t (take 1024 (drop p b))
chunk_lane_done key flags t b p h r fits eh er =
    let c : List ℕ = take 1024 (drop p b) in
    let len : length c ≡ 1024 = length-chunk p 1024 b fits in
    let rest : List ℕ = take 64 (drop (p + 960) b) in
    let count : length rest ≡ 64 = length-chunk (p + 960) 64 b (omega arith) in
    let full : 15 ≡ full_blocks c = rw len refl in
    chunk_done key flags 0 t c 15 h rest r full eh (last_part b p fits)
    (er ∙ rw (count, or_zero_r flags, or_zero_r (bit_or flags chunk_end)) refl)

lanes_len : (j : ℕ) (v : List (List ℕ)) → length (lane j v) ≡ length v
lanes_len j [] = refl
lanes_len j (y ∷ v) = ap suc (lanes_len j v)

words_of_lanes : (j i : ℕ) (v : List (List ℕ)) (n : ℕ) → reads (lane j v) i n ≡ map (λ (k : ℕ). slice_index (slice_index_or v k []) j) (range_with_len i n)
words_of_lanes j i v zero = refl
words_of_lanes j i v (suc n) =
    rw add-one (ap₂ (λ (x : ℕ) (xs : List ℕ). x ∷ xs) (sym (lane_word j v i)) (words_of_lanes j (suc i) v n))

-- the words of a lane of n vectors, one by one from the vectors
pub words_of_lane : (j : ℕ) (v : List (List ℕ)) (n : ℕ) → length v ≡ n → lane j v ≡ map (λ (k : ℕ). slice_index (slice_index_or v k []) j) (range_with_len 0 n)
words_of_lane j v n len = reads_all (lane j v) n (lanes_len j v ∙ len) ∙ words_of_lanes j 0 v n
