-- Blocks of 16 bytes: four bytes of each group.
use Rattle.std.proofs.Common.{◌≡◌, ◌∙◌, ℕ, zero, suc, ◌+◌, ◌-◌, ◌*◌, ◌<◌, ◌≤◌, List, [], ◌∷◌, ◌++◌, length, get_or, set, take, drop, refl, sym, ap, ap₂, arith}
use Rattle.std.proofs.lemmas.List.{length-drop, length-take, take-append-drop, take_all, take_more, take_more_set, take_rest}
use Rattle.std.proofs.lemmas.Simd.{length-chunk, take_more_put_chunk}
use Rattle.std.proofs.Math.Seq.{take-add}
use Rattle.std.specs.Simd.Lanes.{chunk, put_chunk}
use Rattle.xet_group.specs.Groups.{every_fourth, groups_of}
use Rattle.xet_group.proofs.Fourths.{drop-fourth, fourth-append, fourth-drop, fourth_at}

-- the lanes g, g + 4, g + 8 and g + 12 of the first 16 bytes
first_lanes : (y : List ℕ) (g : ℕ) → g < 4 → 16 ≤ length y
    → get_or (take 16 y ++ take 16 y) g 0 ∷ get_or (take 16 y ++ take 16 y) (g + 4) 0 ∷ get_or (take 16 y ++ take 16 y) (g + 8) 0 ∷ get_or (take 16 y ++ take 16 y) (g + 12) 0 ∷ []
    ≡ take 4 (every_fourth g y)
unfolding every_fourth
first_lanes (a ∷ b ∷ c ∷ d ∷ e ∷ f ∷ g ∷ h ∷ i ∷ j ∷ k ∷ l ∷ m ∷ n ∷ o ∷ p ∷ rest) zero low most = refl
first_lanes (a ∷ b ∷ c ∷ d ∷ e ∷ f ∷ g ∷ h ∷ i ∷ j ∷ k ∷ l ∷ m ∷ n ∷ o ∷ p ∷ rest) (suc zero) low most = refl
first_lanes (a ∷ b ∷ c ∷ d ∷ e ∷ f ∷ g ∷ h ∷ i ∷ j ∷ k ∷ l ∷ m ∷ n ∷ o ∷ p ∷ rest) (suc (suc zero)) low most = refl
first_lanes (a ∷ b ∷ c ∷ d ∷ e ∷ f ∷ g ∷ h ∷ i ∷ j ∷ k ∷ l ∷ m ∷ n ∷ o ∷ p ∷ rest) (suc (suc (suc zero))) low most = refl
first_lanes y g low most = absurd (omega (arith, low, most))

-- those lanes of block i are bytes 4 i to 4 i + 3 of group g
pub block_lanes : (b : List ℕ) (i g : ℕ) → g < 4 → 16 * i + 16 ≤ length b
    → get_or (chunk (16 * i) 16 b ++ chunk (16 * i) 16 b) g 0 ∷ get_or (chunk (16 * i) 16 b ++ chunk (16 * i) 16 b) (g + 4) 0
    ∷ get_or (chunk (16 * i) 16 b ++ chunk (16 * i) 16 b) (g + 8) 0 ∷ get_or (chunk (16 * i) 16 b ++ chunk (16 * i) 16 b) (g + 12) 0 ∷ []
    ≡ chunk (4 * i) 4 (every_fourth g b)
block_lanes b i g low most =
    let e : 4 * (4 * i) + g ≡ 16 * i + g = omega arith in
    first_lanes (drop (16 * i) b) g low (omega (arith, length-drop (16 * i) b))
    ∙ ap (take 4) (fourth-drop (16 * i) g b ∙ sym (rw e at (drop-fourth (4 * i) g b)))

-- four bytes more are stored, where the bytes before them are those of a list
pub part_stored : (i : ℕ) (old whole : List ℕ) → 4 * i + 4 ≤ length old → 4 * i + 4 ≤ length whole → take (4 * i) old ≡ take (4 * i) whole
    → take (4 * (i + 1)) (put_chunk (4 * i) old (chunk (4 * i) 4 whole)) ≡ take (4 * (i + 1)) whole
part_stored i old whole room most kept =
    let len : length (chunk (4 * i) 4 whole) ≡ 4 = length-chunk (4 * i) 4 whole most in
    let e : 4 * (i + 1) ≡ 4 * i + 4 = omega arith in
    take_more_put_chunk (4 * i) old (chunk (4 * i) 4 whole) (4 * (i + 1)) (omega arith) (omega arith)
    ∙ ap (λ (l : List ℕ). l ++ chunk (4 * i) 4 whole) kept
    ∙ sym (rw e (take-add (4 * i) 4 whole))

-- one byte more of group g is stored
pub byte_stored : (g i : ℕ) (old b : List ℕ) (x : ℕ) → i < length old → i < length (every_fourth g b) → x ≡ get_or b (4 * i + g) 0
    → take i old ≡ take i (every_fourth g b) → take (i + 1) (set old i x) ≡ take (i + 1) (every_fourth g b)
byte_stored g i old b x room most value kept =
    take_more_set old i x room ∙ ap₂ (λ (l : List ℕ) (y : ℕ). l ++ y ∷ []) kept (value ∙ sym (fourth_at g i b)) ∙ sym (take_more (every_fourth g b) i 0 most)

-- two lists of at most n items are one where their prefixes are
pub whole_stored : (n : ℕ) (xs ys : List ℕ) → length xs ≤ n → length ys ≤ n → take n xs ≡ take n ys → xs ≡ ys
whole_stored n xs ys le le' e = sym (take_all n xs le) ∙ e ∙ take_all n ys le'

-- four lists of four bytes, joined in pairs, and read byte by byte in turn, are the groups of what is read
pub four_lanes : (p q r s : List ℕ) → length p ≡ 4 → length q ≡ 4 → length r ≡ 4 → length s ≡ 4
    → groups_of (
    get_or (p ++ q) 0 0 ∷ get_or (p ++ q) 4 0 ∷ get_or (r ++ s) 0 0 ∷ get_or (r ++ s) 4 0
    ∷ get_or (p ++ q) 1 0 ∷ get_or (p ++ q) 5 0 ∷ get_or (r ++ s) 1 0 ∷ get_or (r ++ s) 5 0
    ∷ get_or (p ++ q) 2 0 ∷ get_or (p ++ q) 6 0 ∷ get_or (r ++ s) 2 0 ∷ get_or (r ++ s) 6 0
    ∷ get_or (p ++ q) 3 0 ∷ get_or (p ++ q) 7 0 ∷ get_or (r ++ s) 3 0 ∷ get_or (r ++ s) 7 0 ∷ []) ≡ p ∷ q ∷ r ∷ s ∷ []
unfolding every_fourth
four_lanes (a ∷ b ∷ c ∷ d ∷ []) (e ∷ f ∷ g ∷ h ∷ []) (i ∷ j ∷ k ∷ l ∷ []) (m ∷ n ∷ o ∷ p ∷ []) lp lq lr ls = refl
four_lanes p q r s lp lq lr ls = absurd (omega (arith, lp, lq, lr, ls))

abbrev group_at : List (List ℕ) → ℕ → List ℕ
group_at groups n = get_or groups n []

-- the groups of two lists, of which the first has whole fours
pub groups_joined : (m : ℕ) (xs ys p q r s p' q' r' s' : List ℕ) → length xs ≡ 4 * m → groups_of xs ≡ p ∷ q ∷ r ∷ s ∷ [] → groups_of ys ≡ p' ∷ q' ∷ r' ∷ s' ∷ []
    → groups_of (xs ++ ys) ≡ (p ++ p') ∷ (q ++ q') ∷ (r ++ r') ∷ (s ++ s') ∷ []
groups_joined m xs ys p q r s p' q' r' s' len front back =
    let part : (n : ℕ) → n < 4 → every_fourth n (xs ++ ys) ≡ every_fourth n xs ++ every_fourth n ys = λ n low. fourth-append m n xs ys low len in
    let first = part 0 (omega arith) in
    let second = part 1 (omega arith) in
    let third = part 2 (omega arith) in
    let fourth = part 3 (omega arith) in
    (λ i. first i ∷ second i ∷ third i ∷ fourth i ∷ [])
    ∙ ap₂ (λ (f g : List (List ℕ)). (group_at f 0 ++ group_at g 0) ∷ (group_at f 1 ++ group_at g 1) ∷ (group_at f 2 ++ group_at g 2) ∷ (group_at f 3 ++ group_at g 3) ∷ []) front back

-- one more block is stored
pub block_stored : (i : ℕ) (out block p q r s : List ℕ) → 16 * i + 16 ≤ length out → length block ≡ 16
    → groups_of block ≡ chunk (4 * i) 4 p ∷ chunk (4 * i) 4 q ∷ chunk (4 * i) 4 r ∷ chunk (4 * i) 4 s ∷ []
    → groups_of (take (16 * i) out) ≡ take (4 * i) p ∷ take (4 * i) q ∷ take (4 * i) r ∷ take (4 * i) s ∷ []
    → groups_of (take (16 * (i + 1)) (put_chunk (16 * i) out block)) ≡ take (4 * (i + 1)) p ∷ take (4 * (i + 1)) q ∷ take (4 * (i + 1)) r ∷ take (4 * (i + 1)) s ∷ []
block_stored i out block p q r s room len new kept =
    let e : 4 * (i + 1) ≡ 4 * i + 4 = omega arith in
    let part : (l : List ℕ) → take (4 * i) l ++ chunk (4 * i) 4 l ≡ take (4 * (i + 1)) l = λ l. sym (rw e (take-add (4 * i) 4 l)) in
    ap groups_of (take_more_put_chunk (16 * i) out block (16 * (i + 1)) (omega arith) (omega arith))
    ∙ groups_joined (4 * i) (take (16 * i) out) block _ _ _ _ _ _ _ _ (omega (arith, length-take (16 * i) out)) kept new
    ∙ (λ j. part p j ∷ part q j ∷ part r j ∷ part s j ∷ [])

-- the groups of whole blocks, and then of the rest
pub groups_completed : (m : ℕ) (xs ys p q r s : List ℕ) → length xs ≡ 4 * m
    → groups_of xs ≡ take m p ∷ take m q ∷ take m r ∷ take m s ∷ []
    → groups_of ys ≡ take (length p - m) (drop m p) ∷ take (length q - m) (drop m q) ∷ take (length r - m) (drop m r) ∷ take (length s - m) (drop m s) ∷ []
    → groups_of (xs ++ ys) ≡ p ∷ q ∷ r ∷ s ∷ []
groups_completed m xs ys p q r s len front back =
    let whole : (l : List ℕ) → take m l ++ take (length l - m) (drop m l) ≡ l = λ l. ap (λ (t : List ℕ). take m l ++ t) (take_rest l m) ∙ take-append-drop m l in
    groups_joined m xs ys _ _ _ _ _ _ _ _ len front back ∙ (λ j. whole p j ∷ whole q j ∷ whole r j ∷ whole s j ∷ [])
