-- The bytes at every fourth place, one by one, and how many they are.
use Rattle.std.proofs.Common.{◌≡◌, ◌∙◌, ℕ, zero, suc, ◌+◌, ◌-◌, ◌*◌, ◌/◌, ◌<◌, ◌≤◌, List, [], ◌∷◌, ◌++◌, length, get_or, slice_get, unwrap_or, Option, drop, refl, sym, ap, arith}
use Rattle.std.proofs.lemmas.Option.{unwrap_or-slice_get}
use Rattle.xet_group.specs.Groups.{every_fourth}

-- the first of them, and the rest
pub fourth_step : (n : ℕ) (bytes : List ℕ) → n < length bytes → every_fourth n bytes ≡ get_or bytes n 0 ∷ every_fourth (n + 4) bytes
unfolding every_fourth
fourth_step n [] here = absurd (omega arith)
fourth_step zero (b ∷ bs) here = refl
fourth_step (suc n) (b ∷ bs) here = let e : suc n + 4 ≡ suc (n + 4) = omega arith in rw e (fourth_step n bs (omega arith))

-- there is none past the end
pub fourth_none : (n : ℕ) (bytes : List ℕ) → length bytes ≤ n → every_fourth n bytes ≡ []
unfolding every_fourth
fourth_none n [] past = refl
fourth_none zero (b ∷ bs) past = absurd (omega arith)
fourth_none (suc n) (b ∷ bs) past = fourth_none n bs (omega arith)

-- where each stands
pub fourth_stands : (n j : ℕ) (bytes : List ℕ) → slice_get (every_fourth n bytes) j ≡ slice_get bytes (4 * j + n)
unfolding every_fourth
fourth_stands n j [] = refl
fourth_stands zero zero (b ∷ bs) = refl
fourth_stands zero (suc j) (b ∷ bs) = let e : 4 * suc j + 0 ≡ suc (4 * j + 3) = omega arith in rw e (fourth_stands 3 j bs)
fourth_stands (suc n) j (b ∷ bs) = let e : 4 * j + suc n ≡ suc (4 * j + n) = omega arith in rw e (fourth_stands n j bs)

-- four lists of which none is longer than the one before it, and the first is at most one longer
-- than the last
pub record AreNear (p q r s : List ℕ) : Type 0 where
  pub third : length s ≤ length r
  pub second : length r ≤ length q
  pub first : length q ≤ length p
  pub near : length p ≤ length s + 1

-- so are the groups
pub groups_near : (bytes : List ℕ) → AreNear (every_fourth 0 bytes) (every_fourth 1 bytes) (every_fourth 2 bytes) (every_fourth 3 bytes)
unfolding every_fourth
groups_near [] = record { third = omega arith; second = omega arith; first = omega arith; near = omega arith }
groups_near (a ∷ []) = record { third = omega arith; second = omega arith; first = omega arith; near = omega arith }
groups_near (a ∷ b ∷ []) = record { third = omega arith; second = omega arith; first = omega arith; near = omega arith }
groups_near (a ∷ b ∷ c ∷ []) = record { third = omega arith; second = omega arith; first = omega arith; near = omega arith }
groups_near (a ∷ b ∷ c ∷ d ∷ rest) =
    let h = groups_near rest in
    record { third = omega (arith, h.third); second = omega (arith, h.second); first = omega (arith, h.first); near = omega (arith, h.near) }

-- each byte is in one of them
pub groups_lengths : (bytes : List ℕ) → length (every_fourth 0 bytes) + length (every_fourth 1 bytes) + length (every_fourth 2 bytes) + length (every_fourth 3 bytes) ≡ length bytes
unfolding every_fourth
groups_lengths [] = refl
groups_lengths (a ∷ []) = refl
groups_lengths (a ∷ b ∷ []) = refl
groups_lengths (a ∷ b ∷ c ∷ []) = refl
groups_lengths (a ∷ b ∷ c ∷ d ∷ rest) = omega (arith, groups_lengths rest)

-- how many they are
pub length-fourth : (n : ℕ) (bytes : List ℕ) → length (every_fourth n bytes) ≡ (length bytes + 3 - n) / 4
unfolding every_fourth
length-fourth n [] = omega arith
length-fourth zero (b ∷ bs) = omega (arith, length-fourth 3 bs)
length-fourth (suc n) (b ∷ bs) = omega (arith, length-fourth n bs)

-- all but the first m of them
pub drop-fourth : (m n : ℕ) (bytes : List ℕ) → drop m (every_fourth n bytes) ≡ every_fourth (4 * m + n) bytes
unfolding every_fourth
drop-fourth zero n bytes = let e : 4 * 0 + n ≡ n = omega arith in rw e refl
drop-fourth (suc m) n [] = refl
drop-fourth (suc m) zero (b ∷ bs) = let e : 4 * suc m + 0 ≡ suc (4 * m + 3) = omega arith in rw e (drop-fourth m 3 bs)
drop-fourth (suc m) (suc n) (b ∷ bs) = let e : 4 * suc m + suc n ≡ suc (4 * suc m + n) = omega arith in rw e (drop-fourth (suc m) n bs)

-- those after a prefix
pub fourth-drop : (k n : ℕ) (bytes : List ℕ) → every_fourth n (drop k bytes) ≡ every_fourth (k + n) bytes
unfolding every_fourth
fourth-drop zero n bytes = let e : 0 + n ≡ n = omega arith in rw e refl
fourth-drop (suc k) n [] = refl
fourth-drop (suc k) n (b ∷ bs) = let e : suc k + n ≡ suc (k + n) = omega arith in rw e (fourth-drop k n bs)

-- those of two lists, of which the first has whole fours
pub fourth-append : (m n : ℕ) (xs ys : List ℕ) → n < 4 → length xs ≡ 4 * m → every_fourth n (xs ++ ys) ≡ every_fourth n xs ++ every_fourth n ys
unfolding every_fourth
fourth-append zero n [] ys low len = refl
fourth-append (suc m) zero (a ∷ b ∷ c ∷ d ∷ xs) ys low len = ap (λ (l : List ℕ). a ∷ l) (fourth-append m 0 xs ys low (omega (arith, len)))
fourth-append (suc m) (suc zero) (a ∷ b ∷ c ∷ d ∷ xs) ys low len = ap (λ (l : List ℕ). b ∷ l) (fourth-append m 1 xs ys low (omega (arith, len)))
fourth-append (suc m) (suc (suc zero)) (a ∷ b ∷ c ∷ d ∷ xs) ys low len = ap (λ (l : List ℕ). c ∷ l) (fourth-append m 2 xs ys low (omega (arith, len)))
fourth-append (suc m) (suc (suc (suc zero))) (a ∷ b ∷ c ∷ d ∷ xs) ys low len = ap (λ (l : List ℕ). d ∷ l) (fourth-append m 3 xs ys low (omega (arith, len)))
fourth-append m n xs ys low len = absurd (omega (arith, low, len))

-- the byte at an index
pub fourth_at : (n j : ℕ) (bytes : List ℕ) → get_or (every_fourth n bytes) j 0 ≡ get_or bytes (4 * j + n) 0
fourth_at n j bytes =
    sym (unwrap_or-slice_get (every_fourth n bytes) j 0) ∙ ap (λ (b : Option ℕ). unwrap_or b 0) (fourth_stands n j bytes) ∙ unwrap_or-slice_get bytes (4 * j + n) 0
