-- The Gear hash, one byte at a time and over a window.
use Rattle.std.proofs.Common.{◌≡◌, ◌∙◌, ℕ, ◌+◌, ◌-◌, ◌*◌, ◌%◌, ◌^◌, ◌<◌, ◌≤◌, List, [], ◌∷◌, ◌++◌, length, take, drop, slice_index, refl, sym, ap, inl, inr, arith, length-append, length-drop}
use Rattle.std.proofs.lemmas.List.{take-append-drop, drop-drop}
use Rattle.std.proofs.lemmas.Bool.{cases_lt}
use Rattle.std.proofs.lemmas.Nat.{mul-mod_first, pow-add}
use Rattle.xet_cut.specs.Chunking.{gear_hash, last_bytes}

gear_hash-lt : (gear bs : List ℕ) → gear_hash gear bs < 2 ^ 64
unfolding gear_hash
gear_hash-lt gear [] = omega arith
gear_hash-lt gear (b ∷ bs) = omega arith

mod_mul_add : (a p f : ℕ) → (a % 2 ^ 64 * p + f) % 2 ^ 64 ≡ (a * p + f) % 2 ^ 64
mod_mul_add a p f = omega (arith, mul-mod_first a p (2 ^ 64))

-- what a further byte adds at the front
with_prefix : (g p q s t : ℕ) → (g * (p * q) + (s * q + t) % 2 ^ 64) % 2 ^ 64 ≡ ((g * p + s) * q + t) % 2 ^ 64
with_prefix g p q s t = omega arith

-- bytes that follow shift the sum of those before
pub gear_hash-append : (gear xs ys : List ℕ) → gear_hash gear (xs ++ ys) ≡ (gear_hash gear xs * 2 ^ length ys + gear_hash gear ys) % 2 ^ 64
unfolding gear_hash
gear_hash-append gear [] ys = omega (arith, gear_hash-lt gear ys)
gear_hash-append gear (x ∷ xs) ys =
    let g : ℕ = slice_index gear x in
    let p : ℕ = 2 ^ length xs in
    let q : ℕ = 2 ^ length ys in
    let s : ℕ = gear_hash gear xs in
    let t : ℕ = gear_hash gear ys in
    let both : 2 ^ length (xs ++ ys) ≡ p * q = ap (λ (n : ℕ). 2 ^ n) (length-append xs ys) ∙ pow-add 2 (length xs) (length ys) in
    rw (both, gear_hash-append gear xs ys) (with_prefix g p q s t ∙ sym (mod_mul_add (g * p + s) q t))

-- bytes more than 63 places before the last don't matter
pub gear_hash_window : (gear bs : List ℕ) (start : ℕ) → start ≤ length bs - 64 → gear_hash gear (drop start bs) ≡ gear_hash gear (last_bytes bs)
gear_hash_window gear bs start from = elim (cases_lt (length bs) 64) [
  | inl short ↦
      let e : length bs - 64 ≡ start = omega arith in rw e refl
  | inr long ↦
      let n : ℕ = length bs - 64 in
      let window : List ℕ = drop n bs in
      let before : List ℕ = take (n - start) (drop start bs) in
      let same : start + (n - start) ≡ n = omega arith in
      let parts : before ++ window ≡ drop start bs =
      ap (λ (t : List ℕ). before ++ t) (sym (drop-drop (n - start) start bs ∙ ap (λ (k : ℕ). drop k bs) same)) ∙ take-append-drop (n - start) (drop start bs) in
      let len : length window ≡ 64 = omega (arith, length-drop n bs) in
      let whole = gear_hash-append gear before window in
      ap (gear_hash gear) (sym parts) ∙ whole ∙ rw len (omega (arith, gear_hash-lt gear window))
]
