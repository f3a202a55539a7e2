-- A word in a run, by the index of its item.
use Rattle.std.proofs.Common.{◌≡◌, ◌≢◌, ◌⊎◌, inl, inr, ℕ, zero, suc, ◌+◌, ◌/◌, ◌^◌, ◌<◌, ◌≤◌, nat_cmp, Equal, [], ◌∷◌, get_or, length, Some, None, refl, sym, ap, ◌∙◌, arith}
use Rattle.std.proofs.lemmas.Bool.{cases_lt}
use Rattle.std.proofs.Math.Nat.{pow-suc}
use Rattle.std.proofs.Math.Pow.{pow_mono}
use Rattle.xet_shard_index.specs.Places.{word_place}
use Rattle.xet_shard_index.specs.declared.word_place.WordPlace.{WordPlace}
use Rattle.xet_shard_index.specs.Runs.{AllAbove, IsBetween, Item, Rising}
use Rattle.xet_shard_index.proofs.Merging.{Run, at, at_first, at_later, cmp_equal}

above_at : (v : ℕ) (is : Run) (i : ℕ) (d : Item) → AllAbove v is → i < length is → v < (get_or is i d).0
unfolding AllAbove
above_at v [] i d h low = absurd (omega (arith, low))
above_at v (x ∷ is) zero d h low = h.0
above_at v (x ∷ is) (suc i) d h low = above_at v is i d h.1 (omega (arith, low))

-- an item's word is below that of each later item
pub rises : (is : Run) (i j : ℕ) (d : Item) → Rising is → i < j → j < length is → (get_or is i d).0 < (get_or is j d).0
unfolding Rising
rises [] i j d h before low = absurd (omega (arith, low))
rises (x ∷ is) i zero d h before low = absurd (omega (arith, before))
rises (x ∷ is) zero (suc j) d h before low = above_at x.0 is j d h.0 (omega (arith, low))
rises (x ∷ is) (suc i) (suc j) d h before low = rises is i j d h.1 (omega (arith, before)) (omega (arith, low))

-- the place of an item's word is the item's
pub place_at : (is : Run) (i : ℕ) (d : Item) → Rising is → i < length is → at (get_or is i d).0 is ≡ Some (get_or is i d).1
unfolding Rising
place_at [] i d h low = absurd (omega (arith, low))
place_at (x ∷ is) zero d h low = at_first x is
place_at (x ∷ is) (suc i) d h low =
    let above = above_at x.0 is i d h.0 (omega (arith, low)) in
    at_later (get_or is i d).0 x is (λ e. absurd (omega (arith, e, above))) ∙ place_at is i d h.1 (omega (arith, low))

-- a word that no item has has no place
pub no_place : (w : ℕ) (is : Run) → ((i : ℕ) (d : Item) → i < length is → (get_or is i d).0 ≢ w) → at w is ≡ None
no_place w [] none = refl
no_place w (x ∷ is) none = at_later w x is (λ e. none zero x (omega arith) (sym e)) ∙ no_place w is (λ i d low. none (suc i) d (omega (arith, low)))

pub found_at : (is : Run) (i word : ℕ) (place : WordPlace) → Rising is → i < length is → ((d : Item) → Equal ≡ nat_cmp (get_or is i d).0 word) → ((d : Item) → place ≡ (get_or is i d).1) → Some place ≡ at word is
found_at is i word place h low is_word is_place =
    let d : Item = (0, word_place 0 (0, 0)) in
    ap Some (is_place d) ∙ sym (place_at is i d h low) ∙ ap (λ (w : ℕ). at w is) (cmp_equal _ word (is_word d))

-- ---- bisection

pub bisected_right : (is : Run) (word low high middle : ℕ) → Rising is → IsBetween is word low high → middle < high → low ≤ middle
    → ((d : Item) → (get_or is middle d).0 < word) → IsBetween is word (middle + 1) high
bisected_right is word low high middle h b less more at_middle = record {
  ordered = omega (arith, less);
  within = b.within;
  below = λ i d earlier. by i d earlier (cases_lt i middle);
  above = b.above;
}
  where
    by : (i : ℕ) (d : Item) → i < middle + 1 → (i < middle) ⊎ (middle ≤ i) → (get_or is i d).0 < word
    by i d earlier (inl before) = let r = rises is i middle d h before (omega (arith, less, b.within)) in omega (arith, r, at_middle d)
    by i d earlier (inr after) = let e : i ≡ middle = omega (arith, earlier, after) in rw e (at_middle d)

pub bisected_left : (is : Run) (word low high middle : ℕ) → Rising is → IsBetween is word low high → middle < high → low ≤ middle
    → ((d : Item) → word < (get_or is middle d).0) → IsBetween is word low middle
bisected_left is word low high middle h b less more at_middle = record {
  ordered = more;
  within = omega (arith, less, b.within);
  below = b.below;
  above = λ i d later low. by i d later low (cases_lt middle i);
}
  where
    by : (i : ℕ) (d : Item) → middle ≤ i → i < length is → (middle < i) ⊎ (i ≤ middle) → word < (get_or is i d).0
    by i d later low (inl after) = let r = rises is middle i d h after low in omega (arith, r, at_middle d)
    by i d later low (inr before) = let e : i ≡ middle = omega (arith, later, before) in rw e (at_middle d)

pub bisected_end : (is : Run) (word low high : ℕ) → IsBetween is word low high → high ≤ low → at word is ≡ None
bisected_end is word low high b met = no_place word is (λ i d inside. by i d inside (cases_lt i low))
  where
    by : (i : ℕ) (d : Item) → i < length is → (i < low) ⊎ (low ≤ i) → (get_or is i d).0 ≢ word
    by i d inside (inl before) e = let r = b.below i d before in absurd (omega (arith, r, e))
    by i d inside (inr after) e = let r = b.above i d (omega (arith, met, after)) inside in absurd (omega (arith, r, e))

-- ---- steps

-- For each number of binary digits that the length has, no more steps are left than the digits of what is left.
abbrev pub StepsLeft : ℕ → ℕ → ℕ → ℕ → Type 0
StepsLeft total before now left = (b : ℕ) → total < 2 ^ b → (more : ℕ) × (now + more ≡ before + b) × (left < 2 ^ more)

pub steps_half : (total before now next left half : ℕ) → StepsLeft total before now left → next ≡ now + 1 → 0 < left → half ≤ left / 2 → StepsLeft total before next half
steps_half total before now next left half s is some small b h = by (s b h).0 (s b h).1 (s b h).2
  where
    by : (more : ℕ) → now + more ≡ before + b → left < 2 ^ more → (m : ℕ) × (next + m ≡ before + b) × (half < 2 ^ m)
    by zero e low = absurd (omega (arith, low, some))
    by (suc m) e low = (m, omega (arith, e, is), let p = pow-suc 2 m in omega (arith, low, p, small))

-- an exponent whose power of two a number reaches is below that of a power of two above the number
pub digits_bound : (m b n : ℕ) → 2 ^ m ≤ n → n < 2 ^ b → m < b
digits_bound m b n reaches low = by (cases_lt m b)
  where
    by : (m < b) ⊎ (b ≤ m) → m < b
    by (inl h) = h
    by (inr h) = let p = pow_mono {i = b} {j = m} h in absurd (omega (arith, p, reaches, low))
