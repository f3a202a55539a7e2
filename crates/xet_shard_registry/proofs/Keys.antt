-- Tests of keys.
use Rattle.std.proofs.Common.{◌≡◌, ◌≢◌, ◌⊎◌, inl, inr, ℕ, nat_eq, Bool, true, false, List, refl, sym}
use Rattle.std.specs.Cmp.Lexicographic.{other_text, pointwise, same_text}

pub key_tells : (a b : List ℕ) → ((pointwise nat_eq a b ≡ true) × (a ≡ b)) ⊎ ((pointwise nat_eq a b ≡ false) × (a ≢ b))
key_tells a b = by (pointwise nat_eq a b) refl
  where
    by : (r : Bool) → pointwise nat_eq a b ≡ r → ((pointwise nat_eq a b ≡ true) × (a ≡ b)) ⊎ ((pointwise nat_eq a b ≡ false) × (a ≢ b))
    by true e = inl (e, same_text a b (sym e))
    by false e = inr (e, other_text a b (sym e))

pub key_same : (a : List ℕ) → pointwise nat_eq a a ≡ true
key_same a = by (key_tells a a)
  where
    by : ((pointwise nat_eq a a ≡ true) × (a ≡ a)) ⊎ ((pointwise nat_eq a a ≡ false) × (a ≢ a)) → pointwise nat_eq a a ≡ true
    by (inl p) = p.0
    by (inr p) = absurd (p.1 refl)
