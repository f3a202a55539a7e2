-- Prefixes of a list.
use Rattle.std.proofs.Common.{◌≡◌, ℕ, zero, suc, ◌≤◌, List, [], ◌∷◌, ◌++◌, length, Some, slice_get, refl, ap, sym, ◌∙◌, arith, append_assoc, length-append}
use mathlib.Core.List.{IsPrefix}

module _ {X : Type 0} where
  pub prefix_nothing : (xs : List X) → IsPrefix [] xs
  prefix_nothing xs = (xs, refl)

  pub prefix_longer : (xs ys zs : List X) → IsPrefix xs ys → IsPrefix xs (ys ++ zs)
  prefix_longer xs ys zs p = (p.0 ++ zs, sym (append_assoc xs p.0 zs) ∙ ap (λ w. w ++ zs) p.1)

  -- of lists with the same beginning
  pub prefix_after : (front xs ys : List X) → IsPrefix xs ys → IsPrefix (front ++ xs) (front ++ ys)
  prefix_after front xs ys p = (p.0, append_assoc front xs p.0 ∙ ap (λ w. front ++ w) p.1)

  pub prefix_length : (xs ys : List X) → IsPrefix xs ys → length xs ≤ length ys
  prefix_length xs ys p = omega (arith, sym (ap length p.1) ∙ length-append xs p.0)

  -- what is at an index of a prefix is there in the whole
  pub prefix_get : (xs ys : List X) (k : ℕ) (x : X) → IsPrefix xs ys → slice_get xs k ≡ Some x → slice_get ys k ≡ Some x
  prefix_get [] ys k x p h = absurd cc
  prefix_get (y ∷ xs) [] k x p h = absurd (cc (p.1))
  prefix_get (y ∷ xs) (z ∷ ys) zero x p h = cc (p.1, h)
  prefix_get (y ∷ xs) (z ∷ ys) (suc k) x p h = prefix_get xs ys k x (p.0, cc (p.1)) h

  -- what follows the same beginning is the same
  pub same_rest : (front xs ys : List X) → front ++ xs ≡ front ++ ys → xs ≡ ys
  same_rest [] xs ys e = e
  same_rest (f ∷ front) xs ys e = same_rest front xs ys (cc e)

  pub get_last : (xs : List X) (x : X) (n : ℕ) → n ≡ length xs → slice_get (xs ++ x ∷ []) n ≡ Some x
  get_last [] x zero is = refl
  get_last [] x (suc n) is = absurd (omega arith)
  get_last (y ∷ xs) x zero is = absurd (omega arith)
  get_last (y ∷ xs) x (suc n) is = get_last xs x n (omega arith)
