-- What is left of lists when their fronts are dropped.
use Rattle.std.proofs.Common.{◌≡◌, ℕ, suc, ◌+◌, ◌<◌, Bool, List, [], ◌∷◌, ◌++◌, drop, length, map, refl, subst, arith}
use Rattle.std.specs.Prelude.{slice_index}
use Rattle.std.specs.List.Sorted.{IsStrictlyIncreasing}
use Rattle.xet_history.specs.Core.{Core}
use Rattle.xet_history.specs.History.{Legal, after, after_all}
use Rattle.xet_history.specs.declared.entry.Entry.{Entry}

-- what follows the rest
pub drop_longer : {X : Type 0} (front xs ys : List X) → drop (length front) ((front ++ xs) ++ ys) ≡ drop (length front) (front ++ xs) ++ ys
drop_longer [] xs ys = refl
drop_longer (f ∷ front) xs ys = drop_longer front xs ys

-- it is legal from the core on to which the front leads
pub legal_rest : (tells : Bool) (c : Core) (front es : List Entry) → Legal tells c (front ++ es) → Legal tells (after_all c front) es
legal_rest tells c [] es legal = legal
legal_rest tells c (e ∷ front) es legal = legal_rest tells (after c e) front es legal.1

-- and its numbers rise
pub ascend_rest : (front ps : List (ℕ × Entry)) → IsStrictlyIncreasing (map (λ p. p.0) (front ++ ps)) → IsStrictlyIncreasing (map (λ p. p.0) ps)
ascend_rest [] ps rises = rises
ascend_rest (f ∷ front) ps rises = ascend_rest front ps (λ k less.
    let numbers : List ℕ = map (λ (p : ℕ × Entry). p.0) (front ++ ps) in
    let next : suc k + 1 ≡ suc (k + 1) = omega arith in
    subst (λ (n : ℕ). slice_index numbers k < slice_index (f.0 ∷ numbers) n) next (rises (suc k) (omega (arith, less))))
