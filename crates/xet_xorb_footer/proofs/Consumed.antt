-- A prefix of what a source had left was taken.
use Rattle.std.proofs.Common.{◌≡◌, ◌∙◌, ℕ, ◌+◌, List, Ok, Err, Result, ap, drop, length, refl, sym, take}
use Rattle.std.proofs.lemmas.List.{drop-drop, drop_at}
use Rattle.xet_hash.specs.declared.error.StoreError.{StoreError}
use Rattle.xet_io.specs.Whole.{Fills}

abbrev pub TakesPrefix : List ℕ → List ℕ → Type 0
TakesPrefix left rest = (n : ℕ) × (rest ≡ drop n left)

-- a prefix, and then another
pub prefix_then : (left middle rest : List ℕ) → TakesPrefix left middle → TakesPrefix middle rest → TakesPrefix left rest
prefix_then left middle rest (n, first) (m, next) = (n + m, next ∙ ap (drop m) first ∙ drop-drop m n left)

pub fills_prefix : (left buffer rest : List ℕ) (r : Result ℕ StoreError) → Fills left buffer r rest → TakesPrefix left rest
fills_prefix left buffer rest (Ok count) fills =
    let size = length (take count buffer) in
    (size, sym (ap (drop size) fills.taken ∙ drop_at (take count buffer) rest size refl))
fills_prefix left buffer rest (Err e) (n, few, taken) = (n, taken)
