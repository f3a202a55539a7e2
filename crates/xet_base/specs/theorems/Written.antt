-- The bytes written of two lists, one after the other.
use Rattle.std.proofs.Common.{◌≡◌, ◌∙◌, ◌+◌, ℕ, List, ◌++◌, ap, append_assoc, arith, length, min, sym, take}
use Rattle.std.proofs.Math.Seq.{take-append-add}
use Rattle.std.proofs.lemmas.List.{take-append-le, take_min}

-- a front of the first is one of both
pub prefix_of_first : (xs ys : List ℕ) (n : ℕ) → (m : ℕ) × (take n xs ≡ take m (xs ++ ys))
prefix_of_first xs ys n =
    (min n (length xs), sym (take_min n xs) ∙ sym (take-append-le (min n (length xs)) xs ys (omega arith)))

-- a piece was written, and then a front of another
pub written_then : (before middle now xs ys : List ℕ) (n : ℕ) → middle ≡ before ++ xs → now ≡ middle ++ take n ys → now ≡ before ++ take (length xs + n) (xs ++ ys)
written_then before middle now xs ys n first next =
    next ∙ ap (λ (x : List ℕ). x ++ take n ys) first ∙ append_assoc before xs (take n ys) ∙ ap (λ (x : List ℕ). before ++ x) (sym (take-append-add xs ys n))

pub written_both : (before middle now xs ys : List ℕ) → middle ≡ before ++ xs → now ≡ middle ++ ys → now ≡ before ++ (xs ++ ys)
written_both before middle now xs ys first next = next ∙ ap (λ (x : List ℕ). x ++ ys) first ∙ append_assoc before xs ys

-- one more block was taken
pub block_fed : (whole fed left block rest : List ℕ) (count : ℕ) → whole ≡ fed ++ left → left ≡ take count block ++ rest → whole ≡ fed ++ take count block ++ rest
block_fed whole fed left block rest count is next = is ∙ ap (λ (x : List ℕ). fed ++ x) next ∙ sym (append_assoc fed (take count block) rest)
