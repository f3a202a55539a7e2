-- Words read from bytes.
use Rattle.std.proofs.Common.{◌≡◌, ℕ, zero, suc, ◌+◌, ◌<◌, List, [], ◌∷◌, length, drop, get_or, sym, ap, ◌∙◌, arith}
use Rattle.std.proofs.lemmas.List.{drop_all}
use Rattle.std.proofs.Math.Seq.{drop-cons}

-- the n elements from place i on, one by one
abbrev pub reads : List ℕ → ℕ → ℕ → List ℕ
reads xs i zero = []
reads xs i (suc n) = get_or xs i 0 ∷ reads xs (suc i) n

reads-from : (xs : List ℕ) (i n : ℕ) → length xs ≡ i + n → reads xs i n ≡ drop i xs
reads-from xs i zero len = sym (drop_all i xs (omega arith))
reads-from xs i (suc n) len =
    let lt : i < length xs = omega arith in
    ap (λ (ys : List ℕ). get_or xs i 0 ∷ ys) (reads-from xs (suc i) n (omega arith)) ∙ sym (drop-cons xs i 0 lt)

-- a list is its elements, one by one
pub reads_all : (xs : List ℕ) (n : ℕ) → length xs ≡ n → xs ≡ reads xs 0 n
reads_all xs n len = sym (reads-from xs 0 n (omega arith))
