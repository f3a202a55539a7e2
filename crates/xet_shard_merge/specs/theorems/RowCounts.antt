-- How many rows the records of a section have.
use Rattle.std.proofs.Common.{◌≡◌, ℕ, ◌+◌, ◌*◌, ◌≤◌, List, [], ◌∷◌, length, arith}
use Rattle.std.proofs.lemmas.List.{length-append}
use Rattle.std.proofs.lemmas.List.Concat.{length-flat_map}
use Rattle.std.proofs.lemmas.List.Sums.{sum_by-cons, sum_by-le-sum_by}
use Rattle.std.specs.List.{flat_map, sum_by}
use Rattle.xet_shard_format.specs.Records.{end_row, section}
use Rattle.xet_shard_format.specs.declared.row.Row.{Row}

-- a section has the rows of its records, and one more
pub rows_of : {X : Type 0} (rows : X → List Row) (xs : List X) → length (section rows xs) ≡ sum_by (λ x. length (rows x)) xs + 1
rows_of rows xs = omega (arith, length-append (flat_map rows xs) (end_row ∷ []), length-flat_map rows xs)

-- a number times a sum
times_sum : {X : Type 0} (f : X → ℕ) (xs : List X) → sum_by (λ x. 48 * f x) xs ≡ 48 * sum_by f xs
times_sum f [] = omega arith
times_sum {X} f (x ∷ xs) =
    let rest : sum_by (λ (y : X). 48 * f y) xs ≡ 48 * sum_by f xs = times_sum f xs in
    let first : sum_by (λ (y : X). 48 * f y) (x ∷ xs) ≡ 48 * f x + sum_by (λ (y : X). 48 * f y) xs = sum_by-cons (λ (y : X). 48 * f y) x xs in
    let right : sum_by f (x ∷ xs) ≡ f x + sum_by f xs = sum_by-cons f x xs in
    omega arith

-- each record adds at least its rows, of 48 bytes, to the length of a shard
pub rows_within : {X : Type 0} (rows : X → List Row) (size : X → ℕ) (xs : List X) → ((x : X) → 48 * length (rows x) ≤ size x) → 48 * length (section rows xs) ≤ sum_by size xs + 48
rows_within {X} rows size xs each =
    let counts : X → ℕ = λ x. length (rows x) in
    let whole : length (section rows xs) ≡ sum_by counts xs + 1 = rows_of rows xs in
    let below : sum_by (λ (x : X). 48 * counts x) xs ≤ sum_by size xs = sum_by-le-sum_by (λ (x : X). 48 * counts x) size xs each in
    let times : sum_by (λ (x : X). 48 * counts x) xs ≡ 48 * sum_by counts xs = times_sum counts xs in
    omega arith
