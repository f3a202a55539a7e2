-- Properties of the values that reading returns.
use Rattle.std.proofs.Common.{◌≡◌, ◌∷◌, ℕ, ◌*◌, ◌^◌, ◌<◌, ◌≤◌, List, None, Result, Ok, Err, ap, arith, length, subst}
use Rattle.std.specs.Prelude.{IfOk}
use Rattle.std.specs.List.{AllByRecursion}
use Rattle.xet_hash.specs.declared.error.StoreError.{StoreError}
use Rattle.xet_shard_format.specs.declared.row.Row.{Row}
use Rattle.xet_shard_format.specs.Rows.{RowFits, rows_in}
use Rattle.xet_shard_format.specs.Records.{section}
use Rattle.xet_codec.specs.Parsing.{Gives}
use Rattle.xet_shard_format.specs.Reading.{section_at}
use Rattle.xet_shard_format.specs.theorems.Bytes.{IsBytes, rows_fit}
use Rattle.xet_shard_format.specs.theorems.RowList.{length-rows_in}
use Rattle.xet_shard_format.specs.theorems.SectionLaws.{Reading, section_takes}

-- what holds of each value that reading gives holds of what was returned
pub given_ok : {X Y : Type 0} (view : X → Y) (r : Result X StoreError) (read : Result Y StoreError) (P : Y → Type 0) → ((y : Y) → read ≡ Ok y → P y) → Gives view r read → IfOk r (λ x. P (view x))
given_ok view (Ok x) read P holds given = holds (view x) given
given_ok view (Err e) read P holds given = tt

-- The rows of a section that was read from the rows of known bytes: so many as were given, and they fit.
module _ {X : Type 0} (record_at : Row → List Row → Result (X × List Row) StoreError) (hash : X → List ℕ) (head : X → Row) (others : X → List Row) (Form : X → Type 0) (each : Reading record_at hash head others Form)
    (n : ℕ) (bytes : List ℕ) (xs : List X) (e : section_at record_at hash n None (rows_in n bytes) ≡ Ok xs) where
  rows_are : rows_in n bytes ≡ section (λ x. head x ∷ others x) xs
  rows_are = (section_takes record_at hash head others Form each n None (rows_in n bytes) xs e).0

  pub section_few : n < 2 ^ 32 → length (section (λ x. head x ∷ others x) xs) < 2 ^ 32
  section_few few = omega (arith, ap length rows_are, length-rows_in n bytes, few)

  pub section_fits : IsBytes bytes → 48 * n ≤ length bytes → AllByRecursion RowFits (section (λ x. head x ∷ others x) xs)
  section_fits known long = subst (AllByRecursion RowFits) rows_are (rows_fit n bytes known long)

-- The same of a section that was read, in terms of what was returned: its rows are few, and so is a total of its records.
module _ {X V : Type 0} (view : V → List X) (r : Result V StoreError) (record_at : Row → List Row → Result (X × List Row) StoreError) (hash : X → List ℕ) (head : X → Row) (others : X → List Row) (Form : X → Type 0) (each : Reading record_at hash head others Form)
    (n : ℕ) (bytes : List ℕ) (few : n < 2 ^ 32) (gives : Gives view r (section_at record_at hash n None (rows_in n bytes))) where
  pub given_few : IfOk r (λ v. length (section (λ x. head x ∷ others x) (view v)) < 2 ^ 32)
  given_few = given_ok view r _ (λ xs. length (section (λ x. head x ∷ others x) xs) < 2 ^ 32) (λ xs e. section_few record_at hash head others Form each n bytes xs e few) gives

  pub given_total : (total : List X → ℕ) → ((xs : List X) → length (section (λ x. head x ∷ others x) xs) < 2 ^ 32 → AllByRecursion RowFits (section (λ x. head x ∷ others x) xs) → total xs < 2 ^ 64)
      → IsBytes bytes → 48 * n ≤ length bytes → IfOk r (λ v. total (view v) < 2 ^ 64)
  given_total total below known long =
      given_ok view r _ (λ xs. total xs < 2 ^ 64) (λ xs e. below xs (section_few record_at hash head others Form each n bytes xs e few) (section_fits record_at hash head others Form each n bytes xs e known long)) gives
