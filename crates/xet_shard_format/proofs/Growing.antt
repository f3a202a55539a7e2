-- A section that is written record by record.
use Rattle.std.proofs.Common.{◌≡◌, ℕ, ◌+◌, ◌<◌, ◌≤◌, List, [], ◌++◌, length, get_or, drop, sym, ap, subst, ◌∙◌, append_assoc}
use Rattle.std.specs.List.{AllByRecursion}
use Rattle.std.proofs.lemmas.List.{append-nil, drop_all}
use Rattle.std.proofs.lemmas.List.Concat.{flat_map-cons}
use Rattle.xet_shard_format.specs.declared.row.Row.{Row}
use Rattle.xet_shard_format.specs.Rows.{RowFits, row_bytes, rows_bytes}
use Rattle.xet_shard_format.specs.Records.{end_row, section}
use Rattle.xet_shard_format.specs.theorems.Bytes.{rows_bytes-append}
use Rattle.xet_base.specs.theorems.Elements.{all_both}
use Rattle.xet_shard_format.specs.theorems.Steps.{section_left}

pub rows_grow : {X : Type 0} (rows : X → List Row) (encoding text1 total : List ℕ) (xs : List X) (i : ℕ) (x : X) → i < length xs → x ≡ get_or xs i x → text1 ≡ encoding ++ rows_bytes (rows x)
    → encoding ++ rows_bytes (section rows (drop i xs)) ≡ total → text1 ++ rows_bytes (section rows (drop (i + 1) xs)) ≡ total
rows_grow rows encoding text1 total xs i x below is e so_far =
    ap (λ (t : List ℕ). t ++ rows_bytes (section rows (drop (i + 1) xs))) e ∙ append_assoc encoding (rows_bytes (rows x)) (rows_bytes (section rows (drop (i + 1) xs)))
    ∙ ap (λ (t : List ℕ). encoding ++ t) (sym (ap (λ (rs : List Row). rows_bytes rs) (section_left rows xs i x below is) ∙ rows_bytes-append (rows x) (section rows (drop (i + 1) xs)))) ∙ so_far

pub rows_end : {X : Type 0} (rows : X → List Row) (encoding text1 total : List ℕ) (xs : List X) (i : ℕ) → length xs ≤ i → text1 ≡ encoding ++ row_bytes end_row
    → encoding ++ rows_bytes (section rows (drop i xs)) ≡ total → text1 ≡ total
rows_end {X} rows encoding text1 total xs i le e so_far =
    e ∙ ap (λ (t : List ℕ). encoding ++ t) (sym (append-nil (row_bytes end_row)) ∙ sym (flat_map-cons row_bytes end_row [])) ∙ ap (λ (ys : List X). encoding ++ rows_bytes (section rows ys)) (sym (drop_all i xs le)) ∙ so_far

-- all rows fit if those that are left do, which is kept where those of a record do
pub fits_grow : {X : Type 0} (rows : X → List Row) (all : List Row) (xs : List X) (i : ℕ) (x : X) → i < length xs → x ≡ get_or xs i x → AllByRecursion RowFits (rows x)
    → (AllByRecursion RowFits (section rows (drop i xs)) → AllByRecursion RowFits all) → AllByRecursion RowFits (section rows (drop (i + 1) xs)) → AllByRecursion RowFits all
fits_grow rows all xs i x below is one so_far rest =
    so_far (subst (AllByRecursion RowFits) (sym (section_left rows xs i x below is)) (all_both RowFits (rows x) (section rows (drop (i + 1) xs)) one rest))
