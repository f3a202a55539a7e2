-- The first line of some bytes.
use Rattle.std.proofs.Common.{◌≡◌, ◌∙◌, ℕ, zero, suc, ◌+◌, ◌<◌, Bool, true, false, cond, eqb, List, [], ◌∷◌, length, take, drop, get_or, refl, sym, ap, arith}
use Rattle.std.proofs.lemmas.List.Splits.{length-slice_split}
use Rattle.std.proofs.lemmas.Bool.{ne_eqb}
use Rattle.std.specs.List.{slice_split, onto_first}
use Rattle.std.specs.Str.Lines.{lines, lines_of_parts, strip_carriage_return}

abbrev is_lf : ℕ → Bool
is_lf b = eqb b 10

split_at_lf : (bs : List ℕ) (e : ℕ) → e < length bs → ((k : ℕ) → k < e → is_lf (get_or bs k 0) ≡ false) → is_lf (get_or bs e 0) ≡ true
    → slice_split is_lf bs ≡ take e bs ∷ slice_split is_lf (drop (suc e) bs)
split_at_lf [] e here before at = absurd (omega arith)
split_at_lf (b ∷ bs) zero here before at = ap (λ (t : Bool). cond t ([] ∷ slice_split is_lf bs) (onto_first b (slice_split is_lf bs))) at
split_at_lf (b ∷ bs) (suc e) here before at =
    ap (λ (t : Bool). cond t ([] ∷ slice_split is_lf bs) (onto_first b (slice_split is_lf bs))) (before 0 (omega arith))
    ∙ ap (onto_first b) (split_at_lf bs e (omega arith) (λ k h. before (suc k) (omega arith)) at)

split_no_lf : (bs : List ℕ) → ((k : ℕ) → k < length bs → is_lf (get_or bs k 0) ≡ false) → slice_split is_lf bs ≡ bs ∷ []
split_no_lf [] none = refl
split_no_lf (b ∷ bs) none =
    ap (λ (t : Bool). cond t ([] ∷ slice_split is_lf bs) (onto_first b (slice_split is_lf bs))) (none 0 (omega arith))
    ∙ ap (onto_first b) (split_no_lf bs (λ k h. none (suc k) (omega arith)))

more_parts : (x : List ℕ) (parts : List (List ℕ)) → 0 < length parts → lines_of_parts (x ∷ parts) ≡ strip_carriage_return x ∷ lines_of_parts parts
more_parts x [] some = absurd (omega arith)
more_parts x (y ∷ parts) some = refl

-- a line that ends at an LF
pub lines_at_lf : (bs rest line : List ℕ) (e : ℕ) → e < length bs → ((k : ℕ) → k < e → is_lf (get_or bs k 0) ≡ false) → is_lf (get_or bs e 0) ≡ true
    → line ≡ strip_carriage_return (take e bs) → rest ≡ drop (e + 1) bs → lines bs ≡ line ∷ lines rest
lines_at_lf bs rest line e here before at el er =
    let next : e + 1 ≡ suc e = omega arith in
    ap lines_of_parts (split_at_lf bs e here before at)
    ∙ more_parts (take e bs) (slice_split is_lf (drop (suc e) bs)) (omega (arith, length-slice_split is_lf (drop (suc e) bs)))
    ∙ ap (λ (x : List ℕ). x ∷ lines (drop (suc e) bs)) (sym el)
    ∙ ap (λ (x : List ℕ). line ∷ lines x) (sym (er ∙ ap (λ (k : ℕ). drop k bs) next))

-- a line that no LF ends
pub lines_without_lf : (bs rest : List ℕ) → 0 < length bs → ((k : ℕ) → k < length bs → is_lf (get_or bs k 0) ≡ false) → rest ≡ []
    → lines bs ≡ bs ∷ lines rest
lines_without_lf bs rest some none er =
    ap lines_of_parts (split_no_lf bs none)
    ∙ ap (λ (t : Bool). cond t [] (bs ∷ [])) (ne_eqb (length bs) 0 (λ e. absurd (omega (arith, e))))
    ∙ ap (λ (x : List ℕ). bs ∷ lines x) (sym er)
