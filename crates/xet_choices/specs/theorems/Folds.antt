-- The open block and the flag of the guard, by the choices so far.
use Rattle.std.proofs.Common.{◌≡◌, ◌∙◌, ℕ, zero, suc, ◌+◌, ◌≤◌, ◌<◌, Bool, false, if◌then◌else◌, List, [], ◌∷◌, ◌++◌, length, Some, refl, ap, arith}
use Rattle.std.specs.Prelude.{replicate, slice_get}
use Rattle.xet_cut.specs.declared.limits.LimitSettings.{LimitSettings}
use Rattle.xet_choices.specs.declared.choice.Choice.{Choice}
use Rattle.xet_choices.specs.declared.choice.Choice.TheVariants.{Reused}
use Rattle.xet_choices.specs.Choices.{allowed_flag, block_of, flag_of, guard_of, is_reused, next_flag, packed}
use Rattle.xet_choices.specs.Ranges.{ranges, starts}

-- ---- the open block

-- further leaves do not change it
pub block_of_more : (settings : LimitSettings) (block leaves more : List (List ℕ × ℕ)) (cs : List Choice) → length cs ≤ length leaves
    → block_of settings block (leaves ++ more) cs ≡ block_of settings block leaves cs
unfolding block_of
block_of_more settings block [] [] [] le = refl
block_of_more settings block [] (m ∷ more) [] le = refl
block_of_more settings block (leaf ∷ leaves) more [] le = refl
block_of_more settings block [] more (c ∷ cs) le = absurd (omega arith)
block_of_more settings block (leaf ∷ leaves) more (c ∷ cs) le = block_of_more settings (if is_reused c then block else packed settings block leaf) leaves more cs (omega arith)

-- one more choice
pub block_of_push : (settings : LimitSettings) (block leaves : List (List ℕ × ℕ)) (cs : List Choice) (leaf : List ℕ × ℕ) (c : Choice) → slice_get leaves (length cs) ≡ Some leaf
    → block_of settings block leaves (cs ++ c ∷ []) ≡ (if is_reused c then block_of settings block leaves cs else packed settings (block_of settings block leaves cs) leaf)
unfolding block_of
block_of_push settings block [] [] leaf c at = absurd (cc at)
block_of_push settings block (l ∷ leaves) [] leaf c at =
    let same : l ≡ leaf = cc at in ap (λ (m : List ℕ × ℕ). if is_reused c then block else packed settings block m) same ∙ done leaves (if is_reused c then block else packed settings block leaf)
  where
    done : (leaves b : List (List ℕ × ℕ)) → b ≡ b
    done leaves b = refl
block_of_push settings block [] (d ∷ cs) leaf c at = absurd (cc at)
block_of_push settings block (l ∷ leaves) (d ∷ cs) leaf c at = block_of_push settings (if is_reused d then block else packed settings block l) leaves cs leaf c at

-- a run that was reused does not change it
pub block_of_run : (settings : LimitSettings) (block leaves : List (List ℕ × ℕ)) (cs : List Choice) (k segment : ℕ)
    → block_of settings block leaves (cs ++ replicate k (Reused segment)) ≡ block_of settings block leaves cs
unfolding block_of
block_of_run settings block [] [] zero segment = refl
block_of_run settings block (l ∷ leaves) [] zero segment = refl
block_of_run settings block [] [] (suc k) segment = refl
block_of_run settings block (l ∷ leaves) [] (suc k) segment = block_of_run settings block leaves [] k segment
block_of_run settings block [] (d ∷ cs) k segment = refl
block_of_run settings block (l ∷ leaves) (d ∷ cs) k segment = block_of_run settings (if is_reused d then block else packed settings block l) leaves cs k segment

-- ---- the flag

-- one more choice
pub flag_of_push : (settings : LimitSettings) (counts : List ℕ) (j : ℕ) (low : Bool) (cs : List Choice) (c : Choice)
    → flag_of settings counts j low (cs ++ c ∷ []) ≡ next_flag settings counts (j + length cs) (flag_of settings counts j low cs) c
unfolding flag_of
flag_of_push settings counts j low [] c = ap (λ (i : ℕ). next_flag settings counts i low c) (omega arith)
flag_of_push settings counts j low (d ∷ cs) c =
    flag_of_push settings counts (suc j) (next_flag settings counts j low d) cs c
    ∙ ap (λ (i : ℕ). next_flag settings counts i (flag_of settings counts (suc j) (next_flag settings counts j low d) cs) c) (omega arith)

-- A run that was reused changes it by its first chunk alone, if its segment begins with it.
pub flag_of_rest : (settings : LimitSettings) (counts : List ℕ) (j : ℕ) (low : Bool) (k segment : ℕ) → ((i : ℕ) → i < k → starts counts (j + i) ≡ false)
    → flag_of settings counts j low (replicate k (Reused segment)) ≡ low
unfolding flag_of next_flag
flag_of_rest settings counts j low zero segment none = refl
flag_of_rest settings counts j low (suc k) segment none =
    let here : starts counts j ≡ false = ap (starts counts) (omega arith) ∙ none 0 (omega arith) in
    let same : (if starts counts j then allowed_flag (guard_of settings (ranges counts j) low) else low) ≡ low = rw here refl in
    ap (λ (b : Bool). flag_of settings counts (suc j) b (replicate k (Reused segment))) same
    ∙ flag_of_rest settings counts (suc j) low k segment (λ i lt. ap (starts counts) (omega arith) ∙ none (suc i) (omega arith))

pub flag_of-append : (settings : LimitSettings) (counts : List ℕ) (j : ℕ) (low : Bool) (cs ds : List Choice)
    → flag_of settings counts j low (cs ++ ds) ≡ flag_of settings counts (j + length cs) (flag_of settings counts j low cs) ds
unfolding flag_of
flag_of-append settings counts j low [] ds = ap (λ (i : ℕ). flag_of settings counts i low ds) (omega arith)
flag_of-append settings counts j low (d ∷ cs) ds =
    flag_of-append settings counts (suc j) (next_flag settings counts j low d) cs ds
    ∙ ap (λ (i : ℕ). flag_of settings counts i (flag_of settings counts (suc j) (next_flag settings counts j low d) cs) ds) (omega arith)
