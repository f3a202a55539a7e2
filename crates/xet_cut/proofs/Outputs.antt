-- The generator, one step at a time.
use Rattle.std.proofs.Common.{◌≡◌, ◌∙◌, ℕ, ◌+◌, ◌/◌, ◌%◌, ◌^◌, List, [], ◌∷◌, ◌++◌, slice_index, sym, ap, add-one, refl, arith}
use Rattle.std.proofs.lemmas.List.FromFn.{map-range_with_len_more}
use Rattle.std.specs.Int.{w64, to_le_bytes}
use Rattle.xet_cut.specs.Generator.{generated, generated_byte, mixed, output, state}

pub state_first : (seed : ℕ) → seed ≡ state seed 0
unfolding state
state_first seed = refl

pub state_next : (seed n s : ℕ) → s ≡ state seed n → (s + 0x9E3779B97F4A7C15) % 2 ^ 64 ≡ state seed (n + 1)
unfolding state
state_next seed n s e = rw (e, add-one) refl

pub output_next : (seed n s : ℕ) → s ≡ state seed n → mixed ((s + 0x9E3779B97F4A7C15) % 2 ^ 64) ≡ output seed n
unfolding state
output_next seed n s e = rw e refl

pub generated_next : (seed i : ℕ) (word : List ℕ) → word ≡ to_le_bytes w64 (output seed (i / 8)) → generated seed i ++ slice_index word (i % 8) ∷ [] ≡ generated seed (i + 1)
generated_next seed i word e =
    ap (λ (w : List ℕ). generated seed i ++ slice_index w (i % 8) ∷ []) e ∙ sym (map-range_with_len_more (generated_byte seed) 0 i i (omega arith))
