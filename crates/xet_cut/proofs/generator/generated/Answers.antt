use Rattle.std.proofs.Common.{◌≡◌, ◌∙◌, ℕ, ◌+◌, ◌/◌, sym, ap, arith, rules}
use Rattle.std.specs.Int.{w64, to_le_bytes}
use Rattle.xet_cut.specs.Generator.{output, state}
use Rattle.xet_cut.proofs.Outputs.{generated_next, output_next, state_first, state_next}
use Rattle.xet_cut.proofs.generator.generated.Goals as goal
use Rattle.xet_cut.proofs.generator.generated.Goals.{then-i-eq0, else-i-eq0}

pub loop-i-init : goal.loop-i-init
loop-i-init c = record { bytes = search rules; at = state_first c.args.seed; word = λ inside. absurd (omega arith) }

pub loop-i-preserved : goal.loop-i-preserved
loop-i-preserved c =
    let seed = c.args.seed in
    let i = c.loop-i.i in
    let before : c.loop-i.state ≡ state seed ((i + 7) / 8) = c.loop-i.invariant.at in
    let state_is : c.if-i-eq0.state ≡ state seed (i / 8 + 1) = elim c.if-i-eq0.branch [
      | then-i-eq0 w ↦
          let n : (i + 7) / 8 ≡ i / 8 = omega arith in
          w.state-is ∙ state_next seed (i / 8) c.loop-i.state (before ∙ ap (state seed) n)
      | else-i-eq0 w ↦
          let n : (i + 7) / 8 ≡ i / 8 + 1 = omega arith in
          w.state-is ∙ before ∙ ap (state seed) n
    ] in
    let word_is : c.if-i-eq0.word ≡ to_le_bytes w64 (output seed (i / 8)) = elim c.if-i-eq0.branch [
      | then-i-eq0 w ↦
          let n : (i + 7) / 8 ≡ i / 8 = omega arith in
          let value : w.mixed.result ≡ output seed (i / 8) = w.mixed.ensures ∙ output_next seed (i / 8) c.loop-i.state (before ∙ ap (state seed) n) in
          w.word-is ∙ w.to_le_bytes-word.ensures ∙ ap (to_le_bytes w64) value
      | else-i-eq0 w ↦ w.word-is ∙ c.loop-i.invariant.word (omega arith)
    ] in
    record {
      bytes = rw (c.in_ok-push.ensures.items, c.loop-i.invariant.bytes) (generated_next seed i c.if-i-eq0.word word_is);
      at =
          let n : (i + 1 + 7) / 8 ≡ i / 8 + 1 = omega arith in state_is ∙ ap (state seed) (sym n);
      word = λ inside.
          let n : (i + 1) / 8 ≡ i / 8 = omega arith in
          word_is ∙ ap (λ (k : ℕ). to_le_bytes w64 (output seed k)) (sym n);
    }
