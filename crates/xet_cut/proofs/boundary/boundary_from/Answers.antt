use Rattle.std.proofs.Common.{◌≡◌, ◌∙◌, ℕ, ◌+◌, ◌-◌, ◌≤◌, ◌++◌, false, length, ap, sym, arith}
use Rattle.xet_cut.specs.Chunking.{mask, may_end}
use Rattle.xet_cut.specs.Limits.{with_minimum}
use Rattle.xet_cut.specs.theorems.FirstBoundary.{is_none}
use Rattle.xet_cut.proofs.Boundaries.{boundary_at_match, boundary_at_maximum, boundary_none, none_before, none_scanned}
use Rattle.xet_cut.proofs.boundary.boundary_from.Goals as goal
use Rattle.xet_cut.proofs.boundary.boundary_from.Goals.{then-start-end+else-n-gt0, else-start-end}

pub overflow_sub-room : goal.overflow_sub-room
overflow_sub-room c = omega (arith, (is_none (with_minimum c.args.limits.now c.args.minimum) c.args.before.now c.requires.none).short, c.maximum_chunk.ensures.value)

pub returns-then-n-gt0-clause-value : goal.returns-then-n-gt0-clause-value
returns-then-n-gt0-clause-value c =
    let s = with_minimum c.args.limits.now c.args.minimum in
    let start_is : c.saturating_sub-start.result ≡ s.minimum_chunk - 1 - length c.args.before.now = omega arith in
    let mask_is : c.mask.result ≡ mask s.target_chunk = c.mask.ensures ∙ ap mask c.target_chunk.ensures.value in
    boundary_at_match s c.args.before.now c.args.bytes.now c.saturating_sub-start.result c.min-end.result c.hash_before-hash.result c.scan-n.result c.requires.none start_is
    (rw c.gear-gear.ensures at c.hash_before-hash.ensures) (omega arith) (omega arith) (omega (arith, c.maximum_chunk.ensures.value))
    (rw (c.gear-gear.ensures, mask_is) at (sym (c.scan-n.ensures.found c.if-n-gt0.true)))

pub returns-then-end-room-clause-value : goal.returns-then-end-room-clause-value
returns-then-end-room-clause-value c =
    let s = with_minimum c.args.limits.now c.args.minimum in
    let start_is : c.saturating_sub-start.result ≡ s.minimum_chunk - 1 - length c.args.before.now = omega arith in
    let short = (is_none s c.args.before.now c.requires.none).short in
    let none : (j : ℕ) → s.minimum_chunk ≤ j → j ≤ length c.args.before.now + c.min-end.result → may_end s (c.args.before.now ++ c.args.bytes.now) j ≡ false = elim c.if-start-end.branch [
      | then-start-end+else-n-gt0 w ↦
          let mask_is : w.mask.result ≡ mask s.target_chunk = w.mask.ensures ∙ ap mask w.target_chunk.ensures.value in
          none_scanned s c.args.before.now c.args.bytes.now c.saturating_sub-start.result c.min-end.result w.hash_before-hash.result c.requires.none start_is
          (rw w.gear-gear.ensures at w.hash_before-hash.ensures) (omega arith) (omega arith) (rw (w.gear-gear.ensures, mask_is) at (sym (w.scan-n.ensures.none (omega arith))))
      | else-start-end w ↦ λ j low high. none_before s c.args.before.now c.args.bytes.now c.saturating_sub-start.result c.requires.none start_is j low (omega arith)
    ] in
    boundary_at_maximum s c.args.before.now c.args.bytes.now (c.maximum_chunk.result - length c.args.before.now) (omega (arith, c.requires.below))
    (omega (arith, c.maximum_chunk.ensures.value)) (omega arith) (λ j low high. none j low (omega (arith, c.maximum_chunk.ensures.value)))

pub returns-then-end-room-clause-within : goal.returns-then-end-room-clause-within
returns-then-end-room-clause-within c =
    let short = (is_none (with_minimum c.args.limits.now c.args.minimum) c.args.before.now c.requires.none).short in
    (omega (arith, c.maximum_chunk.ensures.value), omega arith)

pub returns-else-end-room-clause-value : goal.returns-else-end-room-clause-value
returns-else-end-room-clause-value c =
    let s = with_minimum c.args.limits.now c.args.minimum in
    let start_is : c.saturating_sub-start.result ≡ s.minimum_chunk - 1 - length c.args.before.now = omega arith in
    let short = (is_none s c.args.before.now c.requires.none).short in
    let none : (j : ℕ) → s.minimum_chunk ≤ j → j ≤ length c.args.before.now + c.min-end.result → may_end s (c.args.before.now ++ c.args.bytes.now) j ≡ false = elim c.if-start-end.branch [
      | then-start-end+else-n-gt0 w ↦
          let mask_is : w.mask.result ≡ mask s.target_chunk = w.mask.ensures ∙ ap mask w.target_chunk.ensures.value in
          none_scanned s c.args.before.now c.args.bytes.now c.saturating_sub-start.result c.min-end.result w.hash_before-hash.result c.requires.none start_is
          (rw w.gear-gear.ensures at w.hash_before-hash.ensures) (omega arith) (omega arith) (rw (w.gear-gear.ensures, mask_is) at (sym (w.scan-n.ensures.none (omega arith))))
      | else-start-end w ↦ λ j low high. none_before s c.args.before.now c.args.bytes.now c.saturating_sub-start.result c.requires.none start_is j low (omega arith)
    ] in
    boundary_none s c.args.before.now c.args.bytes.now (omega (arith, c.maximum_chunk.ensures.value)) (λ j low high. none j low (omega arith))
