use Rattle.std.proofs.Common.{◌≡◌, ◌∙◌, ◌&&◌, true, false, drop, Some, None, sym, refl, arith, length-drop}
use Rattle.std.proofs.lemmas.List.{take_rest}
use Rattle.xet_cut.specs.Limits.{with_minimum}
use Rattle.xet_cut.specs.Partitions.{is_medium}
use Rattle.xet_cut.specs.Streams.{boundary_in}
use Rattle.xet_cut.proofs.Parts.{part_more, part_none, part_one, rest_found, rest_next, rest_none}
use Rattle.xet_cut.proofs.partitions.part_in.Goals as goal
use Rattle.xet_cut.proofs.partitions.part_in.Goals.{else-is_medium-via-then-is_medium+else-is_medium-2, else-is_medium-via-else-is_medium}

pub returns-in_default-clause-value : goal.returns-in_default-clause-value
returns-in_default-clause-value c = sym (part_none c.args.limits.now c.args.bytes.now (sym c.in_default.ensures.value))

pub returns-in_default-complete_len-clause-value : goal.returns-in_default-complete_len-clause-value
returns-in_default-complete_len-clause-value c =
    let none : boundary_in (with_minimum c.args.limits.now 1) (drop c.in-Some.first c.args.bytes.now) ≡ None = rw (take_rest c.args.bytes.now c.in-Some.first) at (sym c.in_default-complete_len.ensures.value) in
    sym (part_one c.args.limits.now c.args.bytes.now c.in-Some.first (omega (arith, c.recall_invariant.ensures.minimum_from, c.recall_invariant.ensures.minimum_to)) (sym c.in-Some.ensures.value) none)

pub chunks-init : goal.chunks-init
chunks-init c =
    let second : boundary_in (with_minimum c.args.limits.now 1) (drop c.in-Some.first c.args.bytes.now) ≡ Some c.in-Some-complete_len.second =
    rw (take_rest c.args.bytes.now c.in-Some.first) at (sym c.in-Some-complete_len.ensures.value) in
    record {
      within = omega (arith, c.in-Some.ensures.within.1, c.in-Some-complete_len.ensures.within.1, length-drop c.in-Some.first c.args.bytes.now);
      rest = part_more c.args.limits.now c.args.bytes.now c.in-Some.first c.in-Some-complete_len.second (omega (arith, c.recall_invariant.ensures.minimum_from, c.recall_invariant.ensures.minimum_to)) (sym c.in-Some.ensures.value) second;
    }

pub returns-then-is_medium-2-clause-value : goal.returns-then-is_medium-2-clause-value
returns-then-is_medium-2-clause-value c =
    let next = c.in-Some-complete_len-2 in
    let found : boundary_in (with_minimum c.args.limits.now 1) (drop c.chunks.end c.args.bytes.now) ≡ Some next.length = rw (take_rest c.args.bytes.now c.chunks.end) at (sym next.ensures.value) in
    sym (rest_found c.args.limits.now c.args.bytes.now c.chunks.end c.chunks.previous next.length (omega (arith, c.recall_invariant.ensures.minimum_from, c.recall_invariant.ensures.minimum_to)) found
    (sym c.is_medium.ensures ∙ c.if-is_medium.true) (sym c.is_medium-then-is_medium.ensures ∙ c.if-is_medium-2.true)) ∙ c.chunks.invariant.rest

pub chunks-preserved : goal.chunks-preserved
chunks-preserved c =
    let next = c.in-Some-complete_len-2 in
    let found : boundary_in (with_minimum c.args.limits.now 1) (drop c.chunks.end c.args.bytes.now) ≡ Some next.length = rw (take_rest c.args.bytes.now c.chunks.end) at (sym next.ensures.value) in
    let not : (is_medium c.args.limits.now c.chunks.previous && is_medium c.args.limits.now next.length) ≡ false = elim c.else-is_medium.branch [
      | else-is_medium-via-then-is_medium+else-is_medium-2 w ↦
          let one : is_medium c.args.limits.now c.chunks.previous ≡ true = sym c.is_medium.ensures ∙ w.if-is_medium.true in
          let two : is_medium c.args.limits.now next.length ≡ false = sym w.is_medium-then-is_medium.ensures ∙ w.if-is_medium-2.false in
          rw (one, two) refl
      | else-is_medium-via-else-is_medium w ↦
          let one : is_medium c.args.limits.now c.chunks.previous ≡ false = sym c.is_medium.ensures ∙ w.if-is_medium.false in
          rw one refl
    ] in
    record {
      within = omega (arith, c.chunks.invariant.within, next.ensures.within.1, length-drop c.chunks.end c.args.bytes.now);
      rest = rest_next c.args.limits.now c.args.bytes.now c.chunks.end c.chunks.previous next.length (omega (arith, c.recall_invariant.ensures.minimum_from, c.recall_invariant.ensures.minimum_to)) found not ∙ c.chunks.invariant.rest;
    }

pub returns-clause-value : goal.returns-clause-value
returns-clause-value c =
    let none : boundary_in (with_minimum c.args.limits.now 1) (drop c.chunks.end c.args.bytes.now) ≡ None = rw (take_rest c.args.bytes.now c.chunks.end) at (sym c.in_default-complete_len-2.ensures.value) in
    sym (rest_none c.args.limits.now c.args.bytes.now c.chunks.end c.chunks.previous none) ∙ c.chunks.invariant.rest
