use Rattle.std.proofs.Common.{◌≡◌, ◌∙◌, ◌+◌, ◌-◌, ◌≤◌, ◌++◌, ℕ, List, ap, arith, length, length-append, rules, subst, sym, true, vec_len}
use Rattle.std.specs.Prelude.{replicate}
use Rattle.xet_choices.specs.declared.choice.Choice.TheVariants.{Reused}
use Rattle.xet_shard_format.specs.declared.record.FileDataSequenceEntry.{FileDataSequenceEntry as Segment}
use Rattle.xet_xorb_chunk.specs.declared.chunk.Chunk.{Chunk}
use Rattle.xet_file_plan.specs.Kept.{IsBlockRun, max_chunks}
use Rattle.xet_file_plan.specs.Moves.{PlanState, continues, is_open, last_index, with_run}
use Rattle.xet_file_plan.proofs.Joins.{asked_same, guard_joined, more_choices}
use Rattle.xet_file_plan.proofs.Keeping.{kept_joined, more_segments}
use Rattle.xet_file_plan.proofs.plan.FilePlan.try_join.Goals as goal

pub overflow_sub-segment : goal.overflow_sub-segment
overflow_sub-segment c =
    let count : vec_len c.add_run.new.segments ≡ length c.add_run.new.segments.items = search rules in
    omega (arith, c.len.ensures, count, ap length c.in_ok-continued.ensures.added, (more_segments c.self.inside.segments.items c.args.run).1)

pub invariant_of-self-in_err-resize : goal.invariant_of-self-in_err-resize
invariant_of-self-in_err-resize c =
    let plan = c.self.inside in
    let now : PlanState = record { settings = plan.limits; leaves = plan.leaves.items; segments = plan.segments.items; block = plan.block; choices = plan.choices.items; guard = plan.guard } in
    let same = asked_same c.args.self.now now c.args.run (length c.args.leaves.now) c.may_join.result
    (λ e. let r = c.may_join.ensures.continued e in (r.0, c.self.view_is ∙ r.1))
    (λ e. let r = c.may_join.ensures.asked e in (r.0, c.self.view_is ∙ r.1)) in
    let is : is_open c.args.run ≡ true → IsBlockRun plan.block c.args.run = λ o. subst (λ (cs : List Chunk). IsBlockRun cs c.args.run) (sym same.block) (c.requires.open o) in
    let room : length plan.leaves.items + length c.args.leaves.now ≤ max_chunks =
    subst (λ (ls : List (List ℕ × ℕ)). length ls + length c.args.leaves.now ≤ max_chunks) (sym same.leaves) c.requires.room in
    let more = ap length c.in_ok-extend_from_slice.ensures.items in
    let both = length-append plan.leaves.items c.args.leaves.now in
    kept_joined plan.limits plan.leaves.items c.extend_from_slice.new.self.items plan.segments.items c.add_run.new.segments.items c.args.run plan.block plan.guard plan.guard plan.closed c.self.invariant
    (omega (arith, more, both)) (omega (arith, more, both, room)) is c.in_ok-continued.ensures.added (omega (arith, more, both, c.self.invariant.ranges))

pub invariant_of-self-2 : goal.invariant_of-self-2
invariant_of-self-2 c =
    let plan = c.self.inside in
    let now : PlanState = record { settings = plan.limits; leaves = plan.leaves.items; segments = plan.segments.items; block = plan.block; choices = plan.choices.items; guard = plan.guard } in
    let same = asked_same c.args.self.now now c.args.run (length c.args.leaves.now) c.may_join.result
    (λ e. let r = c.may_join.ensures.continued e in (r.0, c.self.view_is ∙ r.1))
    (λ e. let r = c.may_join.ensures.asked e in (r.0, c.self.view_is ∙ r.1)) in
    let is : is_open c.args.run ≡ true → IsBlockRun plan.block c.args.run = λ o. subst (λ (cs : List Chunk). IsBlockRun cs c.args.run) (sym same.block) (c.requires.open o) in
    let room : length plan.leaves.items + length c.args.leaves.now ≤ max_chunks =
    subst (λ (ls : List (List ℕ × ℕ)). length ls + length c.args.leaves.now ≤ max_chunks) (sym same.leaves) c.requires.room in
    let more = ap length c.in_ok-extend_from_slice.ensures.items in
    let both = length-append plan.leaves.items c.args.leaves.now in
    kept_joined plan.limits plan.leaves.items c.extend_from_slice.new.self.items plan.segments.items c.add_run.new.segments.items c.args.run plan.block plan.guard c.add_range.new.guard plan.closed c.self.invariant
    (omega (arith, more, both)) (omega (arith, more, both, room)) is c.in_ok-continued.ensures.added (omega (arith, more, both, c.self.invariant.ranges, c.add_range.ensures.bound))

pub returns-clause-joined : goal.returns-clause-joined
returns-clause-joined c =
    let plan = c.self.inside in
    let now : PlanState = record { settings = plan.limits; leaves = plan.leaves.items; segments = plan.segments.items; block = plan.block; choices = plan.choices.items; guard = plan.guard } in
    let same = asked_same c.args.self.now now c.args.run (length c.args.leaves.now) c.may_join.result
    (λ e. let r = c.may_join.ensures.continued e in (r.0, c.self.view_is ∙ r.1))
    (λ e. let r = c.may_join.ensures.asked e in (r.0, c.self.view_is ∙ r.1)) in
    let goes : c.in_ok-continued.continued ≡ continues c.args.self.now.segments c.args.run =
    c.in_ok-continued.ensures.continued ∙ ap (λ (ss : List Segment). continues ss c.args.run) same.segments in
    let guard = guard_joined c.args.self.now now c.args.run (length c.args.leaves.now) c.may_join.result
    (λ e. let r = c.may_join.ensures.continued e in (r.0, c.self.view_is ∙ r.1))
    (λ e. let r = c.may_join.ensures.asked e in (r.0, c.self.view_is ∙ r.1)) c.in_ok-continued.continued c.add_range.new.guard goes c.add_range.ensures.range c.add_range.ensures.longer in
    let segments : c.add_run.new.segments.items ≡ with_run c.args.self.now.segments c.args.run =
    c.in_ok-continued.ensures.added ∙ ap (λ (ss : List Segment). with_run ss c.args.run) same.segments in
    let leaves : c.extend_from_slice.new.self.items ≡ c.args.self.now.leaves ++ c.args.leaves.now =
    c.in_ok-extend_from_slice.ensures.items ∙ ap (λ (ls : List (List ℕ × ℕ)). ls ++ c.args.leaves.now) same.leaves in
    let number : vec_len c.add_run.new.segments ≡ length c.add_run.new.segments.items = search rules in
    let index : c.len.result - 1 ≡ last_index (with_run c.args.self.now.segments c.args.run) = omega (arith, c.len.ensures, number, ap length segments) in
    let count : vec_len plan.choices ≡ length plan.choices.items = search rules in
    let made = more_choices plan.choices.items (Reused (c.len.result - 1)) (vec_len plan.choices) (c.len-2.result + length c.args.leaves.now) (length c.args.leaves.now) count (omega (arith, c.len-2.ensures)) in
    let choices : c.resize.new.self.items ≡ c.args.self.now.choices ++ replicate (length c.args.leaves.now) (Reused (last_index (with_run c.args.self.now.segments c.args.run))) =
    c.in_ok-resize.ensures.items ∙ made ∙ (λ i. same.choices i ++ replicate (length c.args.leaves.now) (Reused (index i))) in
    λ is i. record { settings = same.settings i; leaves = leaves i; segments = segments i; block = same.block i; choices = choices i; guard = guard i }
