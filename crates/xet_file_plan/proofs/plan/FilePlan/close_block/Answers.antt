use Rattle.std.proofs.Common.{◌∙◌, length, sym, ap}
use Rattle.xet_file_plan.specs.Moves.{closed}
use Rattle.xet_file_plan.proofs.Keeping.{closed_segments, kept_closed}
use Rattle.xet_file_plan.proofs.plan.FilePlan.close_block.Goals as goal

pub invariant_of-self : goal.invariant_of-self
invariant_of-self c =
    let plan = c.self.inside in
    let hash = c.args.hash.now in
    let is = closed_segments plan.limits plan.leaves.items plan.segments.items c.deref_mut.result.now c.fill.new.segments plan.block plan.guard plan.closed plan.segments.len hash c.self.invariant c.deref_mut.ensures.value
    c.deref_mut.ensures.len c.fill.ensures in
    let count = c.len-self-inside.ensures ∙ sym c.deref_mut.ensures.len ∙ ap length c.deref_mut.ensures.value in
    kept_closed plan.limits plan.leaves.items plan.segments.items _ plan.block c.clear.new.self plan.guard plan.closed c.len-self-inside.result hash c.self.invariant c.requires is c.clear.ensures count

pub returns : goal.returns
returns c =
    let plan = c.self.inside in
    let hash = c.args.hash.now in
    let is = closed_segments plan.limits plan.leaves.items plan.segments.items c.deref_mut.result.now c.fill.new.segments plan.block plan.guard plan.closed plan.segments.len hash c.self.invariant c.deref_mut.ensures.value
    c.deref_mut.ensures.len c.fill.ensures in
    (λ i. record { settings = plan.limits; leaves = plan.leaves.items; segments = is i; block = c.clear.ensures i; choices = plan.choices.items; guard = plan.guard })
    ∙ (λ i. closed (c.self.view_is i) hash)
