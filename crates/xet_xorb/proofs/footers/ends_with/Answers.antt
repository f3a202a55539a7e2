use Rattle.std.proofs.Common.{◌^◌, arith}
use Rattle.xet_xorb.specs.theorems.OfLeaves.{end_below, no_more, one_end_more, total_step}
use Rattle.xet_xorb.proofs.footers.ends_with.Goals as goal

pub loop-leaf-preserved : goal.loop-leaf-preserved
loop-leaf-preserved c =
    let ms = c.args.leaves.now in
    let i = c.loop-leaf.leaf-index in
    let m = c.leaf-item.result in (
      one_end_more c.args.before c.loop-leaf.end ms i m _ _ _ (omega arith) c.leaf-item.is c.in_ok-push.ensures.items c.loop-leaf.invariant.0,
      omega (arith, total_step c.args.before ms i m (omega arith) c.leaf-item.is),
    )

pub overflow_add-end : goal.overflow_add-end
overflow_add-end c =
    omega (arith, end_below c.args.before c.loop-leaf.end c.args.leaves.now c.loop-leaf.leaf-index c.leaf-item.result (2 ^ 32) (omega arith) c.leaf-item.is c.loop-leaf.invariant.1 c.requires)

pub overflow_add-end-in-loop-leaf : goal.overflow_add-end-in-loop-leaf
overflow_add-end-in-loop-leaf c =
    omega (arith, end_below c.args.before c.loop-leaf.end c.args.leaves.now c.loop-leaf.leaf-index c.leaf-item.result (2 ^ 32) (omega arith) c.leaf-item.is c.loop-leaf.invariant.1 c.requires)

pub overflow_cast-end : goal.overflow_cast-end
overflow_cast-end c =
    omega (arith, end_below c.args.before c.loop-leaf.end c.args.leaves.now c.loop-leaf.leaf-index c.leaf-item.result (2 ^ 32) (omega arith) c.leaf-item.is c.loop-leaf.invariant.1 c.requires)

pub returns-clause-ends : goal.returns-clause-ends
returns-clause-ends c =
    no_more c.args.before c.loop-leaf.end c.args.leaves.now c.loop-leaf.leaf-index c.loop-leaf.ends.items _ (omega arith) c.loop-leaf.invariant.0
