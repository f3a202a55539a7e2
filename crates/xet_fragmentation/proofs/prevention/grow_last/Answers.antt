use Rattle.std.proofs.Common.{◌≡◌, ◌-◌, get_or, arith, deque_len}
use Rattle.xet_fragmentation.proofs.Growing.{set_last-grown, last-le-grown}
use Rattle.xet_fragmentation.proofs.prevention.grow_last.Goals as goal

pub overflow_add-last : goal.overflow_add-last
overflow_add-last c =
    let last : c.in-Some.last.now ≡ get_or c.args.ranges.now.items (deque_len c.args.ranges.now - 1) 0 = c.in-Some.ensures.item.3.1 0 in
    omega (arith, last, c.requires, last-le-grown c.args.n c.args.ranges.now.items (deque_len c.args.ranges.now - 1) (omega (arith, c.in-Some.ensures.item.3.0)))

pub returns-in-Some-clause-items : goal.returns-in-Some-clause-items
returns-in-Some-clause-items c =
    let last : c.in-Some.last.now ≡ get_or c.args.ranges.now.items (deque_len c.args.ranges.now - 1) 0 = c.in-Some.ensures.item.3.1 0 in
    rw last (set_last-grown c.args.n c.args.ranges.now.items (deque_len c.args.ranges.now - 1) (omega (arith, c.in-Some.ensures.item.3.0)))
