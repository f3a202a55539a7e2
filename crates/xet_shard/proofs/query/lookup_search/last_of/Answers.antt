use Rattle.xet_shard.proofs.Asking.{last_done, last_other, last_same}
use Rattle.xet_shard.proofs.query.lookup_search.last_of.Goals as goal
use Rattle.xet_shard.proofs.query.lookup_search.last_of.Goals.{then-item-first, else-item-first}

pub loop-item-preserved : goal.loop-item-preserved
loop-item-preserved c = elim c.if-item-first.branch [
  | then-item-first w ↦ rw w.found-is (last_same c.args.first c.loop-item.found c.args.items.now c.loop-item.item-index (0, (0, 0)) _ c.loop-item-test.true w.if-item-first.true c.loop-item.invariant)
  | else-item-first w ↦ rw w.found-is (last_other c.args.first c.loop-item.found c.args.items.now c.loop-item.item-index (0, (0, 0)) _ c.loop-item-test.true w.if-item-first.false c.loop-item.invariant)
]

pub returns : goal.returns
returns c = last_done c.args.first c.loop-item.found c.args.items.now c.loop-item.item-index _ c.loop-item-test.false c.loop-item.invariant
