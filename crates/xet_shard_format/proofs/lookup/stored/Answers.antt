use Rattle.std.proofs.Common.{arith}
use Rattle.xet_shard_format.specs.declared.record.MDBXorbInfo.{MDBXorbInfo}
use Rattle.xet_shard_format.specs.theorems.Steps.{sum_lent}
use Rattle.xet_shard_format.proofs.lookup.stored.Goals as goal

pub overflow_add-total : goal.overflow_add-total
overflow_add-total g c =
    omega (arith, c.requires, c.loop-item.invariant, sum_lent g.T.Lends.lent (λ (x : MDBXorbInfo). x.metadata.num_bytes_in_xorb) c.args.blocks.now c.loop-item.item-index c.item-item.result c.lend.result.now c.loop-item-test.true c.item-item.is c.lend.ensures)

pub loop-item-preserved : goal.loop-item-preserved
loop-item-preserved g c =
    omega (arith, c.loop-item.invariant, sum_lent g.T.Lends.lent (λ (x : MDBXorbInfo). x.metadata.num_bytes_in_xorb) c.args.blocks.now c.loop-item.item-index c.item-item.result c.lend.result.now c.loop-item-test.true c.item-item.is c.lend.ensures)
