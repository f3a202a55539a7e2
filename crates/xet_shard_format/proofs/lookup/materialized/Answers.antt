use Rattle.std.proofs.Common.{arith}
use Rattle.xet_shard_format.specs.declared.record.MDBFileInfo.{MDBFileInfo}
use Rattle.xet_shard_format.specs.Records.{segment_bytes}
use Rattle.xet_shard_format.specs.theorems.Steps.{sum_lent}
use Rattle.xet_shard_format.proofs.lookup.materialized.Goals as goal

pub file_bytes-total-requires : goal.file_bytes-total-requires
file_bytes-total-requires g c =
    omega (arith, c.requires, c.loop-item.invariant, sum_lent g.T.Lends.lent (λ (f : MDBFileInfo). segment_bytes f.segments) c.args.files.now c.loop-item.item-index c.item-item.result c.lend.result.now c.loop-item-test.true c.item-item.is c.lend.ensures)

pub overflow_add-total : goal.overflow_add-total
overflow_add-total g c =
    omega (arith, c.requires, c.loop-item.invariant, c.file_bytes-total.ensures, sum_lent g.T.Lends.lent (λ (f : MDBFileInfo). segment_bytes f.segments) c.args.files.now c.loop-item.item-index c.item-item.result c.lend.result.now c.loop-item-test.true c.item-item.is c.lend.ensures)

pub loop-item-preserved : goal.loop-item-preserved
loop-item-preserved g c =
    omega (arith, c.loop-item.invariant, c.file_bytes-total.ensures, sum_lent g.T.Lends.lent (λ (f : MDBFileInfo). segment_bytes f.segments) c.args.files.now c.loop-item.item-index c.item-item.result c.lend.result.now c.loop-item-test.true c.item-item.is c.lend.ensures)
