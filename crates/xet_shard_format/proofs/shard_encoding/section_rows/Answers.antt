use Rattle.std.proofs.Common.{◌+◌, arith, drop, map}
use Rattle.xet_shard_format.specs.theorems.Counts.{section_some}
use Rattle.xet_shard_format.specs.theorems.Steps.{lent_at, rows_step}
use Rattle.xet_shard_format.proofs.shard_encoding.section_rows.Goals as goal

pub num_rows-rows-requires : goal.num_rows-rows-requires
num_rows-rows-requires g c =
    let at = lent_at g.T.Lends.lent c.args.records.now c.loop-item.item-index c.item-item.result c.lend.result.now c.loop-item-test.true c.item-item.is c.lend.ensures in
    omega (arith, c.requires, c.loop-item.invariant, rows_step g.R.Record.rows_of _ c.loop-item.item-index c.lend.result.now at.0 at.1, section_some g.R.Record.rows_of (drop (c.loop-item.item-index + 1) (map g.T.Lends.lent c.args.records.now)))

pub overflow_add-rows : goal.overflow_add-rows
overflow_add-rows g c =
    let at = lent_at g.T.Lends.lent c.args.records.now c.loop-item.item-index c.item-item.result c.lend.result.now c.loop-item-test.true c.item-item.is c.lend.ensures in
    omega (arith, c.requires, c.loop-item.invariant, c.num_rows-rows.ensures, rows_step g.R.Record.rows_of _ c.loop-item.item-index c.lend.result.now at.0 at.1, section_some g.R.Record.rows_of (drop (c.loop-item.item-index + 1) (map g.T.Lends.lent c.args.records.now)))

pub loop-item-preserved : goal.loop-item-preserved
loop-item-preserved g c =
    let at = lent_at g.T.Lends.lent c.args.records.now c.loop-item.item-index c.item-item.result c.lend.result.now c.loop-item-test.true c.item-item.is c.lend.ensures in
    omega (arith, c.loop-item.invariant, c.num_rows-rows.ensures, rows_step g.R.Record.rows_of _ c.loop-item.item-index c.lend.result.now at.0 at.1)
