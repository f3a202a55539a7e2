use Rattle.std.proofs.Common.{◌<◌, ◌+◌, ◌^◌, arith, drop, length, map}
use Rattle.xet_shard_format.specs.theorems.Counts.{section_some}
use Rattle.xet_shard_format.specs.theorems.Steps.{lent_at, rows_step}
use Rattle.xet_shard.proofs.Uniting.{all_at}
use Rattle.xet_shard.proofs.union.is_few.Goals as goal

pub num_rows-requires : goal.num_rows-requires
num_rows-requires g c =
    let at = lent_at g.T.Lends.lent c.args.records.now c.loop-item.item-index c.item-item.result c.lend.result.now c.loop-item-test.true c.item-item.is c.lend.ensures in
    all_at (λ r. length (g.R.Record.rows_of r) < 2 ^ 32) (map g.T.Lends.lent c.args.records.now) c.loop-item.item-index c.lend.result.now c.requires at.0 at.1

pub loop-item-preserved : goal.loop-item-preserved
loop-item-preserved g c =
    let at = lent_at g.T.Lends.lent c.args.records.now c.loop-item.item-index c.item-item.result c.lend.result.now c.loop-item-test.true c.item-item.is c.lend.ensures in
    record {
      sum = omega (arith, c.loop-item.invariant.sum, c.num_rows.ensures, c.from-rows.ensures, rows_step g.R.Record.rows_of _ c.loop-item.item-index c.lend.result.now at.0 at.1);
      below = omega (arith, c.if-rows.false);
    }

pub returns-then-rows-clause-many : goal.returns-then-rows-clause-many
returns-then-rows-clause-many g c = λ _.
    let at = lent_at g.T.Lends.lent c.args.records.now c.loop-item.item-index c.item-item.result c.lend.result.now c.loop-item-test.true c.item-item.is c.lend.ensures in
    omega (arith, c.if-rows.true, c.loop-item.invariant.sum, c.num_rows.ensures, c.from-rows.ensures, rows_step g.R.Record.rows_of _ c.loop-item.item-index c.lend.result.now at.0 at.1, section_some g.R.Record.rows_of (drop (c.loop-item.item-index + 1) (map g.T.Lends.lent c.args.records.now)))
