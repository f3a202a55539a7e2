use Rattle.std.proofs.Common.{◌∙◌, ap, arith, rules}
use Rattle.xet_shard_format.specs.Records.{first_word}
use Rattle.xet_shard_format.specs.theorems.Steps.{heads_end, heads_grow, lent_at, none_lent, rows_step}
use Rattle.xet_shard_format.proofs.lookup.push_heads.Goals as goal

pub num_rows-row-requires : goal.num_rows-row-requires
num_rows-row-requires g c =
    let at = lent_at g.T.Lends.lent c.args.records.now c.loop-item.item-index c.item-item.result c.lend-record.result.now c.loop-item-test.true c.item-item.is c.lend-record.ensures in
    omega (arith, c.requires, c.loop-item.invariant.row, rows_step g.R.Record.rows_of _ c.loop-item.item-index c.lend-record.result.now at.0 at.1)

pub overflow_add-row : goal.overflow_add-row
overflow_add-row g c =
    let at = lent_at g.T.Lends.lent c.args.records.now c.loop-item.item-index c.item-item.result c.lend-record.result.now c.loop-item-test.true c.item-item.is c.lend-record.ensures in
    omega (arith, c.requires, c.loop-item.invariant.row, c.num_rows-row.ensures, rows_step g.R.Record.rows_of _ c.loop-item.item-index c.lend-record.result.now at.0 at.1)

pub loop-item-preserved : goal.loop-item-preserved
loop-item-preserved g c =
    let at = lent_at g.T.Lends.lent c.args.records.now c.loop-item.item-index c.item-item.result c.lend-record.result.now c.loop-item-test.true c.item-item.is c.lend-record.ensures in
    record {
      row = omega (arith, c.loop-item.invariant.row, c.num_rows-row.ensures, rows_step g.R.Record.rows_of _ c.loop-item.item-index c.lend-record.result.now at.0 at.1);
      so_far = heads_grow g.R.Record.hash_of g.R.Record.rows_of c.loop-item.encoding.items c.extend_from_slice.new.self.items c.extend_from_slice-in-loop-item.new.self.items _ c.loop-item.row c.num_rows-row.result c.word.result _ c.loop-item.item-index c.lend-record.result.now at.0 at.1 (search rules) (search rules) (c.word.ensures ∙ ap first_word c.hash.ensures) c.num_rows-row.ensures c.loop-item.invariant.so_far;
    }

pub returns : goal.returns
returns g c = heads_end g.R.Record.hash_of g.R.Record.rows_of c.loop-item.encoding.items _ c.loop-item.row _ c.loop-item.item-index (none_lent g.T.Lends.lent c.args.records.now c.loop-item.item-index c.loop-item-test.false) c.loop-item.invariant.so_far
