use Rattle.std.proofs.Common.{arith}
use Rattle.xet_shard_format.specs.Records.{xorb_rows}
use Rattle.xet_shard.proofs.ItemLists.{heads_of_next, heads_of_none, no_more, one_more}
use Rattle.xet_shard_format.specs.theorems.Steps.{rows_step}
use Rattle.xet_shard.proofs.reader.lookup_items.heads_of.Goals as goal

pub loop-block-preserved : goal.loop-block-preserved
loop-block-preserved c =
    let xs = c.args.blocks.now in
    let i = c.loop-block.block-index in
    let x = c.block-item.result in
    record {
      row = omega (arith, c.loop-block.invariant.row, c.num_rows.ensures, rows_step xorb_rows xs i x c.loop-block-test.true c.block-item.is);
      so_far = one_more c.loop-block.found.items c.push.new.self.items _ _ _ _ c.in_ok-push.ensures.items
          (heads_of_next c.loop-block.row xs i x c.num_rows.result c.loop-block-test.true c.block-item.is c.num_rows.ensures) c.loop-block.invariant.so_far;
    }

pub returns : goal.returns
returns c = no_more c.loop-block.found.items _ _ (heads_of_none c.loop-block.row c.args.blocks.now c.loop-block.block-index c.loop-block-test.false) c.loop-block.invariant.so_far
