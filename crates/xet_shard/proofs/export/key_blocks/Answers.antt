use Rattle.std.proofs.Common.{◌∙◌}
use Rattle.xet_shard.specs.Export.{keyed_block}
use Rattle.xet_shard.proofs.Keying.{changed_all, changed_more, changed_none}
use Rattle.xet_shard.proofs.export.key_blocks.Goals as goal

pub loop-block-init : goal.loop-block-init
loop-block-init c = changed_none (keyed_block c.args.key) c.args.blocks.now

pub loop-block-preserved : goal.loop-block-preserved
loop-block-preserved c =
    changed_more (keyed_block c.args.key) c.args.blocks.now c.loop-block.blocks c.loop-block.block-index c.block-item.result c.key_block.new.block c.loop-block-test.true c.loop-block.invariant c.key_block.ensures

pub returns : goal.returns
returns c = c.loop-block.invariant ∙ changed_all (keyed_block c.args.key) c.args.blocks.now c.loop-block.block-index c.loop-block-test.false
