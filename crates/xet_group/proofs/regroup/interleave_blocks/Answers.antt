use Rattle.std.proofs.Common.{refl, arith}
use Rattle.xet_group.proofs.Blocks.{block_stored}
use Rattle.xet_group.specs.Groups.{every_fourth}
use Rattle.xet_group.proofs.regroup.interleave_blocks.Goals as goal

pub blocks-2-init : goal.blocks-2-init
unfolding every_fourth
blocks-2-init c = refl

pub blocks-2-preserved : goal.blocks-2-preserved
blocks-2-preserved c =
    block_stored c.blocks-2.i c.blocks-2.out c.interleaved_block.result c.args.first.now c.args.second.now c.args.third.now c.args.fourth.now
    (omega arith) c.interleaved_block.ensures.len c.interleaved_block.ensures.groups c.blocks-2.invariant
