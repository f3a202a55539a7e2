use Rattle.std.proofs.Common.{◌∙◌, ◌+◌, ◌*◌, List, ℕ, ap, arith, take}
use Rattle.xet_group.proofs.Blocks.{part_stored}
use Rattle.xet_group.proofs.Fourths.{length-fourth}
use Rattle.xet_group.specs.Groups.{every_fourth}
use Rattle.xet_group.proofs.split.split_into.Goals as goal

pub blocks-2-preserved : goal.blocks-2-preserved
blocks-2-preserved c =
    let i = c.blocks-2.i in
    let b = c.args.b.now in
    let next : List ℕ → List ℕ = take (4 * (i + 1)) in
    record {
      first = ap next c.split_block.ensures.first ∙ part_stored i c.blocks-2.first (every_fourth 0 b) (omega arith) (omega (arith, length-fourth 0 b)) c.blocks-2.invariant.first;
      second = ap next c.split_block.ensures.second ∙ part_stored i c.blocks-2.second (every_fourth 1 b) (omega arith) (omega (arith, length-fourth 1 b)) c.blocks-2.invariant.second;
      third = ap next c.split_block.ensures.third ∙ part_stored i c.blocks-2.third (every_fourth 2 b) (omega arith) (omega (arith, length-fourth 2 b)) c.blocks-2.invariant.third;
      fourth = ap next c.split_block.ensures.fourth ∙ part_stored i c.blocks-2.fourth (every_fourth 3 b) (omega arith) (omega (arith, length-fourth 3 b)) c.blocks-2.invariant.fourth;
    }
