use Rattle.std.proofs.Common.{◌*◌}
use Rattle.std.proofs.lemmas.Simd.{length-chunk}
use Rattle.xet_group.proofs.Blocks.{four_lanes}
use Rattle.xet_group.proofs.regroup.interleaved_block.Goals as goal

pub returns-clause-groups : goal.returns-clause-groups
returns-clause-groups c =
    let r = c.requires in
    four_lanes _ _ _ _ (length-chunk (4 * c.args.i) 4 c.args.first.now r.first) (length-chunk (4 * c.args.i) 4 c.args.second.now r.second)
    (length-chunk (4 * c.args.i) 4 c.args.third.now r.third) (length-chunk (4 * c.args.i) 4 c.args.fourth.now r.fourth)
