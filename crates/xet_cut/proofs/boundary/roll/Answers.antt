use Rattle.std.proofs.Common.{refl, arith}
use Rattle.xet_cut.specs.internal.Boundary.{rolled}
use Rattle.xet_cut.proofs.Boundaries.{rolled_more}
use Rattle.xet_cut.proofs.boundary.roll.Goals as goal

pub loop-byte-init : goal.loop-byte-init
unfolding rolled
loop-byte-init c = refl

pub loop-byte-preserved : goal.loop-byte-preserved
loop-byte-preserved c =
    rolled_more c.args.gear.now c.args.bytes.now c.args.start c.loop-byte.byte-index c.loop-byte.hash c.loop-byte.invariant (omega arith)
