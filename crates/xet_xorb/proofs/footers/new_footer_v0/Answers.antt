use Rattle.std.proofs.Common.{ap, arith, length}
use Rattle.xet_xorb.specs.theorems.OfLeaves.{length-ends}
use Rattle.xet_xorb.proofs.footers.new_footer_v0.Goals as goal

pub returns-clause-stored : goal.returns-clause-stored
returns-clause-stored c =
    let stored = ap length c.in_ok-stored.ensures.ends in rw c.from_lists.ensures (omega (arith, stored, length-ends 8 0 c.args.leaves.now, c.requires.few))
