use Rattle.xet_cut.specs.theorems.Ranges.{are_in_range}
use Rattle.xet_cut.proofs.limits.Limits.new.Goals as goal

pub invariant_of-result : goal.invariant_of-result
invariant_of-result c = are_in_range c.args.settings cc
