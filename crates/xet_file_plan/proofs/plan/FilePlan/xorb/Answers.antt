use Rattle.xet_file_plan.proofs.Keeping.{parts_of_xorb}
use Rattle.xet_file_plan.proofs.plan.FilePlan.xorb.Goals as goal

pub xorb-requires : goal.xorb-requires
xorb-requires c = parts_of_xorb c.self.inside.limits c.self.inside.block c.self.invariant.range c.self.invariant.within
