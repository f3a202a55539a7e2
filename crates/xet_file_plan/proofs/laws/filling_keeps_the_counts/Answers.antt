use Rattle.xet_file_plan.specs.theorems.Placed.{counts_filled}
use Rattle.xet_file_plan.proofs.laws.filling_keeps_the_counts.Goals as goal

pub returns : goal.returns
returns c = counts_filled
