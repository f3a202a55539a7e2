use Rattle.xet_group.proofs.Woven.{same_grouped}
use Rattle.xet_group.proofs.laws.split_determines.Goals as goal

pub returns : goal.returns
returns c = same_grouped
