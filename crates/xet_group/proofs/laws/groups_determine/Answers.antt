use Rattle.xet_group.proofs.Woven.{same_groups}
use Rattle.xet_group.proofs.laws.groups_determine.Goals as goal

pub returns : goal.returns
returns c = same_groups
