use Rattle.xet_group.proofs.Woven.{some_grouped}
use Rattle.xet_group.proofs.laws.every_list_is_grouped.Goals as goal

pub returns : goal.returns
returns c = some_grouped
