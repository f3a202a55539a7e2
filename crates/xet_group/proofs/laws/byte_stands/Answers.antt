use Rattle.xet_group.proofs.Fourths.{fourth_stands}
use Rattle.xet_group.proofs.laws.byte_stands.Goals as goal

pub returns : goal.returns
returns c = fourth_stands
