use Rattle.xet_history.specs.theorems.Staying.{registered_twice}
use Rattle.xet_history.proofs.laws.registering_twice.Goals as goal

pub returns : goal.returns
returns c = registered_twice
