use Rattle.xet_xorb.proofs.Listed.{lengths_add}
use Rattle.xet_xorb.proofs.laws.lengths_add_up.Goals as goal

pub returns : goal.returns
returns c = lengths_add
