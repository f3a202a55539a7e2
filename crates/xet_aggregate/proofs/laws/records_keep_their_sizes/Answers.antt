use Rattle.xet_aggregate.specs.theorems.Sizes.{KeepsSizes-filled, KeepsSizes-shifted, closed-filled, opens-shifted}
use Rattle.xet_aggregate.proofs.laws.records_keep_their_sizes.Goals as goal

pub returns-clause-shifted : goal.returns-clause-shifted
returns-clause-shifted c = KeepsSizes-shifted

pub returns-clause-opens : goal.returns-clause-opens
returns-clause-opens c = opens-shifted

pub returns-clause-filled : goal.returns-clause-filled
returns-clause-filled c = KeepsSizes-filled

pub returns-clause-closed : goal.returns-clause-closed
returns-clause-closed c = closed-filled
