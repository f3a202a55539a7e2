use Rattle.std.proofs.Common.{◌+◌, ◌-◌, length}
use Rattle.xet_fragmentation.proofs.Queries.{asked-chunks}
use Rattle.xet_fragmentation.proofs.Growing.{drop_push-le, grown-le}
use Rattle.xet_fragmentation.proofs.laws.chunks_are_bounded.Goals as goal

pub returns-clause-range : goal.returns-clause-range
returns-clause-range c = λ f n. drop_push-le (length f.ranges + 1 - f.window) n f.ranges

pub returns-clause-longer : goal.returns-clause-longer
returns-clause-longer c = λ f n. grown-le n f.ranges

pub returns-clause-asked : goal.returns-clause-asked
returns-clause-asked c = asked-chunks
