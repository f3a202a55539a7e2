use Rattle.xet_aggregate.specs.theorems.Merging.{IsAggregate-fits, IsAggregate-merged}
use Rattle.xet_aggregate.proofs.laws.merged_is_aggregate.Goals as goal

pub returns-clause-parts : goal.returns-clause-parts
returns-clause-parts c = IsAggregate-merged

pub returns-clause-fits : goal.returns-clause-fits
returns-clause-fits c = IsAggregate-fits
