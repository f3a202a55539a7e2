use Rattle.xet_aggregate.specs.theorems.Merging.{empty-merged, merged-empty, merged_assoc}
use Rattle.xet_aggregate.proofs.laws.merging_is_associative.Goals as goal

pub returns-clause-associative : goal.returns-clause-associative
returns-clause-associative c = merged_assoc

pub returns-clause-empty_first : goal.returns-clause-empty_first
returns-clause-empty_first c = empty-merged

pub returns-clause-empty_last : goal.returns-clause-empty_last
returns-clause-empty_last c = merged-empty
