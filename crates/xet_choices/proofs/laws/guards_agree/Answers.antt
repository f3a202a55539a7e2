use Rattle.xet_choices.specs.theorems.Guard.{asked_allowed, asked_refused, guard_with_longer_range, guard_with_range}
use Rattle.xet_choices.proofs.laws.guards_agree.Goals as goal

pub returns-clause-allowed : goal.returns-clause-allowed
returns-clause-allowed c = asked_allowed

pub returns-clause-refused : goal.returns-clause-refused
returns-clause-refused c = asked_refused

pub returns-clause-range : goal.returns-clause-range
returns-clause-range c = guard_with_range

pub returns-clause-longer : goal.returns-clause-longer
returns-clause-longer c = guard_with_longer_range
