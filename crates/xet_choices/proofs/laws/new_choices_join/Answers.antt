use Rattle.xet_choices.specs.theorems.Choices.{all_join, choices_join, stored_joins}
use Rattle.xet_choices.proofs.laws.new_choices_join.Goals as goal

pub returns-clause-grown : goal.returns-clause-grown
returns-clause-grown c = all_join

pub returns-clause-choices : goal.returns-clause-choices
returns-clause-choices c = choices_join

pub returns-clause-stored : goal.returns-clause-stored
returns-clause-stored c = stored_joins
