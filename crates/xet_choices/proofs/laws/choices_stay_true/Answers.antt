use Rattle.xet_choices.specs.theorems.Choices.{true_stays, true_with_calls, true_with_leaves}
use Rattle.xet_choices.proofs.laws.choices_stay_true.Goals as goal

pub returns-clause-grown : goal.returns-clause-grown
returns-clause-grown c = true_stays

pub returns-clause-calls : goal.returns-clause-calls
returns-clause-calls c = true_with_calls

pub returns-clause-leaves : goal.returns-clause-leaves
returns-clause-leaves c = true_with_leaves
