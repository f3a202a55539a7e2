use Rattle.xet_choices.specs.theorems.Choices.{run_joins}
use Rattle.xet_choices.proofs.laws.found_runs_join.Goals as goal

pub returns : goal.returns
returns c = run_joins
