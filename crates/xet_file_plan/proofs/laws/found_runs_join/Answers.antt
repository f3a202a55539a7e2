use Rattle.xet_file_plan.specs.theorems.Plans.{joined_is_plan}
use Rattle.xet_file_plan.proofs.laws.found_runs_join.Goals as goal

pub returns : goal.returns
returns g c = λ interface calls leaves p run first ls more. joined_is_plan (g.I.DeduplicationDataInterface.lists interface) (g.I.DeduplicationDataInterface.stands interface) calls leaves p run first ls more
