use Rattle.xet_file_plan.specs.theorems.Plans.{empty_is_plan}
use Rattle.xet_file_plan.proofs.laws.the_empty_plan_is_right.Goals as goal

pub returns : goal.returns
returns g c = λ interface leaves settings. empty_is_plan (g.I.DeduplicationDataInterface.lists interface) (g.I.DeduplicationDataInterface.stands interface) leaves settings
