use Rattle.xet_file_plan.specs.theorems.Plans.{plan_stays}
use Rattle.xet_file_plan.proofs.laws.plans_stay_right.Goals as goal

pub returns : goal.returns
returns g c = λ old new calls calls' added leaves leaves' more p extends. plan_stays (g.I.DeduplicationDataInterface.lists old) (g.I.DeduplicationDataInterface.lists new) (g.I.DeduplicationDataInterface.stands old) (g.I.DeduplicationDataInterface.stands new) calls calls' added leaves leaves' more p extends.lists extends.stands
