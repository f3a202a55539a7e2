use Rattle.xet_file_plan.specs.theorems.Flags.{plan_since_plain}
use Rattle.xet_file_plan.proofs.laws.segments_have_no_flags.Goals as goal

pub returns : goal.returns
returns g c = λ interface. plan_since_plain (g.I.DeduplicationDataInterface.lists interface) (g.I.DeduplicationDataInterface.stands interface)
