use Rattle.xet_file_plan.specs.theorems.Plans.{chunks_of_plan, closed_of_plan, open_of_plan, some_of_plan}
use Rattle.xet_file_plan.proofs.laws.segments_have_the_chunks.Goals as goal

pub returns-clause-chunks : goal.returns-clause-chunks
returns-clause-chunks g c = λ interface calls leaves p plan. chunks_of_plan (g.I.DeduplicationDataInterface.lists interface) (g.I.DeduplicationDataInterface.stands interface) calls leaves p plan

pub returns-clause-some : goal.returns-clause-some
returns-clause-some g c = λ interface calls leaves p plan. some_of_plan (g.I.DeduplicationDataInterface.lists interface) (g.I.DeduplicationDataInterface.stands interface) calls leaves p plan

pub returns-clause-open : goal.returns-clause-open
returns-clause-open g c = λ interface calls leaves p plan. open_of_plan (g.I.DeduplicationDataInterface.lists interface) (g.I.DeduplicationDataInterface.stands interface) calls leaves p plan

pub returns-clause-closed : goal.returns-clause-closed
returns-clause-closed g c = λ interface calls leaves p plan. closed_of_plan (g.I.DeduplicationDataInterface.lists interface) (g.I.DeduplicationDataInterface.stands interface) calls leaves p plan
