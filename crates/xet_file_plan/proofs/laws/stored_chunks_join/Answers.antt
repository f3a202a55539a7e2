use Rattle.xet_file_plan.specs.theorems.Storing.{refused_is_plan, stored_is_plan}
use Rattle.xet_file_plan.proofs.laws.stored_chunks_join.Goals as goal

pub returns-clause-stored : goal.returns-clause-stored
returns-clause-stored g c = λ interface calls leaves p chunk more choice. stored_is_plan (g.I.DeduplicationDataInterface.lists interface) (g.I.DeduplicationDataInterface.stands interface) calls leaves p chunk more choice

pub returns-clause-refused : goal.returns-clause-refused
returns-clause-refused g c = λ interface calls leaves p chunk more k. refused_is_plan (g.I.DeduplicationDataInterface.lists interface) (g.I.DeduplicationDataInterface.stands interface) calls leaves p chunk more k
