use Rattle.xet_file_plan.specs.theorems.Since.{empty_since, joined_since, plan_since_stays, stored_in_new_block_since, stored_since}
use Rattle.xet_file_plan.proofs.laws.plans_since_stay_right.Goals as goal

pub returns-clause-empty : goal.returns-clause-empty
returns-clause-empty g c = λ interface before leaves settings. empty_since (g.I.DeduplicationDataInterface.lists interface) (g.I.DeduplicationDataInterface.stands interface) before leaves settings

pub returns-clause-known : goal.returns-clause-known
returns-clause-known g c = λ old new before calls calls' added leaves leaves' more p extends. plan_since_stays (g.I.DeduplicationDataInterface.lists old) (g.I.DeduplicationDataInterface.lists new) (g.I.DeduplicationDataInterface.stands old) (g.I.DeduplicationDataInterface.stands new) before calls calls' added leaves leaves' more p extends.lists extends.stands

pub returns-clause-joined : goal.returns-clause-joined
returns-clause-joined g c = λ interface before calls leaves p run first ls more plan. joined_since (g.I.DeduplicationDataInterface.lists interface) (g.I.DeduplicationDataInterface.stands interface) before calls leaves p run first ls more plan

pub returns-clause-stored : goal.returns-clause-stored
returns-clause-stored g c = λ interface before calls leaves p chunk more choice plan. stored_since (g.I.DeduplicationDataInterface.lists interface) (g.I.DeduplicationDataInterface.stands interface) before calls leaves p chunk more choice plan

pub returns-clause-in_new_block : goal.returns-clause-in_new_block
returns-clause-in_new_block g c = λ old new before calls calls' leaves p chunk more choice x boundaries next extends. stored_in_new_block_since (g.I.DeduplicationDataInterface.lists old) (g.I.DeduplicationDataInterface.lists new) (g.I.DeduplicationDataInterface.stands old) (g.I.DeduplicationDataInterface.stands new) before calls calls' leaves p chunk more choice x boundaries next extends.lists extends.stands
