use Rattle.xet_file_plan.specs.theorems.Storing.{refused_in_new_block_is_plan, stored_in_new_block_is_plan}
use Rattle.xet_file_plan.proofs.laws.stored_chunks_begin_blocks.Goals as goal

pub returns-clause-stored : goal.returns-clause-stored
returns-clause-stored g c = λ old new calls calls' leaves p chunk more choice x boundaries next extends. stored_in_new_block_is_plan (g.I.DeduplicationDataInterface.lists old) (g.I.DeduplicationDataInterface.lists new) (g.I.DeduplicationDataInterface.stands old) (g.I.DeduplicationDataInterface.stands new) calls calls' leaves p chunk more choice x boundaries next extends.lists extends.stands

pub returns-clause-refused : goal.returns-clause-refused
returns-clause-refused g c = λ old new calls calls' leaves p chunk more k x boundaries next extends. refused_in_new_block_is_plan (g.I.DeduplicationDataInterface.lists old) (g.I.DeduplicationDataInterface.lists new) (g.I.DeduplicationDataInterface.stands old) (g.I.DeduplicationDataInterface.stands new) calls calls' leaves p chunk more k x boundaries next extends.lists extends.stands
