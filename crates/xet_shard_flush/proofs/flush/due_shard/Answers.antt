use Rattle.xet_shard_flush.proofs.flush.due_shard.Goals as goal

pub returns-in-Some-clause-due : goal.returns-in-Some-clause-due
returns-in-Some-clause-due c = c.requires c.in-Some.due c.in-Some.is
