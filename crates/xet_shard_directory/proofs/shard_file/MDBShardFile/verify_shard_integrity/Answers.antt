use Rattle.xet_shard_directory.proofs.shard_file.MDBShardFile.verify_shard_integrity.Goals as goal

pub returns-in-Ok-Some-clause-reason : goal.returns-in-Ok-Some-clause-reason
returns-in-Ok-Some-clause-reason g c = c.failed_check.ensures.error _ _
