use Rattle.xet_manager.proofs.manager.ShardFileManager.chunk_hash_dedup_query.Goals as goal

pub returns-clause-found : goal.returns-clause-found
returns-clause-found g c told shards held holds =
    rw (← c.self.view_is) (c.find_run.ensures.found (rw (← c.self.view_is) at told) shards (rw (← c.self.view_is) at held) (rw (← c.self.view_is) at holds))
