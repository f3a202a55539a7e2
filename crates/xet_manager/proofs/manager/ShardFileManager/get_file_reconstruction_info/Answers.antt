use Rattle.xet_manager.proofs.manager.ShardFileManager.get_file_reconstruction_info.Goals as goal

pub returns-clause-found : goal.returns-clause-found
returns-clause-found g c told shards held holds =
    rw (← c.self.view_is) (c.find_file.ensures.found (rw (← c.self.view_is) at told) shards (rw (← c.self.view_is) at held) (rw (← c.self.view_is) at holds))

pub returns-clause-pending : goal.returns-clause-pending
returns-clause-pending g c other f found =
    let p = c.find_file.ensures.pending other f (rw (← c.self.view_is) at found) in
    (p.0, p.1, rw p.2 c.self.view_is)
