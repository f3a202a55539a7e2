use Rattle.xet_workers.proofs.clean.clean_passes.Goals as goal

pub returns : goal.returns
returns g c = c.clean_to_end-store.ensures c.recall_sound.ensures c.recall_invariant.ensures
