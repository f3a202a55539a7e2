use Rattle.xet_store.specs.theorems.Sound.{sound_core}
use Rattle.xet_store.proofs.store.Store.recall_core.Goals as goal

pub returns : goal.returns
returns g c = λ told. sound_core c.args.self.now c.recall_sound.ensures c.recall_invariant.ensures told
