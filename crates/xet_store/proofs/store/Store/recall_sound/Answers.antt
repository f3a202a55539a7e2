use Rattle.std.proofs.Common.{subst}
use Rattle.xet_store.specs.Recorded.{RecordedState}
use Rattle.xet_store_disk.specs.Store.{Sound}
use Rattle.xet_store.proofs.store.Store.recall_sound.Goals as goal

pub returns : goal.returns
returns g c = subst (λ (s : RecordedState). Sound s.store) c.self.view_is c.recall_invariant.ensures
