use Rattle.std.proofs.Common.{subst}
use Rattle.xet_store.specs.Alone.{AloneState}
use Rattle.xet_store.specs.Holders.{IsHolder}
use Rattle.xet_store.proofs.Holding.{holds_alone}
use Rattle.xet_store.proofs.Returned.{of_state}
use Rattle.xet_store.proofs.alone.AloneStepping.recall_invariant.Goals as goal

pub returns : goal.returns
returns g c = subst (λ (s : AloneState). IsHolder (of_state s)) c.self.view_is (holds_alone c.self.inside.start.value c.self.inside.store c.self.inside.stopped c.self.invariant)
