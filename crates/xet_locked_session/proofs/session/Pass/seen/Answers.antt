use Rattle.std.proofs.Common.{◌∙◌, length, ap}
use Rattle.xet_store.specs.Holders.{Holder, seen}
use Rattle.xet_locked_session.proofs.session.Pass.seen.Goals as goal

pub returns : goal.returns
returns g c = c.self.invariant.1 ∙ ap (λ (h : Holder). length (seen h)) c.self.view_is
