use Rattle.std.proofs.Common.{false, subst, sym}
use Rattle.xet_store.specs.Recorded.{RecordedState}
use Rattle.xet_locked_session.specs.Session.{IsSince}
use Rattle.xet_locked_session.specs.internal.Guarded.{IsGuarded}
use Rattle.xet_locked_session.proofs.Guarding.{guarded_first}
use Rattle.xet_locked_session.proofs.Since.{since_nothing}
use Rattle.xet_locked_session.proofs.session.SharedStore.new.Goals as goal

pub invariant_of-desk : goal.invariant_of-desk
invariant_of-desk g c = subst (λ (s : RecordedState). IsSince g.J.Naming.store s) (sym c.requires.store) (since_nothing g.J.Naming.store)

pub invariant_of-guarded : goal.invariant_of-guarded
invariant_of-guarded g c =
    (c.requires.stops, subst (λ (s : RecordedState). IsGuarded g.J.Naming.store g.J.Naming.stops false s) (sym c.requires.store) (guarded_first g.J.Naming.store g.J.Naming.stops))
