use Rattle.std.proofs.Common.{◌∙◌, sym, subst}
use Rattle.xet_store.specs.Recorded.{RecordedState}
use Rattle.xet_locked_session.specs.internal.Guarded.{IsGuarded}
use Rattle.xet_locked_session.proofs.Guarding.{guarded_few}
use Rattle.xet_locked_session.proofs.session.SharedStore.abandon.Goals as goal

pub returns-clause-made : goal.returns-clause-made
returns-clause-made g c = (subst (λ (s : RecordedState). IsGuarded g.J.Naming.store g.J.Naming.stops c.desk.inside.stopped s) (sym (c.store.view_is ∙ c.desk-2.view_is)) c.desk.invariant.1).made

pub returns-clause-one : goal.returns-clause-one
returns-clause-one g c =
    guarded_few g.J.Naming.store g.J.Naming.stops c.desk.inside.stopped c.store.inside.store
    (subst (λ (s : RecordedState). IsGuarded g.J.Naming.store g.J.Naming.stops c.desk.inside.stopped s) (sym (c.store.view_is ∙ c.desk-2.view_is)) c.desk.invariant.1)
