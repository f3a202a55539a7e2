use Rattle.std.proofs.Common.{rules, ◌≡◌, ◌∙◌, Bool, ap, sym, subst}
use Rattle.std.specs.Prelude.{◌&&◌}
use Rattle.std.specs.Result.{is_err}
use Rattle.xet_history.specs.declared.entry.StepKind.TheVariants as kind
use Rattle.xet_store.specs.Stepping.{cut_to_register}
use Rattle.xet_xorb.specs.Raw.{raw_leaves}
use Rattle.xet_store.specs.Recorded.{RecordedState}
use Rattle.xet_locked_session.specs.Session.{IsSince}
use Rattle.xet_locked_session.specs.internal.Guarded.{IsGuarded}
use Rattle.xet_locked_session.proofs.Guarding.{guarded_step, nothing_failed}
use Rattle.xet_locked_session.proofs.session.Guarded.register_xorb.Goals as goal

pub returns-then-self-clause-refused : goal.returns-then-self-clause-refused
returns-then-self-clause-refused g c = nothing_failed kind.Register (cut_to_register c.args.pass.now (raw_leaves c.args.xorb)) c.args.pass.now

pub invariant_of-self : goal.invariant_of-self
invariant_of-self g c =
    let start = g.J.Naming.store in
    let stops = g.J.Naming.stops in
    let result = c.register_xorb-result.result in
    let now = c.self.inside.desk in
    let new = c.register_xorb-result.new.self in
    let last : c.if-self-2.self ≡ (stops && is_err result) = search rules in
    let is : IsSince start now = subst (λ (s : RecordedState). IsSince start s) (ap (λ s. s.desk) c.self-inside.view_is) c.recall_invariant.ensures.since in (
      c.self.invariant.0,
      subst (λ (b : Bool). IsGuarded start stops b new) (sym last)
          (guarded_step start stops result c.self.inside.stopped c.args.pass.now.number now new (sym (ap (λ s. s.stopped) c.self-inside.view_is) ∙ c.if-self.false) is c.self.invariant.1 c.register_xorb-result.ensures.made c.register_xorb-result.ensures.failed),
    )
