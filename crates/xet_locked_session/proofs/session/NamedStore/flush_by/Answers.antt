use Rattle.std.proofs.Common.{◌≡◌, ◌+◌, IfOk, [], ap, arith, length, length-append, subst}
use Rattle.xet_base.specs.theorems.Exits.{exit_with}
use Rattle.xet_hash.specs.declared.error.StoreError.TheVariants.{OutOfMemory}
use Rattle.xet_history.specs.declared.entry.StepKind.TheVariants as kind
use Rattle.xet_store.specs.Recorded.{RecordedState}
use Rattle.xet_locked_session.specs.internal.Made.{Flushed, Grew}
use Rattle.xet_locked_session.proofs.Made.{grew_nothing, grew_flush, flushed_of, nothing_refused}
use Rattle.xet_locked_session.proofs.Since.{since_more}
use Rattle.xet_locked_session.proofs.session.NamedStore.flush_by.Goals as goal

pub returns-in_err-reserve-clause-refused : goal.returns-in_err-reserve-clause-refused
returns-in_err-reserve-clause-refused g c = exit_with _ _ OutOfMemory c.from_residual.ensures.1 (nothing_refused c.args.pass kind.Flush [] c.args.self.now)

pub returns-in_err-reserve-clause-grew : goal.returns-in_err-reserve-clause-grew
returns-in_err-reserve-clause-grew g c = grew_nothing c.args.pass c.args.self.now c.from_residual.result OutOfMemory c.from_residual.ensures.1

pub invariant_of-self : goal.invariant_of-self
invariant_of-self g c = since_more g.J.Naming.store c.self.inside.store c.flush_by.new.self c.args.pass c.flush_by.result c.self.invariant (grew_flush c.args.pass c.self.inside.store c.flush_by.new.self c.flush_by.result c.flush_by.ensures.steps c.flush_by.ensures.refused)

pub returns-clause-flushed : goal.returns-clause-flushed
returns-clause-flushed g c = subst (λ (s : RecordedState). IfOk c.flush_by.result (Flushed c.args.pass s c.flush_by.new.self)) c.self.view_is (flushed_of c.args.pass c.self.inside.store c.flush_by.new.self c.flush_by.result c.flush_by.ensures.steps c.flush_by.ensures.none c.flush_by.ensures.flushed)

pub returns-clause-grew : goal.returns-clause-grew
returns-clause-grew g c = subst (λ (s : RecordedState). Grew c.args.pass c.flush_by.result s c.flush_by.new.self) c.self.view_is (grew_flush c.args.pass c.self.inside.store c.flush_by.new.self c.flush_by.result c.flush_by.ensures.steps c.flush_by.ensures.refused)

pub returns-clause-room : goal.returns-clause-room
returns-clause-room g c =
    let grew : Grew c.args.pass c.flush_by.result c.self.inside.store c.flush_by.new.self = grew_flush c.args.pass c.self.inside.store c.flush_by.new.self c.flush_by.result c.flush_by.ensures.steps c.flush_by.ensures.refused in
    let more : length c.flush_by.new.self.history ≡ length c.args.self.now.history + length grew.added = omega (
      arith,
      ap length grew.steps.moves.history,
      length-append c.self.inside.store.history grew.added,
      ap (λ (s : RecordedState). length s.history) c.self.view_is,
    ) in
    omega (arith, more, grew.few, c.in_ok-reserve.ensures.len, c.in_ok-reserve.ensures.ok)
