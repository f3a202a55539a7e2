use Rattle.std.proofs.Common.{◌≡◌, ◌+◌, IfOk, ap, arith, inr, length, length-append, subst}
use Rattle.xet_base.specs.theorems.Exits.{exit_with}
use Rattle.xet_hash.specs.declared.error.StoreError.TheVariants.{OutOfMemory}
use Rattle.xet_history.specs.History.{complete_cut}
use Rattle.xet_history.specs.declared.entry.StepKind.TheVariants as kind
use Rattle.xet_store.specs.Recorded.{RecordedState, core_of}
use Rattle.xet_locked_session.specs.internal.Made.{Completed, Grew}
use Rattle.xet_locked_session.proofs.Made.{grew_nothing, grew_complete, completed_of, nothing_refused}
use Rattle.xet_locked_session.proofs.Since.{since_more}
use Rattle.std.proofs.Common.{[], OnErr, refl}
use Rattle.xet_codec.specs.theorems.Buffering.{on_err}
use Rattle.xet_history.specs.History.{complete_entries}
use Rattle.xet_store.specs.Changes.{Tries}
use Rattle.xet_store.specs.theorems.Changing.{changes_nothing}
use Rattle.xet_locked_session.proofs.session.NamedStore.complete_by.Goals as goal

pub returns-in_err-reserve-clause-refused : goal.returns-in_err-reserve-clause-refused
returns-in_err-reserve-clause-refused g c = exit_with _ _ OutOfMemory c.from_residual.ensures.1 (inr (nothing_refused c.args.pass kind.Complete (complete_cut c.args.pass (core_of c.args.self.now) c.args.self.now.store.limits.shard_target c.args.file) c.args.self.now))

pub returns-in_err-reserve-clause-grew : goal.returns-in_err-reserve-clause-grew
returns-in_err-reserve-clause-grew g c = grew_nothing c.args.pass c.args.self.now c.from_residual.result OutOfMemory c.from_residual.ensures.1

pub invariant_of-self : goal.invariant_of-self
invariant_of-self g c = since_more g.J.Naming.store c.self.inside.store c.complete_file_by.new.self c.args.pass c.complete_file_by.result c.self.invariant (grew_complete c.args.pass c.self.inside.store c.complete_file_by.new.self c.self.inside.store.store.limits.shard_target c.args.file c.complete_file_by.result c.complete_file_by.ensures.steps c.complete_file_by.ensures.refused)

pub returns-clause-completed : goal.returns-clause-completed
returns-clause-completed g c = subst (λ (s : RecordedState). IfOk c.complete_file_by.result (Completed c.args.pass c.args.file s c.complete_file_by.new.self)) c.self.view_is (completed_of c.args.pass c.args.file c.self.inside.store c.complete_file_by.new.self c.complete_file_by.result c.complete_file_by.ensures.steps c.complete_file_by.ensures.changes c.complete_file_by.ensures.added c.complete_file_by.ensures.can)

pub returns-clause-grew : goal.returns-clause-grew
returns-clause-grew g c = subst (λ (s : RecordedState). Grew c.args.pass c.complete_file_by.result s c.complete_file_by.new.self) c.self.view_is (grew_complete c.args.pass c.self.inside.store c.complete_file_by.new.self c.self.inside.store.store.limits.shard_target c.args.file c.complete_file_by.result c.complete_file_by.ensures.steps c.complete_file_by.ensures.refused)

pub returns-clause-room : goal.returns-clause-room
returns-clause-room g c =
    let grew : Grew c.args.pass c.complete_file_by.result c.self.inside.store c.complete_file_by.new.self = grew_complete c.args.pass c.self.inside.store c.complete_file_by.new.self c.self.inside.store.store.limits.shard_target c.args.file c.complete_file_by.result c.complete_file_by.ensures.steps c.complete_file_by.ensures.refused in
    let more : length c.complete_file_by.new.self.history ≡ length c.args.self.now.history + length grew.added = omega (
      arith,
      ap length grew.steps.moves.history,
      length-append c.self.inside.store.history grew.added,
      ap (λ (s : RecordedState). length s.history) c.self.view_is,
    ) in
    omega (arith, more, grew.few, c.in_ok-reserve.ensures.len, c.in_ok-reserve.ensures.ok)

pub returns-in_err-reserve-clause-tries : goal.returns-in_err-reserve-clause-tries
returns-in_err-reserve-clause-tries g c = on_err c.from_residual.result (changes_nothing _ c.args.self.now c.args.self.now [] refl)

pub returns-clause-tries : goal.returns-clause-tries
returns-clause-tries g c = subst (λ (s : RecordedState). OnErr c.complete_file_by.result (Tries s c.complete_file_by.new.self (complete_entries c.args.pass (core_of s) s.store.limits.shard_target c.args.file))) c.self.view_is c.complete_file_by.ensures.tries
