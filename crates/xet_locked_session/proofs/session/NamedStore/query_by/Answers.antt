use Rattle.std.proofs.Common.{◌≡◌, ◌+◌, IfOk, ap, arith, length, length-append, subst}
use Rattle.xet_base.specs.theorems.Exits.{exit_with}
use Rattle.xet_hash.specs.declared.error.StoreError.TheVariants.{OutOfMemory}
use Rattle.xet_store.specs.Recorded.{RecordedState}
use Rattle.xet_locked_session.specs.internal.Made.{Grew, Queried}
use Rattle.xet_locked_session.proofs.Made.{grew_nothing, grew_query, queried_of, nothing_asked}
use Rattle.xet_locked_session.proofs.Since.{since_more}
use Rattle.std.proofs.Common.{[], OnErr, refl}
use Rattle.xet_codec.specs.theorems.Buffering.{on_err}
use Rattle.xet_store.specs.Changes.{ChangesFiles}
use Rattle.xet_store.specs.theorems.Changing.{changes_nothing, changes_unread}
use Rattle.xet_locked_session.proofs.session.NamedStore.query_by.Goals as goal

pub returns-in_err-reserve-clause-refused : goal.returns-in_err-reserve-clause-refused
returns-in_err-reserve-clause-refused g c = exit_with _ _ OutOfMemory c.from_residual.ensures.1 (nothing_asked c.args.pass c.args.self.now)

pub returns-in_err-reserve-clause-grew : goal.returns-in_err-reserve-clause-grew
returns-in_err-reserve-clause-grew g c = grew_nothing c.args.pass c.args.self.now c.from_residual.result OutOfMemory c.from_residual.ensures.1

pub invariant_of-self : goal.invariant_of-self
invariant_of-self g c = since_more g.J.Naming.store c.self.inside.store c.query_by.new.self c.args.pass c.query_by.result c.self.invariant (grew_query c.args.pass c.self.inside.store c.query_by.new.self c.args.hashes.now c.query_by.result c.query_by.ensures.steps c.query_by.ensures.refused)

pub returns-clause-queried : goal.returns-clause-queried
returns-clause-queried g c = subst (λ (s : RecordedState). IfOk c.query_by.result (Queried c.args.pass c.args.hashes.now s c.query_by.new.self)) c.self.view_is (queried_of c.args.pass c.args.hashes.now c.self.inside.store c.query_by.new.self c.query_by.result c.query_by.ensures.found c.query_by.ensures.pending c.query_by.ensures.lies c.query_by.ensures.steps c.query_by.ensures.unchanged)

pub returns-clause-grew : goal.returns-clause-grew
returns-clause-grew g c = subst (λ (s : RecordedState). Grew c.args.pass c.query_by.result s c.query_by.new.self) c.self.view_is (grew_query c.args.pass c.self.inside.store c.query_by.new.self c.args.hashes.now c.query_by.result c.query_by.ensures.steps c.query_by.ensures.refused)

pub returns-clause-room : goal.returns-clause-room
returns-clause-room g c =
    let grew : Grew c.args.pass c.query_by.result c.self.inside.store c.query_by.new.self = grew_query c.args.pass c.self.inside.store c.query_by.new.self c.args.hashes.now c.query_by.result c.query_by.ensures.steps c.query_by.ensures.refused in
    let more : length c.query_by.new.self.history ≡ length c.args.self.now.history + length grew.added = omega (
      arith,
      ap length grew.steps.moves.history,
      length-append c.self.inside.store.history grew.added,
      ap (λ (s : RecordedState). length s.history) c.self.view_is,
    ) in
    omega (arith, more, grew.few, c.in_ok-reserve.ensures.len, c.in_ok-reserve.ensures.ok)

pub returns-in_err-reserve-clause-unread : goal.returns-in_err-reserve-clause-unread
returns-in_err-reserve-clause-unread g c = on_err c.from_residual.result (changes_nothing [] c.args.self.now c.args.self.now [] refl)

pub returns-clause-unread : goal.returns-clause-unread
returns-clause-unread g c = subst (λ (s : RecordedState). OnErr c.query_by.result (ChangesFiles [] s c.query_by.new.self [])) c.self.view_is (on_err c.query_by.result (changes_unread c.self.inside.store c.query_by.new.self [] c.query_by.ensures.unchanged))
