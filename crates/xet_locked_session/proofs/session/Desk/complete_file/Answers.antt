use Rattle.std.proofs.Common.{◌≡◌, ◌⊎◌, inl, inr, ◌∙◌, ℕ, List, [], ◌++◌, drop, length, OnOk, ap, sym, subst, arith, IfErr}
use Rattle.xet_history.specs.declared.entry.Entry.{Entry}
use Rattle.xet_history.specs.declared.entry.StepKind.TheVariants as kind
use Rattle.xet_history.specs.History.{complete_entries}
use Rattle.xet_store.specs.Stepping.{SawComplete, cut_to_complete}
use Rattle.xet_shared_history.specs.Owned.{numbers_from}
use Rattle.xet_store.specs.Holders.{Holder}
use Rattle.xet_store.specs.Recorded.{RecordedState, core_of}
use Rattle.xet_store.specs.Steps.{Steps, fault_entries}
use Rattle.xet_locked_session.specs.internal.Guarded.{HasFailed, HasStep}
use Rattle.xet_locked_session.specs.Passes.{OtherFile, StepFailed, holder_of}
use Rattle.xet_store.specs.theorems.Joining.{steps_nothing}
use Rattle.xet_locked_session.proofs.Cases.{if_err, if_ok}
use Rattle.xet_locked_session.proofs.Failing.{complete_failed, other_file}
use Rattle.xet_locked_session.proofs.Seeing.{saw_complete}
use Rattle.xet_locked_session.proofs.Stepped.{completed_fails, completed_step}
use Rattle.xet_locked_session.proofs.Telling.{IsTold, gained, told_by, told_count, told_history, told_legal, told_own}
use Rattle.xet_locked_session.proofs.session.Desk.complete_file.Goals as goal

pub invariant_of-pass : goal.invariant_of-pass
invariant_of-pass g c =
    let start = g.J.Naming.store in
    let pass = c.pass.inside.number in
    let own = c.pass.inside.known.own.items in
    let seen = c.pass.inside.known.reader.seen in
    let known = c.self.inside.log.writer.seen in
    let now = c.self.inside.store in
    let new = c.complete_by-result.new.self in
    let from = length c.history-from.result.now in
    let rest = drop from c.history.result.now in
    let own_now = c.tell.new.known.own.items in
    let seen_now = c.tell.new.known.reader.seen in
    let is = c.recall_invariant.ensures.since in
    let at : now.history ≡ start.history ++ known = c.self.invariant.1 in
    let prefix = c.compare.ensures.prefix in
    let are = c.pass.invariant.2 in
    let told : IsTold start own own_now known seen_now rest from = record {
      place = ap length c.history-from.ensures ∙ ap length at;
      numbers = c.tell.ensures.own ∙ ap (λ (o : List ℕ). o ++ numbers_from from (length rest)) c.complete_by-result.ensures.own;
      all = ap (λ s. s.seen) (c.tell.ensures.reader ∙ c.tell.ensures.writer) ∙ ap (λ s. s.seen ++ rest) c.compare.ensures.writer;
    } in
    let gains : (added : List Entry) → new.history ≡ now.history ++ added → rest ≡ added = λ added more. gained now.history added c.history.result.now from (c.history.ensures ∙ more) (ap length c.history-from.ensures) in
    let grew = c.complete_by-result.ensures.grew in
    let same : rest ≡ grew.added = gains grew.added grew.steps.moves.history in (
      ap (λ s. s.table) (c.tell.ensures.reader ∙ c.tell.ensures.writer) ∙ ap (λ s. s.table) c.compare.ensures.writer ∙ c.self.invariant.0,
      c.tell.ensures.seen ∙ ap length (c.history.ensures ∙ told_history start pass own own_now known seen_now rest from told grew.added same now new is seen grew.steps at prefix are),
      told_own start pass own own_now known seen_now rest from told grew.added same now new is seen grew.steps at prefix are grew.mine,
      told_legal start pass own own_now known seen_now rest from told grew.added same now new is seen grew.steps at prefix are,
      c.tell.ensures.share.0 ∙ c.pass.invariant.4,
      omega (arith, c.tell.ensures.share.1, c.pass.invariant.5, told_count start pass own own_now known seen_now rest from told grew.added same),
    )

pub returns-clause-saw : goal.returns-clause-saw
returns-clause-saw g c =
    let start = g.J.Naming.store in
    let pass = c.pass.inside.number in
    let own = c.pass.inside.known.own.items in
    let seen = c.pass.inside.known.reader.seen in
    let known = c.self.inside.log.writer.seen in
    let now = c.self.inside.store in
    let new = c.complete_by-result.new.self in
    let from = length c.history-from.result.now in
    let rest = drop from c.history.result.now in
    let own_now = c.tell.new.known.own.items in
    let seen_now = c.tell.new.known.reader.seen in
    let is = c.recall_invariant.ensures.since in
    let at : now.history ≡ start.history ++ known = c.self.invariant.1 in
    let prefix = c.compare.ensures.prefix in
    let are = c.pass.invariant.2 in
    let told : IsTold start own own_now known seen_now rest from = record {
      place = ap length c.history-from.ensures ∙ ap length at;
      numbers = c.tell.ensures.own ∙ ap (λ (o : List ℕ). o ++ numbers_from from (length rest)) c.complete_by-result.ensures.own;
      all = ap (λ s. s.seen) (c.tell.ensures.reader ∙ c.tell.ensures.writer) ∙ ap (λ s. s.seen ++ rest) c.compare.ensures.writer;
    } in
    let gains : (added : List Entry) → new.history ≡ now.history ++ added → rest ≡ added = λ added more. gained now.history added c.history.result.now from (c.history.ensures ∙ more) (ap length c.history-from.ensures) in
    if_ok _ _ (λ added. SawComplete c.args.file c.args.pass.now (holder_of start pass own_now seen_now) added) c.complete_by-result.ensures.completed
    (λ added did. told_by start pass own own_now known seen_now rest from told (complete_entries pass (core_of now) now.store.limits.shard_target c.args.file) (gains (complete_entries pass (core_of now) now.store.limits.shard_target c.args.file) did.steps.moves.history) (λ h k. SawComplete c.args.file h k added) c.args.pass.now seen c.pass.view_is
    (saw_complete start now new is pass own seen known at prefix are c.args.file added did))

pub returns-clause-refused : goal.returns-clause-refused
returns-clause-refused g c =
    let start = g.J.Naming.store in
    let pass = c.pass.inside.number in
    let own = c.pass.inside.known.own.items in
    let seen = c.pass.inside.known.reader.seen in
    let known = c.self.inside.log.writer.seen in
    let now = c.self.inside.store in
    let new = c.complete_by-result.new.self in
    let from = length c.history-from.result.now in
    let rest = drop from c.history.result.now in
    let own_now = c.tell.new.known.own.items in
    let seen_now = c.tell.new.known.reader.seen in
    let is = c.recall_invariant.ensures.since in
    let at : now.history ≡ start.history ++ known = c.self.invariant.1 in
    let prefix = c.compare.ensures.prefix in
    let are = c.pass.invariant.2 in
    let told : IsTold start own own_now known seen_now rest from = record {
      place = ap length c.history-from.ensures ∙ ap length at;
      numbers = c.tell.ensures.own ∙ ap (λ (o : List ℕ). o ++ numbers_from from (length rest)) c.complete_by-result.ensures.own;
      all = ap (λ s. s.seen) (c.tell.ensures.reader ∙ c.tell.ensures.writer) ∙ ap (λ s. s.seen ++ rest) c.compare.ensures.writer;
    } in
    let gains : (added : List Entry) → new.history ≡ now.history ++ added → rest ≡ added = λ added more. gained now.history added c.history.result.now from (c.history.ensures ∙ more) (ap length c.history-from.ensures) in
    if_err _ _ (λ e. OtherFile c.args.file c.args.pass.now (holder_of start pass own_now seen_now) e ⊎ StepFailed kind.Complete (cut_to_complete c.args.pass.now c.args.file) c.args.pass.now (holder_of start pass own_now seen_now) e) c.complete_by-result.ensures.refused
    (λ e failed. elim failed [
      | inl other ↦ let still : Steps now new [] = subst (λ (s : RecordedState). Steps now s []) (sym other.same) (steps_nothing now) in
          inl (told_by start pass own own_now known seen_now rest from told [] (gains [] still.moves.history) (λ h k. OtherFile c.args.file h k e) c.args.pass.now seen c.pass.view_is (other_file start now new is pass own seen known at prefix are e c.args.file other still))
      | inr fails ↦ inr (told_by start pass own own_now known seen_now rest from told (fails.done ++ fault_entries pass kind.Complete e) (gains (fails.done ++ fault_entries pass kind.Complete e) fails.steps.moves.history) (λ h k. StepFailed kind.Complete (cut_to_complete h c.args.file) h k e) c.args.pass.now seen c.pass.view_is
          (complete_failed start now new is pass own seen known at prefix are e c.args.file c.recall_invariant.ensures.recorded.shards fails))
    ])

pub returns-clause-made : goal.returns-clause-made
returns-clause-made g c =
    subst (λ (s : RecordedState). OnOk c.complete_by-result.result (HasStep c.args.pass.now.number s c.complete_by-result.new.self)) c.self.view_is
    (subst (λ (h : Holder). OnOk c.complete_by-result.result (HasStep h.number c.self.inside.store c.complete_by-result.new.self)) c.pass.view_is (completed_step c.pass.inside.number c.self.inside.store c.complete_by-result.new.self c.args.file c.requires.form c.complete_by-result.result c.complete_by-result.ensures.completed))

pub returns-clause-failed : goal.returns-clause-failed
returns-clause-failed g c =
    subst (λ (s : RecordedState). IfErr c.complete_by-result.result (HasFailed c.args.pass.now.number s c.complete_by-result.new.self)) c.self.view_is
    (subst (λ (h : Holder). IfErr c.complete_by-result.result (HasFailed h.number c.self.inside.store c.complete_by-result.new.self)) c.pass.view_is (completed_fails c.pass.inside.number c.self.inside.store c.complete_by-result.new.self c.args.file c.requires.form c.complete_by-result.result c.complete_by-result.ensures.refused c.complete_by-result.ensures.tries))
