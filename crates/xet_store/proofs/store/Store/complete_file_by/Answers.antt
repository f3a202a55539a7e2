use Rattle.std.proofs.Common.{◌≡◌, ◌∙◌, ◌⊎◌, [], inl, inr, true, false, refl, sym, ap, subst}
use Rattle.xet_base.specs.theorems.Exits.{exit_with}
use Rattle.xet_codec.specs.theorems.Buffering.{on_err}
use Rattle.xet_hash.specs.declared.error.StoreError.TheVariants.{OutOfMemory}
use Rattle.xet_history.specs.declared.entry.StepKind.TheVariants.{Complete}
use Rattle.xet_completion.specs.Completing.{Completes}
use Rattle.xet_folder.specs.Contents.{IsRecord}
use Rattle.xet_folder.specs.Xorbs.{Xorbs}
use Rattle.xet_history.specs.Core.{is_new}
use Rattle.xet_shard_format.specs.Records.{file_record_hash}
use Rattle.xet_history.specs.History.{complete_cut, complete_entries}
use Rattle.xet_store.specs.Changes.{ChangesFiles, Tries}
use Rattle.xet_store.specs.Recorded.{RecordedState, core_of}
use Rattle.xet_store.specs.Steps.{IsOtherFile, Refuses}
use Rattle.xet_store.specs.theorems.Changing.{changes_nothing}
use Rattle.xet_store.proofs.Completing.{new_file}
use Rattle.xet_store.proofs.Known.{new_if_unrecorded, pushed_complete, recorded_completed, records_known}
use Rattle.xet_store.proofs.Refusing.{err_seen, exit_of_memory, ok_seen, recorded_after, refuses_memory, refuses_seen, same_view}
use Rattle.xet_store.proofs.store.Store.complete_file_by.Goals as goal

pub returns-in_err-reserve-clause-refused : goal.returns-in_err-reserve-clause-refused
returns-in_err-reserve-clause-refused g c =
    exit_with _ _ OutOfMemory c.from_residual.ensures.1 (inr (refuses_memory _ Complete _ _ _ (same_view _ c.self.inside.opened.value.files _ _ c.self.view_is refl c.reserve.ensures.items)))

pub returns-in_err-reserve-2-clause-refused : goal.returns-in_err-reserve-2-clause-refused
returns-in_err-reserve-2-clause-refused g c =
    exit_with _ _ OutOfMemory c.from_residual-in_err-reserve-2.ensures.1 (inr (refuses_memory _ Complete _ _ _ (same_view _ c.self.inside.opened.value.files _ _ c.self.view_is c.reserve-2.ensures.items c.reserve.ensures.items)))

pub returns-in_err-copy-clause-refused : goal.returns-in_err-copy-clause-refused
returns-in_err-copy-clause-refused g c =
    exit_of_memory _ _ _ c.from_residual-in_err-copy.ensures.1 c.in_err-copy.ensures.memory
    (inr (refuses_memory _ Complete _ _ _ (same_view _ c.self.inside.opened.value.files _ _ c.self.view_is c.reserve-2.ensures.items c.reserve.ensures.items)))

pub returns-in_err-can_complete-clause-refused : goal.returns-in_err-can_complete-clause-refused
returns-in_err-can_complete-clause-refused g c =
    exit_of_memory _ _ _ c.from_residual-in_err-can_complete.ensures.1 c.in_err-can_complete.ensures.memory
    (inr (refuses_memory _ Complete _ _ _ (same_view _ c.self.inside.opened.value.files _ _ c.self.view_is c.reserve-2.ensures.items c.reserve.ensures.items)))

pub invariant_of-self-then-is_some : goal.invariant_of-self-then-is_some
invariant_of-self-then-is_some g c =
    recorded_completed _ c.self.inside.opened.value.files c.self.inside.store _ _ _ _ c.args.pass c.args.file c.self.invariant c.reserve-2.ensures.items (pushed_complete _ _ c.push_reserved.ensures.items c.reserve.ensures.items)
    (new_if_unrecorded _ c.args.file c.self.inside.store.records _ c.hash.ensures c.record.result _ true c.is_some.ensures c.record.ensures c.if-is_some.true)

pub returns-then-is_some-clause-steps : goal.returns-then-is_some-clause-steps
returns-then-is_some-clause-steps g c =
    let old : is_new c.self.inside.store.records (file_record_hash c.args.file) ≡ false =
    new_if_unrecorded _ c.args.file c.self.inside.store.records _ c.hash.ensures c.record.result _ true c.is_some.ensures c.record.ensures c.if-is_some.true in
    (records_known (λ g'. g'.value) c.self.inside.opened.value.files c.self.inside.store c.self.inside.flushed.items c.reserve-2.new.self.items c.self.inside.history.items c.push_reserved.new.self.items c.args.pass c.args.self.now c.args.file
    c.self.view_is c.reserve-2.ensures.items (pushed_complete _ _ c.push_reserved.ensures.items c.reserve.ensures.items)
    (ap (λ (x : RecordedState). is_new x.store.records (file_record_hash c.args.file)) (sym c.self.view_is) ∙ old)).steps

pub returns-then-is_some-clause-changes : goal.returns-then-is_some-clause-changes
returns-then-is_some-clause-changes g c =
    let old : is_new c.self.inside.store.records (file_record_hash c.args.file) ≡ false =
    new_if_unrecorded _ c.args.file c.self.inside.store.records _ c.hash.ensures c.record.result _ true c.is_some.ensures c.record.ensures c.if-is_some.true in
    (records_known (λ g'. g'.value) c.self.inside.opened.value.files c.self.inside.store c.self.inside.flushed.items c.reserve-2.new.self.items c.self.inside.history.items c.push_reserved.new.self.items c.args.pass c.args.self.now c.args.file
    c.self.view_is c.reserve-2.ensures.items (pushed_complete _ _ c.push_reserved.ensures.items c.reserve.ensures.items)
    (ap (λ (x : RecordedState). is_new x.store.records (file_record_hash c.args.file)) (sym c.self.view_is) ∙ old)).changes

pub record_file-requires-clause-form : goal.record_file-requires-clause-form
record_file-requires-clause-form g c =
    new_file c.self.inside.store.xorbs c.args.file c.requires.form
    (subst (λ (x : Xorbs). Completes x c.args.file) c.xorbs.ensures (c.in_ok-can_complete.ensures.can.0 c.if-not-branch.false))
    (subst (λ (x : Xorbs). IsRecord x (file_record_hash c.args.file, c.args.file)) c.xorbs.ensures (c.in_ok-can_complete.ensures.recorded c.if-not-branch.false))

pub invariant_of-self-2 : goal.invariant_of-self-2
invariant_of-self-2 g c =
    recorded_after _ c.self.inside.opened.value.files c.record_file.result _ _ _ _ _ c.self.invariant c.reserve-2.ensures.items c.reserve.ensures.items c.record_file.ensures.count c.record_file.ensures.steps c.record_file.ensures.refused
    (λ p. (_, (p c.self.inside.opened.value.files).steps)) (λ e q. (_, (q c.self.inside.opened.value.files).refuses.steps))

pub returns-in_err-reserve-clause-tries : goal.returns-in_err-reserve-clause-tries
returns-in_err-reserve-clause-tries g c = on_err c.from_residual.result (changes_nothing _ _ _ [] (same_view _ c.self.inside.opened.value.files _ _ c.self.view_is refl c.reserve.ensures.items))

pub returns-in_err-reserve-2-clause-tries : goal.returns-in_err-reserve-2-clause-tries
returns-in_err-reserve-2-clause-tries g c = on_err c.from_residual-in_err-reserve-2.result (changes_nothing _ _ _ [] (same_view _ c.self.inside.opened.value.files _ _ c.self.view_is c.reserve-2.ensures.items c.reserve.ensures.items))

pub returns-in_err-copy-clause-tries : goal.returns-in_err-copy-clause-tries
returns-in_err-copy-clause-tries g c = on_err c.from_residual-in_err-copy.result (changes_nothing _ _ _ [] (same_view _ c.self.inside.opened.value.files _ _ c.self.view_is c.reserve-2.ensures.items c.reserve.ensures.items))

pub returns-in_err-can_complete-clause-tries : goal.returns-in_err-can_complete-clause-tries
returns-in_err-can_complete-clause-tries g c = on_err c.from_residual-in_err-can_complete.result (changes_nothing _ _ _ [] (same_view _ c.self.inside.opened.value.files _ _ c.self.view_is c.reserve-2.ensures.items c.reserve.ensures.items))

pub returns-in_err-reserve-clause-other : goal.returns-in_err-reserve-clause-other
returns-in_err-reserve-clause-other g c = λ not. exit_with _ _ OutOfMemory c.from_residual.ensures.1 (inr (refl, same_view _ c.self.inside.opened.value.files _ _ c.self.view_is refl c.reserve.ensures.items))

pub returns-in_err-reserve-2-clause-other : goal.returns-in_err-reserve-2-clause-other
returns-in_err-reserve-2-clause-other g c = λ not. exit_with _ _ OutOfMemory c.from_residual-in_err-reserve-2.ensures.1 (inr (refl, same_view _ c.self.inside.opened.value.files _ _ c.self.view_is c.reserve-2.ensures.items c.reserve.ensures.items))

pub returns-in_err-copy-clause-other : goal.returns-in_err-copy-clause-other
returns-in_err-copy-clause-other g c = λ not. exit_of_memory _ _ _ c.from_residual-in_err-copy.ensures.1 c.in_err-copy.ensures.memory (inr (refl, same_view _ c.self.inside.opened.value.files _ _ c.self.view_is c.reserve-2.ensures.items c.reserve.ensures.items))

pub returns-in_err-can_complete-clause-other : goal.returns-in_err-can_complete-clause-other
returns-in_err-can_complete-clause-other g c = λ not. exit_of_memory _ _ _ c.from_residual-in_err-can_complete.ensures.1 c.in_err-can_complete.ensures.memory (inr (refl, same_view _ c.self.inside.opened.value.files _ _ c.self.view_is c.reserve-2.ensures.items c.reserve.ensures.items))

pub returns-clause-other : goal.returns-clause-other
returns-clause-other g c = λ not.
    let here = subst (λ (x : Xorbs). Completes x c.args.file) c.xorbs.ensures (c.in_ok-can_complete.ensures.can.0 c.if-not-branch.false) in
    absurd (not (subst (λ (x : RecordedState). Completes x.store.xorbs c.args.file) c.self.view_is here))

pub returns-then-not-branch-clause-tries : goal.returns-then-not-branch-clause-tries
returns-then-not-branch-clause-tries g c = changes_nothing _ _ _ [] (same_view _ c.self.inside.opened.value.files _ _ c.self.view_is c.reserve-2.ensures.items c.reserve.ensures.items)

pub returns-then-not-branch-clause-other : goal.returns-then-not-branch-clause-other
returns-then-not-branch-clause-other g c = λ not. inl (record {
  error = refl;
  not = not;
  same = same_view _ c.self.inside.opened.value.files _ _ c.self.view_is c.reserve-2.ensures.items c.reserve.ensures.items;
})

pub returns-clause-changes : goal.returns-clause-changes
returns-clause-changes g c =
    let files = c.self.inside.opened.value.files in
    ok_seen _ files c.record_file.result _ _ _ _ _ (λ a b. ChangesFiles [] a b (complete_entries c.args.pass (core_of a) a.store.limits.shard_target c.args.file)) c.self.view_is c.reserve-2.ensures.items c.reserve.ensures.items
    c.record_file.ensures.steps (λ p. (p files).changes)

pub returns-clause-tries : goal.returns-clause-tries
returns-clause-tries g c =
    let files = c.self.inside.opened.value.files in
    err_seen _ files c.record_file.result _ _ _ _ _ (λ a b. Tries a b (complete_entries c.args.pass (core_of a) a.store.limits.shard_target c.args.file)) c.self.view_is c.reserve-2.ensures.items c.reserve.ensures.items
    c.record_file.ensures.refused (λ e q. (q files).tries)

pub returns-clause-refused : goal.returns-clause-refused
returns-clause-refused g c =
    let files = c.self.inside.opened.value.files in
    refuses_seen _ files c.record_file.result _ _ _ _ _ (λ a b e. IsOtherFile a b c.args.file e ⊎ Refuses c.args.pass Complete (complete_cut c.args.pass (core_of a) a.store.limits.shard_target c.args.file) a b e)
    c.self.view_is c.reserve-2.ensures.items c.reserve.ensures.items c.record_file.ensures.refused (λ e q. inr (q files).refuses)
