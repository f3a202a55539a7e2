use Rattle.xet_base.specs.theorems.Exits.{exit_with}
use Rattle.xet_hash.specs.declared.error.StoreError.TheVariants.{OutOfMemory}
use Rattle.xet_history.specs.declared.entry.StepKind.TheVariants.{Flush}
use Rattle.std.proofs.Common.{◌∙◌, [], inl, refl, ap}
use Rattle.xet_store.proofs.Refusing.{ok_seen, recorded_after, refuses_first, refuses_memory, refuses_seen, same_view, same_view_kept, steps_seen}
use Rattle.xet_history.specs.History.{flush_entries}
use Rattle.xet_store.specs.Changes.{ChangesFiles}
use Rattle.xet_store.specs.Recorded.{RecordedState, core_of}
use Rattle.xet_store.specs.Steps.{Refuses}
use Rattle.xet_store.proofs.store.Store.flush_by.Goals as goal

pub returns-in_err-reserve-clause-refused : goal.returns-in_err-reserve-clause-refused
returns-in_err-reserve-clause-refused g c = exit_with _ _ OutOfMemory c.from_residual.ensures.1 (refuses_memory _ Flush [] _ _ (same_view _ c.self.inside.opened.value.files _ _ c.self.view_is refl c.reserve.ensures.items))

pub returns-in_err-reserve-2-clause-refused : goal.returns-in_err-reserve-2-clause-refused
returns-in_err-reserve-2-clause-refused g c =
    exit_with _ _ OutOfMemory c.from_residual-in_err-reserve-2.ensures.1 (refuses_memory _ Flush [] _ _ (same_view _ c.self.inside.opened.value.files _ _ c.self.view_is c.reserve-2.ensures.items c.reserve.ensures.items))

pub invariant_of-self-2 : goal.invariant_of-self-2
invariant_of-self-2 g c =
    recorded_after _ c.self.inside.opened.value.files c.flush_store.result _ _ _ _ _ c.self.invariant c.reserve-2.ensures.items c.reserve.ensures.items c.flush_store.ensures.count c.flush_store.ensures.steps c.flush_store.ensures.fault (λ p. (_, (p c.self.inside.opened.value.files).steps)) (λ e q. (_, (q c.self.inside.opened.value.files).steps))

pub returns-clause-refused : goal.returns-clause-refused
returns-clause-refused g c =
    refuses_seen _ c.self.inside.opened.value.files c.flush_store.result _ _ _ _ _ (Refuses c.args.pass Flush []) c.self.view_is c.reserve-2.ensures.items c.reserve.ensures.items c.flush_store.ensures.fault (λ e q. refuses_first _ Flush [] _ _ e (inl refl) (q c.self.inside.opened.value.files))

pub returns-in_err-reserve-clause-idle : goal.returns-in_err-reserve-clause-idle
returns-in_err-reserve-clause-idle g c = λ none. same_view _ c.self.inside.opened.value.files _ _ c.self.view_is refl c.reserve.ensures.items

pub returns-in_err-reserve-2-clause-idle : goal.returns-in_err-reserve-2-clause-idle
returns-in_err-reserve-2-clause-idle g c = λ none. same_view _ c.self.inside.opened.value.files _ _ c.self.view_is c.reserve-2.ensures.items c.reserve.ensures.items

pub returns-clause-idle : goal.returns-clause-idle
returns-clause-idle g c = λ none.
    let still = c.flush_store.ensures.idle (ap (λ (x : RecordedState). x.store.pending) c.self.view_is ∙ none) in
    same_view_kept _ c.self.inside.opened.value.files _ _ _ c.self.view_is still.0 (still.1 ∙ c.reserve-2.ensures.items) (still.2 ∙ c.reserve.ensures.items)

pub returns-clause-steps : goal.returns-clause-steps
returns-clause-steps g c =
    let files = c.self.inside.opened.value.files in
    steps_seen _ files c.flush_store.result _ _ _ _ _ (λ a. flush_entries c.args.pass (core_of a)) c.self.view_is c.reserve-2.ensures.items c.reserve.ensures.items c.flush_store.ensures.steps (λ p. (p files).steps)

pub returns-clause-changes : goal.returns-clause-changes
returns-clause-changes g c =
    let files = c.self.inside.opened.value.files in
    ok_seen _ files c.flush_store.result _ _ _ _ _ (λ a b. ChangesFiles [] a b (flush_entries c.args.pass (core_of a))) c.self.view_is c.reserve-2.ensures.items c.reserve.ensures.items c.flush_store.ensures.steps (λ p. (p files).changes)
