-- How many of the entries that steps made are failures of the disk.
use Rattle.std.proofs.Common.{◌≡◌, ◌⊎◌, inl, inr, ℕ, ◌+◌, ◌≤◌, List, [], ◌++◌, ap, subst, sym, arith}
use Rattle.xet_cut.specs.declared.limits.LimitSettings.{LimitSettings}
use Rattle.xet_hash.specs.declared.error.StoreError.{StoreError}
use Rattle.xet_history.specs.Core.{Core}
use Rattle.xet_history.specs.History.{after_all}
use Rattle.xet_history.specs.declared.entry.Entry.{Entry}
use Rattle.xet_store.specs.Recorded.{RecordedState, core_of}
use Rattle.xet_store.specs.Steps.{fault_entries}
use Rattle.xet_store.specs.Alone.{Step, cut_of, kind_of}
use Rattle.xet_locked_session.specs.Session.{fault_count}
use Rattle.xet_locked_session.specs.Shared.{HaveEnded, HaveMade, StepOf, StepsBy, StepsByUntil}
use Rattle.xet_locked_session.proofs.Made.{fault_count-append, few_complete, few_complete_cut, few_fault, few_query, few_register, few_register_cut}

none_of_step : (limits : LimitSettings) (pass : ℕ) (c : Core) (es : List Entry) → StepOf limits pass c es → fault_count es ≤ 0
none_of_step limits pass c es (StepOf.asks hashes reply) = (few_query pass hashes reply).one
none_of_step limits pass c es (StepOf.registers leaves next asked due) = (few_register pass c limits.shard_target leaves next).one
none_of_step limits pass c es (StepOf.completes file form can) = (few_complete pass c limits.shard_target file).one

none_of_steps : (limits : LimitSettings) (c : Core) (es : List Entry) → StepsBy limits c es → fault_count es ≤ 0
none_of_steps limits c es StepsBy.begins = omega arith
none_of_steps limits c es (StepsBy.more before added pass steps step) =
    omega (arith, fault_count-append before added, none_of_steps limits c before steps, none_of_step limits pass (after_all c before) added step)

none_of_cut : (pass target : ℕ) (step : Step) (c : Core) → fault_count (cut_of pass target step c) ≤ 0
none_of_cut pass target Step.asks c = omega arith
none_of_cut pass target (Step.registers leaves) c = (few_register_cut pass c target leaves).one
none_of_cut pass target (Step.completes file) c = (few_complete_cut pass c target file).one

one_until : (limits : LimitSettings) (c : Core) (e : StoreError) (es : List Entry) → StepsByUntil limits c e es → fault_count es ≤ 1
one_until limits c e es until =
    let fault : List Entry = fault_entries until.pass (kind_of until.step) e in
    omega (
      arith,
      ap fault_count until.is,
      fault_count-append until.before (until.done ++ fault),
      fault_count-append until.done fault,
      none_of_steps limits c until.before until.steps,
      go until.completed,
      (few_fault until.pass (kind_of until.step) e).one,
    )
  where
    go : (until.done ≡ []) ⊎ (until.done ≡ cut_of until.pass limits.shard_target until.step (after_all c until.before)) → fault_count until.done ≤ 0
    go (inl none) = subst (λ (l : List Entry). fault_count l ≤ 0) (sym none) (omega arith)
    go (inr due) = subst (λ (l : List Entry). fault_count l ≤ 0) (sym due) (none_of_cut until.pass limits.shard_target until.step (after_all c until.before))

pub few_of : (start now : RecordedState) → HaveMade start now ⊎ HaveEnded start now → fault_count now.history ≤ fault_count start.history + 1
few_of start now (inl made) =
    omega (arith, ap fault_count made.history, fault_count-append start.history made.since, none_of_steps start.store.limits (core_of start) made.since made.made.steps)
few_of start now (inr ended) =
    omega (arith, ap fault_count ended.history, fault_count-append start.history ended.since, one_until start.store.limits (core_of start) ended.error ended.since ended.made.steps)
