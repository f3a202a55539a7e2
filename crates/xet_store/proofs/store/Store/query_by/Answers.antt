use Rattle.std.proofs.Common.{◌∙◌, IfOk, IfSome, map, option_map, refl, ap, subst}
use Rattle.xet_base.specs.theorems.Exits.{exit_with}
use Rattle.xet_hash.specs.declared.error.StoreError.TheVariants.{OutOfMemory}
use Rattle.xet_history.specs.Sound.{IsUsableRun}
use Rattle.xet_shard.specs.Runs.{held_run}
use Rattle.xet_store.specs.Recorded.{RecordedState, core_of}
use Rattle.xet_store.proofs.Querying.{no_hashes, no_run, nothing_found, nothing_held, query_count, query_fails, query_found, query_idle, query_keeps, query_memory, query_recorded, query_same, query_shards, query_steps, some_hashes, unchanged_same}
use Rattle.xet_store.proofs.Refusing.{same_view}
use Rattle.xet_store.proofs.store.Store.query_by.Goals as goal

pub returns-then-is_empty-clause-found : goal.returns-then-is_empty-clause-found
returns-then-is_empty-clause-found g c = λ told. nothing_found (core_of c.args.self.now) c.args.hashes.now (no_hashes _ _ c.is_empty.ensures c.if-is_empty.true)

pub returns-then-is_empty-clause-pending : goal.returns-then-is_empty-clause-pending
returns-then-is_empty-clause-pending g c = λ run held. absurd (nothing_held _ _ run (no_hashes _ _ c.is_empty.ensures c.if-is_empty.true) held)

pub returns-then-is_empty-clause-empty : goal.returns-then-is_empty-clause-empty
returns-then-is_empty-clause-empty g c = λ none. (refl, refl)

pub returns-then-is_empty-clause-steps : goal.returns-then-is_empty-clause-steps
returns-then-is_empty-clause-steps g c = query_idle c.args.self.now c.args.pass c.args.hashes.now (no_hashes _ _ c.is_empty.ensures c.if-is_empty.true)

pub returns-then-is_empty-clause-unchanged : goal.returns-then-is_empty-clause-unchanged
returns-then-is_empty-clause-unchanged g c = unchanged_same c.args.self.now.store

pub returns-in_err-reserve-clause-found : goal.returns-in_err-reserve-clause-found
returns-in_err-reserve-clause-found g c = λ told. no_run _ c.from_residual.result OutOfMemory c.from_residual.ensures.1

pub returns-in_err-reserve-clause-pending : goal.returns-in_err-reserve-clause-pending
returns-in_err-reserve-clause-pending g c = λ run held. no_run _ c.from_residual.result OutOfMemory c.from_residual.ensures.1

pub returns-in_err-reserve-clause-empty : goal.returns-in_err-reserve-clause-empty
returns-in_err-reserve-clause-empty g c = λ none. absurd (some_hashes _ _ c.is_empty.ensures c.if-is_empty.false none)

pub returns-in_err-reserve-clause-refused : goal.returns-in_err-reserve-clause-refused
returns-in_err-reserve-clause-refused g c = exit_with _ _ OutOfMemory c.from_residual.ensures.1 (query_memory _ _ _ (same_view _ c.self.inside.opened.value.files _ _ c.self.view_is refl c.reserve.ensures.items))

pub returns-in_err-reserve-clause-unchanged : goal.returns-in_err-reserve-clause-unchanged
returns-in_err-reserve-clause-unchanged g c = query_same _ _ (same_view _ c.self.inside.opened.value.files _ _ c.self.view_is refl c.reserve.ensures.items)

pub returns-in_err-reserve-clause-shards : goal.returns-in_err-reserve-clause-shards
returns-in_err-reserve-clause-shards g c = ap (λ (x : RecordedState). x.shards) (same_view _ c.self.inside.opened.value.files _ _ c.self.view_is refl c.reserve.ensures.items)

pub ask_store-requires-clause-some : goal.ask_store-requires-clause-some
ask_store-requires-clause-some g c = some_hashes _ _ c.is_empty.ensures c.if-is_empty.false

pub ask_store-requires-clause-registry : goal.ask_store-requires-clause-registry
ask_store-requires-clause-registry g c = c.self.invariant.2

pub ask_store-requires-clause-differ : goal.ask_store-requires-clause-differ
ask_store-requires-clause-differ g c = c.self.invariant.1.shards.differ

pub ask_store-requires-clause-few : goal.ask_store-requires-clause-few
ask_store-requires-clause-few g c = c.self.invariant.1.shards.few

pub invariant_of-self-2 : goal.invariant_of-self-2
invariant_of-self-2 g c = (
  query_count c.self.inside.opened.value.files _ _ (map (option_map (λ g'. g'.value)) c.self.inside.flushed.items) c.self.inside.history.items c.ask_store.ensures.unchanged c.self.inside.flushed.items c.self.invariant.0,
  query_recorded c.self.inside.opened.value.files _ _ (map (option_map (λ g'. g'.value)) c.self.inside.flushed.items) c.self.inside.history.items c.ask_store.ensures.unchanged c.bytes_determine_shard.ensures
      c.registered_runs_are_those_of_the_core.ensures c.self.invariant.1 c.args.hashes.now c.args.pass c.reserve.new.self.items c.ask_store.new.history.items c.reserve.ensures.items c.ask_store.result c.ask_store.ensures.found c.ask_store.ensures.noted
      c.ask_store.ensures.fault,
  c.ask_store.ensures.registry,
)

pub returns-clause-found : goal.returns-clause-found
returns-clause-found g c =
    query_found c.self.inside.opened.value.files _ _ (map (option_map (λ g'. g'.value)) c.self.inside.flushed.items) c.self.inside.history.items c.ask_store.ensures.unchanged c.bytes_determine_shard.ensures
    c.registered_runs_are_those_of_the_core.ensures c.self.invariant.1 c.args.hashes.now c.args.self.now c.self.view_is c.ask_store.result c.ask_store.ensures.found

pub returns-clause-steps : goal.returns-clause-steps
returns-clause-steps g c =
    query_steps c.self.inside.opened.value.files _ _ (map (option_map (λ g'. g'.value)) c.self.inside.flushed.items) c.self.inside.history.items c.ask_store.ensures.unchanged c.bytes_determine_shard.ensures
    c.registered_runs_are_those_of_the_core.ensures c.self.invariant.1 c.args.hashes.now c.args.self.now c.self.view_is c.args.pass c.reserve.new.self.items c.ask_store.new.history.items c.reserve.ensures.items c.ask_store.result
    c.ask_store.ensures.found c.ask_store.ensures.noted

pub returns-clause-refused : goal.returns-clause-refused
returns-clause-refused g c =
    query_fails c.self.inside.opened.value.files _ _ (map (option_map (λ g'. g'.value)) c.self.inside.flushed.items) c.self.inside.history.items c.ask_store.ensures.unchanged c.args.self.now c.self.view_is c.args.pass
    c.reserve.new.self.items c.ask_store.new.history.items c.reserve.ensures.items c.ask_store.result c.ask_store.ensures.fault c.ask_store.ensures.refused

pub returns-clause-pending : goal.returns-clause-pending
returns-clause-pending g c = λ run held. c.ask_store.ensures.pending run (ap (λ (x : RecordedState). held_run x.store.pending.blocks c.args.hashes.now) c.self.view_is ∙ held)

pub returns-clause-lies : goal.returns-clause-lies
returns-clause-lies g c = subst (λ (x : RecordedState). IfOk c.ask_store.result (λ run. IfSome run (IsUsableRun x.store.xorbs c.args.hashes.now))) c.self.view_is c.ask_store.ensures.lies

pub returns-clause-empty : goal.returns-clause-empty
returns-clause-empty g c = λ none. absurd (some_hashes _ _ c.is_empty.ensures c.if-is_empty.false none)

pub returns-clause-unchanged : goal.returns-clause-unchanged
returns-clause-unchanged g c =
    query_keeps c.self.inside.opened.value.files _ _ (map (option_map (λ g'. g'.value)) c.self.inside.flushed.items) c.self.inside.history.items c.ask_store.ensures.unchanged c.args.self.now c.self.view_is

pub returns-clause-shards : goal.returns-clause-shards
returns-clause-shards g c =
    query_shards c.self.inside.opened.value.files _ _ (map (option_map (λ g'. g'.value)) c.self.inside.flushed.items) c.self.inside.history.items c.ask_store.ensures.unchanged c.args.self.now c.ask_store.new.history.items c.self.view_is
