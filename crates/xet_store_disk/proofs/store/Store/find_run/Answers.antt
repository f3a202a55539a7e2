use Rattle.std.proofs.Common.{◌≡◌, ◌∙◌, List, IfErr, IfOk, IfSome, Some, subst, sym, true}
use Rattle.xet_history.specs.Sound.{IsUsableRun}
use Rattle.xet_shard.specs.Runs.{held_run}
use Rattle.xet_shard_lookup.specs.Found.{found}
use Rattle.xet_shard_registry.specs.Collections.{IsRegistryOf}
use Rattle.xet_shard_registry.specs.Registered.{Registered}
use Rattle.xet_store_disk.specs.Asking.{AreOwnShards, IsAskingError}
use Rattle.xet_store_disk.specs.Store.{State, state}
use Rattle.xet_store_disk.proofs.Asking.{finds_listed, own_holds, pending_plain}
use Rattle.xet_store_disk.proofs.Reading.{sound_read}
use Rattle.xet_store_disk.proofs.store.Store.find_run.Goals as goal

pub invariant_of-self : goal.invariant_of-self
invariant_of-self g c = sound_read _ _ _ _ c.self.invariant c.find_listed.ensures.frame.tells c.find_listed.ensures.frame.same

pub returns-clause-found : goal.returns-clause-found
returns-clause-found g c =
    subst (λ (s : State). s.tells ≡ true → (shards : List Registered) → IsRegistryOf shards c.args.registry.now → AreOwnShards s shards → IfOk c.find_listed.result (λ run. run ≡ found s.files s.pending shards c.args.query.now)) c.self.view_is
    (λ told shards is own. c.find_listed.ensures.found told shards is (own_holds _ shards own))

pub returns-clause-lies : goal.returns-clause-lies
returns-clause-lies g c = subst (λ (s : State). IfOk c.find_listed.result (λ run. IfSome run (IsUsableRun s.xorbs c.args.query.now))) c.self.view_is c.find_listed.ensures.lies

pub returns-clause-empty : goal.returns-clause-empty
returns-clause-empty g c = λ none.
    let p = c.find_listed.ensures.empty none in
    let i = c.self.inside in
    (p.0, (λ k. state (g.D.Disk.tells (p.1 k)) (g.D.Disk.files (p.1 k)) (g.D.Disk.faults (p.1 k)) i.folder i.limits i.opened i.xorbs.entries i.records.entries i.shards.items i.pending) ∙ c.self.view_is)

pub returns-clause-pending : goal.returns-clause-pending
returns-clause-pending g c = λ run held.
    let i = c.self.inside in
    let held_here = subst (λ (s : State). held_run s.pending.blocks c.args.query.now ≡ Some run) (sym c.self.view_is) held in
    let p = c.find_listed.ensures.pending run held_here (pending_plain _ c.self.invariant c.args.query.now run held_here) in
    (p.0, (λ k. state (g.D.Disk.tells (p.1 k)) (g.D.Disk.files (p.1 k)) (g.D.Disk.faults (p.1 k)) i.folder i.limits i.opened i.xorbs.entries i.records.entries i.shards.items i.pending) ∙ c.self.view_is)

pub returns-clause-refused : goal.returns-clause-refused
returns-clause-refused g c =
    subst (λ (s : State). (shards : List Registered) → IsRegistryOf shards c.args.registry.now → (s.tells ≡ true → AreOwnShards s shards) → IfErr c.find_listed.result (IsAskingError s.tells s.faults (g.D.Disk.faults c.find_listed.new.disk))) c.self.view_is
    (λ shards is own. c.find_listed.ensures.refused shards is (λ told. finds_listed _ c.self.invariant told shards (own told) c.args.query.now))
