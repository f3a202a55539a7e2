use Rattle.std.proofs.Common.{List}
use Rattle.xet_shard.specs.Union.{ShardRecords}
use Rattle.xet_shard_format.specs.Lookups.{flat_places}
use Rattle.xet_shard_registry.specs.Collections.{IsRegistryOf}
use Rattle.xet_shard_registry.specs.Registered.{Registered, with_shard}
use Rattle.xet_shard_registration.proofs.Due.{adds_if_ok, adds_none_if_err, files_if_ok, none_if_err}
use Rattle.xet_shard_registration.proofs.InOrder.{entered_with, on_ok}
use Rattle.xet_shard_registration.proofs.registration.register_new.Goals as goal

pub returns-clause-registered : goal.returns-clause-registered
returns-clause-registered g c =
    let items = c.in_ok-items.items.items in
    on_ok c.register.result (λ (entered : (shards : List Registered) (records : ShardRecords) → IsRegistryOf shards c.args.registry.now → IsRegistryOf (with_shard c.args.cap shards c.in_ok-copy.copy (flat_places c.deref.result.now) records) c.register.new.self).
    (flat_places items, c.in_ok-items.ensures.exact, entered_with c.args.cap c.args.registry.now c.register.new.self c.in_ok-copy.copy c.args.file.now c.deref.result.now items c.in_ok-copy.ensures.copy c.deref.ensures.value entered))
    c.register.ensures.registered

pub returns-clause-due : goal.returns-clause-due
returns-clause-due g c = adds_if_ok c.register.result c.args.file.now c.in_ok-copy.copy c.args.registry.now c.register.new.self c.in_ok-copy.ensures.copy c.requires.new c.register.ensures.files c.register.ensures.hashes

pub returns-clause-same : goal.returns-clause-same
returns-clause-same g c = adds_none_if_err c.register.result c.args.registry.now c.register.new.self c.register.ensures.same

pub returns-in_err-items-clause-same : goal.returns-in_err-items-clause-same
returns-in_err-items-clause-same g c = none_if_err c.from_residual.result c.args.registry.now

pub returns-in_err-copy-clause-same : goal.returns-in_err-copy-clause-same
returns-in_err-copy-clause-same g c = none_if_err c.from_residual-in_err-copy.result c.args.registry.now

pub returns-clause-files : goal.returns-clause-files
returns-clause-files g c = files_if_ok c.register.result c.args.file.now c.in_ok-copy.copy c.args.registry.now c.register.new.self c.in_ok-copy.ensures.copy c.register.ensures.files
