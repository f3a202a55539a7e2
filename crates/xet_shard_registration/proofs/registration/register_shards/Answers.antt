use Rattle.std.proofs.Common.{List}
use Rattle.xet_base.specs.theorems.Exits.{on_exit}
use Rattle.xet_hash.specs.declared.error.StoreError.{StoreError}
use Rattle.xet_hash.specs.declared.error.StoreError.TheVariants.{OutOfMemory}
use Rattle.xet_shard.specs.Union.{ShardRecords}
use Rattle.xet_shard_directory.specs.declared.shard_file.MDBShardFile.{MDBShardFile}
use Rattle.xet_shard_registry.specs.Collections.{IsRegistryOf}
use Rattle.xet_shard_registry.specs.Registered.{Registered}
use Rattle.xet_shard_registration.specs.Registering.{AddsFirst, IsFullIfTooLarge, Stops, newest_first}
use Rattle.xet_shard_registration.proofs.Due.{adds_nothing}
use Rattle.xet_shard_registration.proofs.Growing.{grows_none, no_large_memory}
use Rattle.xet_shard_registration.proofs.InOrder.{stops_short}
use Rattle.xet_shard_registration.proofs.registration.register_shards.Goals as goal

pub returns-in_err-ordered-clause-stopped : goal.returns-in_err-ordered-clause-stopped
returns-in_err-ordered-clause-stopped g c = λ told.
    let files = g.D.Disk.files c.args.disk.now in
    on_exit c.from_residual.result OutOfMemory
    (λ (d : StoreError). (shards : List Registered) (records : MDBShardFile → ShardRecords) → IsRegistryOf shards c.args.registry.now
    → Stops c.args.cap files records shards (newest_first c.args.files.now) c.args.registry.now d)
    c.from_residual.ensures.1 (λ shards records held. stops_short c.args.cap files records shards (newest_first c.args.files.now) c.args.registry.now held)

pub returns-in_err-ordered-clause-front : goal.returns-in_err-ordered-clause-front
returns-in_err-ordered-clause-front g c =
    on_exit c.from_residual.result OutOfMemory (λ (d : StoreError). AddsFirst (newest_first c.args.files.now) c.args.registry.now c.args.registry.now) c.from_residual.ensures.1
    (adds_nothing (newest_first c.args.files.now) c.args.registry.now)

pub returns-in_err-ordered-clause-enters : goal.returns-in_err-ordered-clause-enters
returns-in_err-ordered-clause-enters g c = grows_none c.args.cap c.args.registry.now

pub returns-in_err-ordered-clause-full : goal.returns-in_err-ordered-clause-full
returns-in_err-ordered-clause-full g c =
    on_exit c.from_residual.result OutOfMemory (IsFullIfTooLarge c.args.registry.now) c.from_residual.ensures.1 (no_large_memory c.args.registry.now)
