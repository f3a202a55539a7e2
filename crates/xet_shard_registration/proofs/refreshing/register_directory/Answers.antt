use Rattle.std.proofs.Common.{◌∙◌}
use Rattle.xet_base.specs.theorems.Exits.{on_exit}
use Rattle.xet_shard_registration.proofs.Growing.{grows_none, no_large}
use Rattle.xet_shard_registration.proofs.LoadedPaths.{directory_registered, directory_stopped, kept_unchanged, loads_unchanged}
use Rattle.xet_shard_registration.specs.Registering.{IsFullIfTooLarge}
use Rattle.xet_shard_registration.proofs.refreshing.register_directory.Goals as goal

pub returns-in_err-loaded-clause-unchanged : goal.returns-in_err-loaded-clause-unchanged
returns-in_err-loaded-clause-unchanged g c = λ told off unlimited.
    let a = c.args in
    kept_unchanged (g.D.Disk.files a.disk.now) (g.D.Disk.files c.load_managed_directory.new.disk) a.directory.now a.prune_expired a.prune_to a.buffer a.now off unlimited (c.in_err-loaded.ensures.kept told)

pub returns-clause-registered : goal.returns-clause-registered
returns-clause-registered g c = λ told.
    let a = c.args in
    let done = c.in_ok-loaded.ensures in
    directory_registered a.cap (g.D.Disk.files a.disk.now) (g.D.Disk.files c.load_managed_directory.new.disk) (g.D.Disk.files c.register_shards.new.disk) a.directory.now a.prune_expired a.prune_to a.buffer a.now a.registry.now
    c.register_shards.new.registry c.in_ok-loaded.loaded.items c.deref.result.now c.deref.ensures.value (done.loaded told) c.register_shards.ensures.frame.same c.register_shards.result
    (c.register_shards.ensures.registered (done.frame.tells ∙ told))

pub returns-clause-stopped : goal.returns-clause-stopped
returns-clause-stopped g c = λ told.
    let a = c.args in
    let done = c.in_ok-loaded.ensures in
    directory_stopped a.cap (g.D.Disk.files a.disk.now) (g.D.Disk.files c.load_managed_directory.new.disk) (g.D.Disk.files c.register_shards.new.disk) a.directory.now a.prune_expired a.prune_to a.buffer a.now a.registry.now
    c.register_shards.new.registry c.in_ok-loaded.loaded.items c.deref.result.now c.deref.ensures.value (done.loaded told) c.register_shards.ensures.frame.same c.register_shards.result
    (c.register_shards.ensures.stopped (done.frame.tells ∙ told))

pub returns-clause-unchanged : goal.returns-clause-unchanged
returns-clause-unchanged g c = λ told off unlimited.
    let a = c.args in
    c.register_shards.ensures.frame.same
    ∙ loads_unchanged (g.D.Disk.files a.disk.now) (g.D.Disk.files c.load_managed_directory.new.disk) a.directory.now a.prune_expired a.prune_to a.buffer a.now off unlimited c.in_ok-loaded.loaded.items (c.in_ok-loaded.ensures.loaded told)

pub returns-in_err-loaded-clause-enters : goal.returns-in_err-loaded-clause-enters
returns-in_err-loaded-clause-enters g c = grows_none c.args.cap c.args.registry.now

pub returns-in_err-loaded-clause-full : goal.returns-in_err-loaded-clause-full
returns-in_err-loaded-clause-full g c =
    on_exit c.from_residual.result c.in_err-loaded.field-0.0 (IsFullIfTooLarge c.args.registry.now) c.from_residual.ensures.1
    (no_large _ _ c.args.registry.now c.in_err-loaded.field-0.0 c.in_err-loaded.ensures.reason)
