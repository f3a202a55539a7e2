use Rattle.xet_base.specs.theorems.Exits.{on_exit}
use Rattle.xet_shard_registration.proofs.Growing.{grows_none, no_large_find}
use Rattle.xet_shard_registration.specs.Registering.{IsFullIfTooLarge}
use Rattle.xet_shard_registration.proofs.refreshing.register_paths.Goals as goal

pub returns-in_err-loaded-clause-enters : goal.returns-in_err-loaded-clause-enters
returns-in_err-loaded-clause-enters g c = grows_none c.args.cap c.args.registry.now

pub returns-in_err-loaded-clause-full : goal.returns-in_err-loaded-clause-full
returns-in_err-loaded-clause-full g c =
    on_exit c.from_residual.result c.in_err-loaded.field-0.0 (IsFullIfTooLarge c.args.registry.now) c.from_residual.ensures.1
    (no_large_find _ _ c.args.registry.now c.in_err-loaded.field-0.0 c.in_err-loaded.ensures.reason)
