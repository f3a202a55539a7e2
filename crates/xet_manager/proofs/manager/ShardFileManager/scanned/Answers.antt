use Rattle.std.proofs.Common.{[], ap, arith, length, subst, sym}
use Rattle.xet_io.specs.Disk.{Files}
use Rattle.xet_manager.specs.Manager.{IsUnscanned, ManagerState}
use Rattle.xet_manager.proofs.manager.ShardFileManager.scanned.Goals as goal

pub returns-in-Err-clause-unscanned : goal.returns-in-Err-clause-unscanned
returns-in-Err-clause-unscanned g c told none =
    subst (λ (f : Files). IsUnscanned c.args.self.settings.index_cap c.args.self.files f c.args.self.folder c.args.prune_expired c.args.prune_to c.args.self.settings.buffer c.args.now c.in-Err.error) (sym (ap (λ (m : ManagerState). m.files) c.self.view_is))
    (record { empty = c.args.self.registry; none = none; last = c.refresh_shard_dir.new.self.registry; refused = c.in-Err.ensures.stopped told })

pub returns-in-Ok-clause-grown : goal.returns-in-Ok-clause-grown
returns-in-Ok-clause-grown g c none =
    let grows = c.refresh_shard_dir.ensures.grows in
    record { added = grows.added; registers = grows.registers [] none }

pub returns-in-Ok-clause-few : goal.returns-in-Ok-clause-few
returns-in-Ok-clause-few g c none = c.refresh_shard_dir.ensures.few (omega (arith, ap length none.files))
