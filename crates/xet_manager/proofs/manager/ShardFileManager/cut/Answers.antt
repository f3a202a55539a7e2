use Rattle.std.proofs.Common.{◌≡◌, List, Some, subst, true, ℕ}
use Rattle.xet_manager.specs.Manager.{ManagerState}
use Rattle.xet_shard_flush.specs.Due.{IsDue}
use Rattle.xet_shard_flush.specs.Importing.{KeepsFiles, flushed_bytes}
use Rattle.xet_manager.proofs.manager.ShardFileManager.cut.Goals as goal

pub flush_prepared-requires : goal.flush_prepared-requires
flush_prepared-requires g c due is =
    let folder : c.self.inside.folder ≡ c.as_str.result.now = cc c.as_str.ensures in
    let prepared : c.self.inside.room.due ≡ Some due = cc (c.take-due.ensures.value, is) in
    subst (λ (f : List ℕ). IsDue f c.self.inside.pending c.self.inside.moment due) folder (c.self.invariant.due due prepared)

pub returns-in-Ok-clause-safe : goal.returns-in-Ok-clause-safe
returns-in-Ok-clause-safe g c =
    let files = g.D.Disk.files in
    let old = c.self.inside in
    let new = c.flush_prepared.new.disk in
    let folder : c.as_str.result.now ≡ old.folder = cc c.as_str.ensures in
    subst (λ (m : ManagerState). m.tells ≡ true → KeepsFiles m.files (files new) m.folder (flushed_bytes m.pending m.moment) m.registry.files) c.self.view_is
    (subst (λ (f : List ℕ). g.D.Disk.tells old.disk ≡ true → KeepsFiles (files old.disk) (files new) f (flushed_bytes old.pending old.moment) old.registry.files) folder c.flush_prepared.ensures.safe)
