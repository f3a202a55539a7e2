use Rattle.std.proofs.Common.{List, subst, ℕ}
use Rattle.xet_shard_flush.specs.Importing.{Imports}
use Rattle.xet_shard_flush.proofs.import.import_shard.Goals as goal

pub returns-in-Ok-clause-imported : goal.returns-in-Ok-clause-imported
returns-in-Ok-clause-imported g c =
    let a = c.args in
    let new = c.import_path.new in
    let files = g.D.Disk.files in
    let is = c.in-Ok.ensures.imported in
    subst (λ (p : List ℕ). Imports (g.D.Disk.tells a.disk.now) a.cap (files a.disk.now) (files new.disk) a.folder.now a.bytes.now a.registry.now new.registry p) is.name is

pub returns-in-Err-clause-checked : goal.returns-in-Err-clause-checked
returns-in-Err-clause-checked g c = c.in-Err.ensures.checked
