use Rattle.std.proofs.Common.{string_bytes, true}
use Rattle.xet_manager.proofs.Opening.{opened, scans, unopened}
use Rattle.xet_manager.proofs.manager.ShardFileManager.new_in_cache_directory.Goals as goal

pub returns-in-Ok-clause-opened : goal.returns-in-Ok-clause-opened
returns-in-Ok-clause-opened g c =
    opened c.scanned.result (g.D.Disk.tells c.args.disk) (string_bytes c.args.directory) c.args.settings c.args.now (g.D.Disk.faults c.args.disk)
    (rw (c.of_parts.ensures, c.in-Ok.ensures.folder) at c.scanned.ensures.rest) (rw c.of_parts.ensures at c.scanned.ensures.later)

pub returns-in-Ok-clause-scanned : goal.returns-in-Ok-clause-scanned
returns-in-Ok-clause-scanned g c told =
    scans c.scanned.result (g.D.Disk.tells c.args.disk) (string_bytes c.args.directory) c.args.settings c.args.now (g.D.Disk.files c.args.disk) true c.args.settings.cache_limit c.in-Ok.registry c.in-Ok.ensures.empty
    (rw (c.of_parts.ensures, c.in-Ok.ensures.folder) at c.scanned.ensures.rest) ((rw (c.of_parts.ensures, c.in-Ok.ensures.folder) at c.scanned.ensures.registered) told)

pub returns-in-Ok-clause-refused : goal.returns-in-Ok-clause-refused
returns-in-Ok-clause-refused g c told =
    unopened c.scanned.result (λ r. g.D.Disk.files r.disk) (λ r. r.error) c.args.settings.index_cap (g.D.Disk.files c.args.disk) (string_bytes c.args.directory) true c.args.settings.cache_limit c.args.settings.buffer c.args.now
    ((rw (c.of_parts.ensures, c.in-Ok.ensures.folder) at c.scanned.ensures.unscanned) told c.in-Ok.ensures.empty)

pub returns-in-Ok-clause-reason : goal.returns-in-Ok-clause-reason
returns-in-Ok-clause-reason g c = rw c.of_parts.ensures at c.scanned.ensures.refused

pub returns-in-Ok-clause-disk : goal.returns-in-Ok-clause-disk
returns-in-Ok-clause-disk g c = rw c.of_parts.ensures at c.scanned.ensures.disk

pub returns-in-Ok-clause-later : goal.returns-in-Ok-clause-later
returns-in-Ok-clause-later g c = rw c.of_parts.ensures at c.scanned.ensures.counted

pub returns-in-Ok-clause-grown : goal.returns-in-Ok-clause-grown
returns-in-Ok-clause-grown g c = (rw c.of_parts.ensures at c.scanned.ensures.grown) c.in-Ok.ensures.empty

pub returns-in-Ok-clause-few : goal.returns-in-Ok-clause-few
returns-in-Ok-clause-few g c = (rw c.of_parts.ensures at c.scanned.ensures.few) c.in-Ok.ensures.empty
