use Rattle.std.proofs.Common.{[], ap, arith, false, length, refl, string_bytes}
use Rattle.xet_shard_registration.specs.Registering.{with_all}
use Rattle.xet_manager.proofs.Opening.{opened, scans, unopened}
use Rattle.xet_manager.proofs.manager.ShardFileManager.new_in_session_directory.Goals as goal

pub returns-then-scan-clause-opened : goal.returns-then-scan-clause-opened
returns-then-scan-clause-opened g c =
    opened c.scanned.result (g.D.Disk.tells c.args.disk) (string_bytes c.args.directory) c.args.settings c.args.now (g.D.Disk.faults c.args.disk)
    (rw (c.of_parts-manager.ensures, c.in-Ok.ensures.folder) at c.scanned.ensures.rest) (rw c.of_parts-manager.ensures at c.scanned.ensures.later)

pub returns-then-scan-clause-scanned : goal.returns-then-scan-clause-scanned
returns-then-scan-clause-scanned g c told _ =
    scans c.scanned.result (g.D.Disk.tells c.args.disk) (string_bytes c.args.directory) c.args.settings c.args.now (g.D.Disk.files c.args.disk) false 0 c.in-Ok.registry c.in-Ok.ensures.empty
    (rw (c.of_parts-manager.ensures, c.in-Ok.ensures.folder) at c.scanned.ensures.rest) ((rw (c.of_parts-manager.ensures, c.in-Ok.ensures.folder) at c.scanned.ensures.registered) told)

pub returns-then-scan-clause-files : goal.returns-then-scan-clause-files
returns-then-scan-clause-files g c told = (rw c.of_parts-manager.ensures at c.scanned.ensures.unchanged) told refl refl

pub returns-then-scan-clause-refused : goal.returns-then-scan-clause-refused
returns-then-scan-clause-refused g c told =
    unopened c.scanned.result (λ r. g.D.Disk.files r.disk) (λ r. r.error) c.args.settings.index_cap (g.D.Disk.files c.args.disk) (string_bytes c.args.directory) false 0 c.args.settings.buffer c.args.now
    ((rw (c.of_parts-manager.ensures, c.in-Ok.ensures.folder) at c.scanned.ensures.unscanned) told c.in-Ok.ensures.empty)

pub returns-then-scan-clause-reason : goal.returns-then-scan-clause-reason
returns-then-scan-clause-reason g c = rw c.of_parts-manager.ensures at c.scanned.ensures.refused

pub returns-then-scan-clause-disk : goal.returns-then-scan-clause-disk
returns-then-scan-clause-disk g c = rw c.of_parts-manager.ensures at c.scanned.ensures.disk

pub returns-then-scan-clause-kept : goal.returns-then-scan-clause-kept
returns-then-scan-clause-kept g c told = (rw c.of_parts-manager.ensures at c.scanned.ensures.kept) told refl refl

pub returns-then-scan-clause-later : goal.returns-then-scan-clause-later
returns-then-scan-clause-later g c = rw c.of_parts-manager.ensures at c.scanned.ensures.counted

pub returns-then-scan-clause-grown : goal.returns-then-scan-clause-grown
returns-then-scan-clause-grown g c = (rw c.of_parts-manager.ensures at c.scanned.ensures.grown) c.in-Ok.ensures.empty

pub returns-then-scan-clause-few : goal.returns-then-scan-clause-few
returns-then-scan-clause-few g c = (rw c.of_parts-manager.ensures at c.scanned.ensures.few) c.in-Ok.ensures.empty

pub returns-else-scan-clause-grown : goal.returns-else-scan-clause-grown
unfolding with_all
returns-else-scan-clause-grown g c = record { added = []; registers = rw c.of_parts-manager.ensures c.in-Ok.ensures.empty }

pub returns-else-scan-clause-few : goal.returns-else-scan-clause-few
returns-else-scan-clause-few g c = rw c.of_parts-manager.ensures (omega (arith, ap length c.in-Ok.ensures.empty.files))
