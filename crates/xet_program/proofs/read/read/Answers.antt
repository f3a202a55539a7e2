use Rattle.std.proofs.Common.{refl}
use Rattle.xet_program.specs.internal.Stops.{reading_range_causes}
use Rattle.xet_program.proofs.Folder.{folder_reading, reads_opened, stop_refused, stops_reading}
use Rattle.xet_program.proofs.Listing.{opens_before}
use Rattle.xet_program.proofs.read.read.Goals as goal

pub returns-in-Ok-clause-range : goal.returns-in-Ok-clause-range
returns-in-Ok-clause-range g c =
    reads_opened (g.D.Disk.tells c.args.disk) (g.D.Disk.files c.args.disk) _ c.args.now c.in-Ok.session c.in-Ok.ensures.opened (opens_before _ _ _ _ _ c.in-Ok.ensures.opened c.in-Ok.ensures.contents c.in-Ok.ensures.few) c.args.hash.now c.args.from c.args.to
    c.read_range-answer.result c.read_range-answer.ensures.range

pub returns-in-Ok-clause-stop : goal.returns-in-Ok-clause-stop
returns-in-Ok-clause-stop g c =
    stops_reading (g.D.Disk.tells c.args.disk) (g.D.Disk.files c.args.disk) _ c.args.now c.in-Ok.session c.in-Ok.ensures.opened (opens_before _ _ _ _ _ c.in-Ok.ensures.opened c.in-Ok.ensures.contents c.in-Ok.ensures.few) c.args.hash.now c.args.from c.args.to
    c.read_range-answer.result c.read_range-answer.ensures.stop

pub returns-in-Err-clause-stop : goal.returns-in-Err-clause-stop
returns-in-Err-clause-stop g c =
    let tells = g.D.Disk.tells c.args.disk in
    let files = g.D.Disk.files c.args.disk in
    stop_refused (reading_range_causes tells c.args.now files c.args.hash.now c.args.from c.args.to) c.not_opened.result.1 tells files (g.D.Disk.files c.in-Err.refused.disk) c.args.now _ _ c.in-Err.refused.error c.in-Err.refused.name (c.in-Err.ensures.unpruned refl) c.in-Err.ensures.refused
    (folder_reading tells c.args.now files c.args.hash.now c.args.from c.args.to) c.not_opened.ensures.stop
