use Rattle.std.proofs.Common.{refl}
use Rattle.xet_program.specs.internal.Stops.{folder_causes}
use Rattle.xet_program.proofs.Folder.{lists_opened, stop_refused}
use Rattle.xet_program.proofs.Listing.{opens_before}
use Rattle.xet_program.proofs.list.list.Goals as goal

pub returns-in-Ok-clause-listed : goal.returns-in-Ok-clause-listed
returns-in-Ok-clause-listed g c =
    lists_opened (g.D.Disk.tells c.args.disk) (g.D.Disk.files c.args.disk) _ c.args.now c.in-Ok.session c.in-Ok.ensures.opened (opens_before _ _ _ _ _ c.in-Ok.ensures.opened c.in-Ok.ensures.contents c.in-Ok.ensures.few) c.list_files-answer.result
    c.list_files-answer.ensures.text c.list_files-answer.ensures.differ

pub returns-in-Err-clause-stop : goal.returns-in-Err-clause-stop
returns-in-Err-clause-stop g c =
    let tells = g.D.Disk.tells c.args.disk in
    let files = g.D.Disk.files c.args.disk in
    stop_refused (folder_causes tells c.args.now files) c.not_opened.result.1 tells files (g.D.Disk.files c.in-Err.refused.disk) c.args.now _ _ c.in-Err.refused.error c.in-Err.refused.name (c.in-Err.ensures.unpruned refl) c.in-Err.ensures.refused
    (λ reason h. h) c.not_opened.ensures.stop
