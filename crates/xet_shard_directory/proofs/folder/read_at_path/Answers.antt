use Rattle.std.proofs.Common.{◌∙◌}
use Rattle.std.proofs.lemmas.Result.{IfErr-weaker, IfOk-weaker}
use Rattle.std.specs.List.{All}
use Rattle.xet_shard_directory.specs.Directories.{IsReadAt, IsUnloaded, ReadsFolder}
use Rattle.xet_shard_directory.specs.internal.Folders.{IsUnreadIn}
use Rattle.xet_shard_directory.proofs.AtPath.{folder_each, folder_unloaded}
use Rattle.xet_shard_directory.proofs.folder.read_at_path.Goals as goal

pub returns-in-None-clause-refused : goal.returns-in-None-clause-refused
returns-in-None-clause-refused g c = λ told.
    let files = g.D.Disk.files c.args.disk.now in
    let path = c.args.path.now in
    let skip = c.args.skip_on_error in
    IfErr-weaker c.read_folder.result (IsUnreadIn files path skip) (IsUnloaded files path skip)
    (folder_unloaded files path (λ h is name. absurd (cc (c.in-None.ensures.every h is.0 is.1 (c.last_part.ensures ∙ name)))) skip)
    (c.read_folder.ensures.refused told)

pub returns-in-None-clause-each : goal.returns-in-None-clause-each
returns-in-None-clause-each g c = λ told.
    let files = g.D.Disk.files c.args.disk.now in
    let path = c.args.path.now in
    IfOk-weaker c.read_folder.result (λ read. ReadsFolder files path read.items) (λ read. All (IsReadAt files path) read.items)
    (λ read reads. folder_each files path (λ h is name. absurd (cc (c.in-None.ensures.every h is.0 is.1 (c.last_part.ensures ∙ name)))) read.items reads)
    (c.read_folder.ensures.told told)
