use Rattle.std.proofs.Common.{◌∙◌, Option, Result, subst, sym}
use Rattle.std.specs.Prelude.{IfErr}
use Rattle.xet_hash.specs.declared.error.StoreError.{StoreError}
use Rattle.xet_shard_directory.specs.Values.{loaded}
use Rattle.xet_shard_directory.specs.declared.shard_file.MDBShardFile.{MDBShardFile}
use Rattle.xet_shard_directory.specs.internal.Folders.{IsUnread}
use Rattle.xet_shard_directory.proofs.Skipping.{unread_file}
use Rattle.xet_shard_directory.proofs.folder.read_file.Goals as goal

pub returns-in-Err-clause-refused : goal.returns-in-Err-clause-refused
returns-in-Err-clause-refused g c = λ told.
    let skip = c.args.skip_on_error in
    let read = loaded (g.D.Disk.files c.args.disk.now) c.args.hash c.args.path.now in
    subst (λ (r : Result (Option MDBShardFile) StoreError). IfErr r (IsUnread skip read)) (sym c.unless_skipped.ensures ∙ c.in-Err.is)
    (unread_file skip c.load.result read (c.load.ensures.exact told))
