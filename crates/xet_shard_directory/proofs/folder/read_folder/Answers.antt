use Rattle.std.proofs.Common.{◌∙◌, List, subst}
use Rattle.std.specs.List.Sorted.{IsPermutation}
use Rattle.xet_shard_directory.specs.declared.shard_file.MDBShardFile.{MDBShardFile}
use Rattle.xet_shard_directory.proofs.FolderShards.{all_listed, folder_read}
use Rattle.xet_shard_directory.proofs.folder.read_folder.Goals as goal

pub returns-in-Ok-clause-told : goal.returns-in-Ok-clause-told
returns-in-Ok-clause-told g c = λ told.
    let files = g.D.Disk.files c.args.disk.now in
    let folder = c.args.folder.now in
    let frame = c.in_ok-entries.ensures.frame in
    let entries = c.in_ok-entries.entries.items in
    let sorted = c.by_path.result.items in
    let items =
    all_listed files folder (g.D.Disk.files c.list_shards.new.disk) entries c.deref.result.now c.new-shards.result.items c.load_entries.new.shards.items frame.same c.deref.ensures.value c.new-shards.ensures.items
    (c.in-Ok.ensures.told (frame.tells ∙ told)) in
    folder_read files folder entries (c.in_ok-entries.ensures.told told) sorted (subst (λ (xs : List MDBShardFile). IsPermutation xs sorted) items c.by_path.ensures.permutation) c.by_path.ensures.sorted
