use Rattle.std.proofs.Common.{sym, subst}
use Rattle.std.proofs.lemmas.List.Elements.{All-filter}
use Rattle.std.proofs.lemmas.List.Kept.{AllPairs-filter}
use Rattle.std.specs.List.{All, AllPairs}
use Rattle.xet_shard_directory.specs.Directories.{IsBeforeByPath, IsReadAt, is_valid}
use Rattle.xet_shard_directory.specs.declared.shard_file.MDBShardFile.{MDBShardFile}
use Rattle.xet_shard_directory.proofs.shard_file.MDBShardFile.load_all_valid.Goals as goal

pub returns-clause-order : goal.returns-clause-order
returns-clause-order g c = λ told.
    subst (AllPairs IsBeforeByPath) (sym c.valid.ensures) (AllPairs-filter IsBeforeByPath (is_valid c.args.now) c.in_ok-read.read.items (c.in_ok-read.ensures.order told))

pub returns-clause-each : goal.returns-clause-each
returns-clause-each g c = λ told.
    let P : MDBShardFile → Type 0 = IsReadAt (g.D.Disk.files c.args.disk.now) c.args.path.now in
    subst (All P) (sym c.valid.ensures) (All-filter (is_valid c.args.now) P c.in_ok-read.read.items (c.in_ok-read.ensures.each told))
