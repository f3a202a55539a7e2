use Rattle.std.proofs.Common.{◌∙◌, ap}
use Rattle.xet_shard_file.specs.Names.{shard_path}
use Rattle.xet_shard_flush.proofs.import.import_path.Goals as goal

pub returns-in_ok-file-clause-imported : goal.returns-in_ok-file-clause-imported
returns-in_ok-file-clause-imported g c =
    c.write_known.ensures.imported c.args.folder.now c.args.cap (c.in_ok-file.ensures.path ∙ ap (shard_path c.args.folder.now) c.compute_data_hash-hash.ensures)

pub returns-in_ok-file-clause-safe : goal.returns-in_ok-file-clause-safe
returns-in_ok-file-clause-safe g c = λ told.
    c.write_known.ensures.safe told c.args.folder.now (c.in_ok-file.ensures.path ∙ ap (shard_path c.args.folder.now) c.compute_data_hash-hash.ensures)
