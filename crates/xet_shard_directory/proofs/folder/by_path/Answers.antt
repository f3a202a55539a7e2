use Rattle.std.proofs.Common.{◌≡◌, rules}
use Rattle.std.proofs.lemmas.Fn.{always_returns_same}
use Rattle.std.proofs.lemmas.List.MinMax.{ranks_by}
use Rattle.std.specs.Ordering.{is_lt}
use Rattle.xet_shard_directory.specs.declared.shard_file.MDBShardFile.{MDBShardFile}
use Rattle.xet_shard_directory.specs.internal.Folders.{path_order}
use Rattle.xet_shard_directory.proofs.Ages.{path_total}
use Rattle.xet_shard_directory.proofs.folder.by_path.Goals as goal

pub returns-clause-sorted : goal.returns-clause-sorted
returns-clause-sorted c =
    c.sort_unstable_by.ensures.sorted (λ a b. is_lt (path_order a b)) (ranks_by path_total (λ (s : MDBShardFile). s))
    (always_returns_same _ (λ a r. is_lt r ≡ is_lt (path_order a.0.now a.1.0.now)) _ (λ a r f called. search rules))
