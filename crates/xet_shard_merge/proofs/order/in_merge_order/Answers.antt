use Rattle.std.proofs.Common.{◌≡◌, rules}
use Rattle.std.proofs.lemmas.Fn.{always_returns_same}
use Rattle.std.proofs.lemmas.List.MinMax.{ranks_by}
use Rattle.std.specs.Ordering.{is_lt}
use Rattle.xet_shard_directory.specs.declared.shard_file.MDBShardFile.{MDBShardFile}
use Rattle.xet_shard_merge.specs.internal.Order.{merge_order}
use Rattle.xet_shard_merge.proofs.Loading.{merge_total}
use Rattle.xet_shard_merge.proofs.order.in_merge_order.Goals as goal

pub returns-clause-sorted : goal.returns-clause-sorted
returns-clause-sorted c =
    c.sort_unstable_by.ensures.sorted (λ a b. is_lt (merge_order a b)) (ranks_by merge_total (λ (s : MDBShardFile). s))
    (always_returns_same _ (λ a r. is_lt r ≡ is_lt (merge_order a.0.now a.1.0.now)) _ (λ a r f called. search rules))
