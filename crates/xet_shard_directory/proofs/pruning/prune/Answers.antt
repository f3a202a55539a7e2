use Rattle.std.proofs.Common.{◌≡◌, ◌≢◌, ◌++◌, ◌∙◌, ◌<◌, ◌≤◌, ℕ, suc, List, ap, drop, length, subst, take}
use Rattle.std.specs.List.Sorted.{IsPermutation}
use Rattle.xet_shard_directory.specs.Directories.{total_length}
use Rattle.xet_shard_directory.specs.declared.shard_file.MDBShardFile.{MDBShardFile}
use Rattle.xet_shard_directory.proofs.Pruned.{prunes}
use Rattle.xet_shard_directory.proofs.pruning.prune.Goals as goal

pub returns : goal.returns
returns c = λ up.
    let limit = c.args.prune_to in
    let aged = c.by_age-oldest.result.items in
    let k = c.pruned_count-count.result in
    let count = c.pruned_count-count.ensures in
    let here = c.deref.ensures.value in (
      take k aged,
      prunes limit c.args.plan.kept.items aged c.by_path.result.items k up c.by_age-oldest.ensures.permutation c.by_age-oldest.ensures.sorted
          (subst (λ (xs : List MDBShardFile). IsPermutation xs c.by_path.result.items) c.in_ok-newest.ensures.tail c.by_path.ensures.permutation) c.by_path.ensures.sorted
          (subst (λ (xs : List MDBShardFile). k ≤ length xs) here count.bound) count.none
          (subst (λ (xs : List MDBShardFile). limit ≢ 0 → total_length (drop k xs) ≤ limit) here count.within)
          (subst (λ (xs : List MDBShardFile). (j : ℕ) → k ≡ suc j → limit < total_length (drop j xs)) here count.needed),
      c.in_ok-append.ensures.items ∙ ap (λ (xs : List MDBShardFile). c.args.plan.removed.items ++ xs) c.in_ok-newest.ensures.items,
    )
