use Rattle.std.proofs.Common.{◌≡◌, ◌∙◌, ◌+◌, ◌<◌, ◌^◌, ap, arith, length}
use Rattle.xet_aggregate.specs.Aggregate.{Aggregate}
use Rattle.xet_aggregate.proofs.CanMerge.{can_shift, small_boundaries}
use Rattle.xet_aggregate.proofs.aggregator.DataAggregator.merge_in.Goals as goal

pub shift_files-requires : goal.shift_files-requires
shift_files-requires c =
    let same : c.deref_mut.result.now ≡ c.args.other.files = c.deref_mut.ensures.value ∙ ap (λ (a : Aggregate). a.files) c.other.view_is in
    let few : c.len-count.result + length c.args.other.chunks < 2 ^ 32 =
    omega (arith, c.len-count.ensures, c.requires.count, ap (λ (a : Aggregate). length a.chunks) c.self.view_is) in
    can_shift _ c.args.other.chunks c.args.other.files c.deref_mut.result.now same few c.requires.other.runs

pub push_shifted-requires-clause-small : goal.push_shifted-requires-clause-small
push_shifted-requires-clause-small c =
    let same : c.deref.result.now ≡ c.args.other.boundaries = c.deref.ensures.value ∙ ap (λ (a : Aggregate). a.boundaries) c.other.view_is in
    let few : c.len-count.result + length c.args.other.chunks < 2 ^ 32 =
    omega (arith, c.len-count.ensures, c.requires.count, ap (λ (a : Aggregate). length a.chunks) c.self.view_is) in
    small_boundaries _ (length c.args.other.chunks) c.args.other.boundaries c.deref.result.now same few c.requires.other.boundaries
