use Rattle.std.proofs.Common.{rules}
use Rattle.std.proofs.lemmas.List.Sorted.{IsNonDecreasingBy-from_sort, answers_always}
use Rattle.xet_shard_format.specs.Lookups.{flat_places}
use Rattle.xet_shard_index.specs.Runs.{Item}
use Rattle.xet_shard_index.proofs.Sorting.{sorted_places, sorted_rising}
use Rattle.xet_shard_index.proofs.shard_items.shard_items.Goals as goal

pub returns-clause-rising : goal.returns-clause-rising
returns-clause-rising c =
    rw (c.in_ok-keep_lasts.ensures, c.deref.ensures.value)
    (sorted_rising _ (IsNonDecreasingBy-from_sort (λ (i : Item). i.0) _ (c.in_ok-sort_by_key.ensures.sorted (λ (i : Item). i.0) (answers_always _ _ _ (λ f a r g h. search rules)))))

pub returns-clause-places : goal.returns-clause-places
returns-clause-places c word =
    rw (c.in_ok-keep_lasts.ensures, c.deref.ensures.value)
    (sorted_places c.args.shard word (flat_places c.args.items.now) _
    (IsNonDecreasingBy-from_sort (λ (i : Item). i.0) _ (c.in_ok-sort_by_key.ensures.sorted (λ (i : Item). i.0) (answers_always _ _ _ (λ f a r g h. search rules))))
    (rw c.in_ok-place_items.ensures at (c.in_ok-sort_by_key.ensures.stable (λ (i : Item). i.0) (answers_always _ _ _ (λ f a r g h. search rules)))))
