use Rattle.xet_shard_format.specs.Lookups.{flat_places, place_cmp, flat_place}
use Rattle.std.proofs.lemmas.List.Sorted.{IsPermutation-map}
use Rattle.xet_shard_format.specs.theorems.Places.{flat_sorted, place_exact, place_total}
use Rattle.xet_shard_format.specs.theorems.Sorting.{sorted_exact}
use Rattle.xet_shard_format.proofs.lookup.in_order.Goals as goal

pub returns : goal.returns
returns c =
    let found = c.args.places.items in
    let ordered = c.sort.new.self.items in
    sorted_exact place_cmp place_total place_exact (flat_places found) (flat_places ordered) (IsPermutation-map flat_place found ordered c.in_ok-sort.ensures.permutation) (flat_sorted ordered c.in_ok-sort.ensures.sorted)
