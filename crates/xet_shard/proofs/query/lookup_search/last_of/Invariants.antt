use Rattle.std.proofs.Common.{◌≡◌, drop}
use Rattle.xet_shard_format.specs.Lookups.{flat_places}
use Rattle.xet_shard.specs.Queries.{last_of}
use Rattle.xet_shard.proofs.Asking.{or_found}
use Rattle.xet_shard.proofs.query.lookup_search.last_of.Given as goal

abbrev pub invariant-loop-item : goal.invariant-loop-item
invariant-loop-item l = or_found l.found (last_of l.first (flat_places (drop l.item-index l.items))) ≡ last_of l.first (flat_places l.items)
