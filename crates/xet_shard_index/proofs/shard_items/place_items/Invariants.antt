use Rattle.std.proofs.Common.{◌≡◌, take}
use Rattle.xet_shard_format.specs.Lookups.{flat_places}
use Rattle.xet_shard_index.specs.internal.Items.{placed}
use Rattle.xet_shard_index.proofs.shard_items.place_items.Given as goal

abbrev pub invariant-loop-item : goal.invariant-loop-item
invariant-loop-item l = l.found.items ≡ placed l.shard (flat_places (take l.item-index l.items))
