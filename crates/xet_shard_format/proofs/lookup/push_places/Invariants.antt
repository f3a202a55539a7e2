use Rattle.std.proofs.Common.{◌≡◌, ◌++◌, take}
use Rattle.xet_shard_format.specs.Lookups.{flat_places, chunk_items_bytes}
use Rattle.xet_shard_format.proofs.lookup.push_places.Given as goal

abbrev pub invariant-loop-place : goal.invariant-loop-place
invariant-loop-place g l = l.encoding.items ≡ l.fn.encoding.items ++ chunk_items_bytes (flat_places (take l.place-index l.place-items))
