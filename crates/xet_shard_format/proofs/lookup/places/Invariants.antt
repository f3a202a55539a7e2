use Rattle.std.proofs.Common.{◌≡◌, ◌+◌, ◌++◌, drop, length, map}
use Rattle.xet_shard_format.specs.Records.{xorb_section}
use Rattle.xet_shard_format.specs.Lookups.{chunks_from, flat_places}
use Rattle.xet_shard_format.proofs.lookup.places.Given as goal

abbrev pub invariant-loop-item : goal.invariant-loop-item
invariant-loop-item g l =
    let lent = g.T.Lends.lent in
    record {
      row : l.row + length (xorb_section (drop l.item-index (map lent l.blocks))) ≡ length (xorb_section (map lent l.blocks));
      so_far : flat_places l.found.items ++ chunks_from l.row (drop l.item-index (map lent l.blocks)) ≡ chunks_from 0 (map lent l.blocks);
    }
