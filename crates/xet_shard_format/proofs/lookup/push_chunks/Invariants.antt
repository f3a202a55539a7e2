use Rattle.std.proofs.Common.{◌≡◌, ◌++◌, drop}
use Rattle.xet_shard_format.specs.Lookups.{flat_places, lookup_rows_from}
use Rattle.xet_shard_format.proofs.lookup.push_chunks.Given as goal

abbrev pub invariant-loop-chunk : goal.invariant-loop-chunk
invariant-loop-chunk l = record {
  count : l.place ≡ l.chunk-index;
  so_far : flat_places l.found.items ++ lookup_rows_from l.row l.place (drop l.chunk-index l.chunks) ≡ flat_places l.fn.found.items ++ lookup_rows_from l.row 0 l.chunks;
}
