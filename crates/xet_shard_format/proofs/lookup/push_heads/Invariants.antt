use Rattle.std.proofs.Common.{◌≡◌, ◌+◌, ◌++◌, drop, length, map}
use Rattle.xet_shard_format.specs.Records.{section}
use Rattle.xet_shard_format.specs.Lookups.{heads_from, record_items_bytes}
use Rattle.xet_shard_format.proofs.lookup.push_heads.Given as goal

abbrev pub invariant-loop-item : goal.invariant-loop-item
invariant-loop-item g l =
    let lent = g.T.Lends.lent in
    let hash_of = g.R.Record.hash_of in
    let rows_of = g.R.Record.rows_of in
    record {
      row : l.row + length (section rows_of (drop l.item-index (map lent l.records))) ≡ length (section rows_of (map lent l.records));
      so_far : l.encoding.items ++ record_items_bytes (heads_from hash_of rows_of l.row (drop l.item-index (map lent l.records))) ≡ l.fn.encoding.items ++ record_items_bytes (heads_from hash_of rows_of 0 (map lent l.records));
    }
