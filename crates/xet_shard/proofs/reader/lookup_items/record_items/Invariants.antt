use Rattle.std.proofs.Common.{◌≡◌, ◌+◌, ◌++◌, drop, length}
use Rattle.xet_shard_format.specs.Lookups.{heads_from}
use Rattle.xet_shard_format.specs.Records.{section}
use Rattle.xet_shard.proofs.reader.lookup_items.record_items.Given as goal

abbrev pub invariant-loop-record : goal.invariant-loop-record
invariant-loop-record g l = record {
  row : l.row + length (section g.X.Record.rows_of (drop l.record-index l.records)) ≡ length (section g.X.Record.rows_of l.records);
  so_far : l.found.items ++ heads_from g.X.Record.hash_of g.X.Record.rows_of l.row (drop l.record-index l.records) ≡ heads_from g.X.Record.hash_of g.X.Record.rows_of 0 l.records;
}
