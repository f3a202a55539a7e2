use Rattle.std.proofs.Common.{◌≡◌, ◌+◌, ◌<◌, ◌^◌, drop, length, map}
use Rattle.xet_shard_format.specs.Records.{section}
use Rattle.xet_shard.proofs.union.is_few.Given as goal

abbrev pub invariant-loop-item : goal.invariant-loop-item
invariant-loop-item g l =
    record {
      sum : l.rows + length (section g.R.Record.rows_of (drop l.item-index (map g.T.Lends.lent l.records))) ≡ length (section g.R.Record.rows_of (map g.T.Lends.lent l.records)) + 1;
      below : l.rows < 2 ^ 32;
    }
