use Rattle.std.proofs.Common.{◌≡◌, ◌++◌, drop, map}
use Rattle.std.specs.List.{AllByRecursion}
use Rattle.xet_shard_format.specs.Rows.{RowFits, rows_bytes}
use Rattle.xet_shard_format.specs.Records.{section}
use Rattle.xet_shard_format.proofs.encoding.push_section.Given as goal

-- the text so far with that of what is left, and that all rows fit if those that are left do
abbrev pub invariant-loop-item : goal.invariant-loop-item
invariant-loop-item g l =
    let lent = g.T.Lends.lent in
    let rows_of = g.R.Record.rows_of in
    record {
      encoding : l.encoding.items ++ rows_bytes (section rows_of (drop l.item-index (map lent l.records))) ≡ l.fn.encoding.items ++ rows_bytes (section rows_of (map lent l.records));
      fits : AllByRecursion RowFits (section rows_of (drop l.item-index (map lent l.records))) → AllByRecursion RowFits (section rows_of (map lent l.records));
    }
