use Rattle.std.proofs.Common.{◌≡◌, ◌++◌, drop, map, take}
use Rattle.std.specs.List.{AllByRecursion}
use Rattle.xet_shard_format.specs.Rows.{RowFits, rows_bytes}
use Rattle.xet_shard_format.proofs.encoding.push_entries.Given as goal

-- the text so far, and that all rows fit if those that are left do
abbrev pub invariant-loop-entry : goal.invariant-loop-entry
invariant-loop-entry g l = record {
  encoding : l.encoding.items ≡ l.fn.encoding.items ++ rows_bytes (map g.E.Entry.row_of (take l.entry-index l.entries));
  fits : AllByRecursion RowFits (map g.E.Entry.row_of (drop l.entry-index l.entries)) → AllByRecursion RowFits (map g.E.Entry.row_of l.entries);
}
