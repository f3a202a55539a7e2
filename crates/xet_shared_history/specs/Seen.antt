-- What the holder of a seat has seen of a history.
use Rattle.std.specs.Prelude.{List}
use Rattle.atomic_table.specs.Seated.{TableId}
use Rattle.xet_history.specs.declared.entry.Entry.{Entry}

-- the table that counts the history, and the entries that were seen
pub record Seen : Type 0 where
  pub table : TableId
  pub seen : List Entry

abbrev pub seen_by : TableId → List Entry → Seen
seen_by table seen = record { table = table; seen = seen }
