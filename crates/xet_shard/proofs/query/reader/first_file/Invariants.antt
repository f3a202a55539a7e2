use Rattle.std.proofs.Common.{◌≡◌, drop, true}
use Rattle.xet_shard.specs.Queries.{first_file, rows_of}
use Rattle.xet_shard_format.specs.Records.{first_word}
use Rattle.xet_shard.proofs.query.reader.first_file.Given as goal
use Rattle.xet_io.specs.Frame.{Unchanged}
use Rattle.xet_io.specs.Lent.{IsSameLent}

abbrev pub invariant-loop-item : goal.invariant-loop-item
invariant-loop-item g l = record {
  frame : Unchanged g.R.ReadAt.bytes g.R.ReadAt.tells g.R.ReadAt.faults l.fn.reader l.reader;
  lent : IsSameLent (g.R.ReadAt.lent l.fn.reader) (g.R.ReadAt.lent l.reader);
  so_far : g.R.ReadAt.tells l.fn.reader ≡ true → first_file l.f l.hash (rows_of (first_word l.hash) (drop l.item-index l.items)) (g.R.ReadAt.bytes l.fn.reader) ≡ first_file l.f l.hash (rows_of (first_word l.hash) l.items) (g.R.ReadAt.bytes l.fn.reader);
}
