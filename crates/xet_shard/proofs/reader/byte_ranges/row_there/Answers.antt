use Rattle.std.proofs.Common.{◌∙◌, ap, arith, drop, List, ℕ}
use Rattle.xet_shard_format.specs.Rows.{row_of}
use Rattle.xet_shard_format.specs.theorems.RowList.{row_first}
use Rattle.xet_shard.proofs.reader.byte_ranges.row_there.Goals as goal

pub returns-clause-told : goal.returns-clause-told
returns-clause-told g c = λ told le.
    c.row_of.ensures ∙ ap (λ (b : List ℕ). row_of b) (c.in_ok-fill.ensures.told told le) ∙ row_first 48 (drop c.args.at (g.R.ReadAt.bytes c.args.reader.now)) (omega arith)
