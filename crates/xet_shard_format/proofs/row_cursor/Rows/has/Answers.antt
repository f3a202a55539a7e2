use Rattle.std.proofs.Common.{ap, sym, ◌∙◌, length, nat_le}
use Rattle.xet_shard_format.specs.theorems.RowList.{length-rows_in}
use Rattle.xet_shard_format.proofs.row_cursor.Rows.has.Goals as goal

pub returns : goal.returns
returns c = ap (λ n. nat_le c.args.count n) (sym (length-rows_in c.self.inside.left c.self.inside.rest.now) ∙ ap length c.self.view_is)
