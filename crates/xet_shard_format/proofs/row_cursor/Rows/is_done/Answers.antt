use Rattle.std.proofs.Common.{ap, sym, ◌∙◌, length, nat_eq}
use Rattle.xet_shard_format.specs.theorems.RowList.{length-rows_in}
use Rattle.xet_shard_format.proofs.row_cursor.Rows.is_done.Goals as goal

pub returns : goal.returns
returns c = ap (λ n. nat_eq n 0) (sym (length-rows_in c.self.inside.left c.self.inside.rest.now) ∙ ap length c.self.view_is)
