use Rattle.std.proofs.Common.{refl, ap, sym, ◌∙◌, arith, rules}
use Rattle.xet_shard_format.specs.Reading.{row_at}
use Rattle.xet_shard_format.specs.theorems.RowList.{rows_none, rows_next}
use Rattle.xet_shard_format.proofs.row_cursor.Rows.next.Goals as goal

pub returns-then-self-eq0 : goal.returns-then-self-eq0
returns-then-self-eq0 c = ap row_at (sym c.self.view_is ∙ rows_none c.self.inside.left c.self.inside.rest.now (search rules))

pub returns : goal.returns
returns c = ap row_at (sym c.self.view_is ∙ rows_next c.self.inside.left c.self.inside.rest.now (omega arith)) ∙ rw (c.row_of-row.ensures, c.split_at.ensures.back) refl
