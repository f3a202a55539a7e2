use Rattle.std.proofs.Common.{arith}
use Rattle.xet_group.proofs.Counts.{set_shape}
use Rattle.xet_group.proofs.lanes.add_counts.Goals as goal

pub returns-clause-shape : goal.returns-clause-shape
returns-clause-shape c =
    set_shape _ _ _
    (set_shape _ _ _
    (set_shape _ _ _ (set_shape _ _ _ c.requires.shape (omega arith) c.add_row.ensures.len) (omega arith) c.add_row-2.ensures.len)
    (omega arith) c.add_row-3.ensures.len)
    (omega arith) c.add_row-4.ensures.len
