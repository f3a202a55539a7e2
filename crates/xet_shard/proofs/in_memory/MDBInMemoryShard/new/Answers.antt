use Rattle.std.proofs.Common.{arith}
use Rattle.xet_shard.proofs.Holding.{nothing_held}
use Rattle.xet_shard.proofs.Placing.{none_placed}
use Rattle.xet_shard.proofs.in_memory.MDBInMemoryShard.new.Goals as goal

pub invariant_of-result : goal.invariant_of-result
invariant_of-result c = (
  rw c.new.ensures.empty tt,
  rw c.new-2.ensures.empty tt,
  rw (c.new.ensures.empty, c.new-2.ensures.empty) nothing_held,
  λ h. rw c.new.ensures.empty (none_placed h c.new-3.result.entries c.new-3.ensures.empty),
  rw (c.new.ensures.empty, c.new-2.ensures.empty) (omega arith),
)
