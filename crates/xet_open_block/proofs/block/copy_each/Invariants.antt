use Rattle.std.proofs.Common.{◌≡◌}
use Rattle.xet_open_block.proofs.block.copy_each.Given as goal

-- no chunk has changed
abbrev pub invariant-loop-chunk : goal.invariant-loop-chunk
invariant-loop-chunk l = l.chunks ≡ l.fn.chunks
