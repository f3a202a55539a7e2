use Rattle.std.proofs.Common.{rules}
use Rattle.xet_open_block.proofs.Runs.{tracked_none}
use Rattle.xet_open_block.proofs.block.OpenBlock.new.Goals as goal

pub invariant_of-result : goal.invariant_of-result
invariant_of-result c = search (rules, tracked_none)
