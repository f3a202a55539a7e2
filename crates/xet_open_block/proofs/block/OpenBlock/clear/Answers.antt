use Rattle.std.proofs.Common.{rules}
use Rattle.xet_open_block.proofs.Runs.{tracked_none}
use Rattle.xet_open_block.proofs.block.OpenBlock.clear.Goals as goal

pub invariant_of-self : goal.invariant_of-self
invariant_of-self c = search (rules, tracked_none)
