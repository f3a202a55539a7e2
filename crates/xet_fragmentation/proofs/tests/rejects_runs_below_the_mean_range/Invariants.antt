use Rattle.std.proofs.Common.{◌≤◌, ◌*◌}
use Rattle.xet_fragmentation.specs.Fragmentation.{chunks_in}
use Rattle.xet_fragmentation.proofs.tests.rejects_runs_below_the_mean_range.Given as goal

-- each step adds at most twice what a byte holds
abbrev pub invariant-loop-first : goal.invariant-loop-first
invariant-loop-first g l = chunks_in l.guard ≤ 510 * l.first-index
