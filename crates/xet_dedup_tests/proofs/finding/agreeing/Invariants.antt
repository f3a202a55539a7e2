use Rattle.std.proofs.Common.{◌-◌, ◌≤◌, length}
use Rattle.xet_dedup_tests.proofs.finding.agreeing.Given as goal

abbrev pub invariant-loop-count : goal.invariant-loop-count
invariant-loop-count l = (l.count ≤ length l.leaves) × (l.count ≤ length l.hashes)

abbrev pub decreases-loop-count : goal.decreases-loop-count
decreases-loop-count l = length l.leaves - l.count
