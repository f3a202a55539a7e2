use Rattle.std.proofs.Common.{◌≡◌, ◌++◌, drop}
use Rattle.xet_dedup.specs.Records.{range_hashes}
use Rattle.xet_dedup.proofs.records.range_hashes.Given as goal

abbrev pub invariant-loop-segment : goal.invariant-loop-segment
invariant-loop-segment l = l.ranges.items ++ range_hashes (drop l.segment-index l.plan) l.rest ≡ range_hashes l.plan l.leaves
