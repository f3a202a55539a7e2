use Rattle.std.proofs.Common.{◌≡◌, ◌↔◌, drop}
use Rattle.xet_dedup.specs.Records.{range_hashes}
use Rattle.xet_completion.proofs.ranges.are_range_hashes.Given as goal

abbrev pub invariant-loop-i : goal.invariant-loop-i
invariant-loop-i l = (l.rows ≡ range_hashes l.segments l.leaves) ↔ (drop l.i l.rows ≡ range_hashes (drop l.i l.segments) l.rest)
