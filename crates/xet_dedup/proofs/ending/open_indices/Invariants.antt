use Rattle.std.proofs.Common.{◌≡◌, ◌++◌, drop}
use Rattle.xet_dedup.specs.Deduping.{open_from, open_indices}
use Rattle.xet_dedup.proofs.ending.open_indices.Given as goal

abbrev pub invariant-loop-at : goal.invariant-loop-at
invariant-loop-at l = l.indices.items ++ open_from l.at (drop l.at l.segments) ≡ open_indices l.segments
