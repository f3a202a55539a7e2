use Rattle.std.proofs.Common.{◌≡◌, ◌-◌, ◌≤◌, length, drop, map}
use Rattle.xet_cut.specs.Limits.{with_minimum}
use Rattle.xet_cut.specs.Partitions.{complete_chunks, first_medium, part_in}
use Rattle.xet_cut.proofs.partitions.part_in.Given as goal

abbrev pub invariant-chunks : goal.invariant-chunks
invariant-chunks l = record {
  within : l.end ≤ length l.bytes;
  rest : first_medium l.limits l.end l.previous (map length (complete_chunks (with_minimum l.limits 1) (drop l.end l.bytes))) ≡ part_in l.limits l.bytes;
}

abbrev pub decreases-chunks : goal.decreases-chunks
decreases-chunks l = length l.bytes - l.end
