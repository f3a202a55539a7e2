use Rattle.std.proofs.Common.{◌-◌, ◌≤◌}
use Rattle.xet_cut.proofs.Boundaries.{Passed}
use Rattle.xet_cut.proofs.boundary.scan.Given as goal

abbrev pub invariant-loop-i : goal.invariant-loop-i
invariant-loop-i l = record { to : l.i ≤ l.end; passed : Passed l.gear l.mask l.start l.bytes l.i l.hash }

abbrev pub decreases-loop-i : goal.decreases-loop-i
decreases-loop-i l = l.end - l.i

abbrev pub invariant-loop-j : goal.invariant-loop-j
invariant-loop-j l = Passed l.gear l.mask l.start l.bytes l.j l.hash
