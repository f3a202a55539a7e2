use Rattle.std.proofs.Common.{◌≡◌, take}
use Rattle.xet_cut.specs.internal.Boundary.{rolled}
use Rattle.xet_cut.proofs.boundary.roll.Given as goal

abbrev pub invariant-loop-byte : goal.invariant-loop-byte
invariant-loop-byte l = l.hash ≡ rolled l.gear l.start (take l.byte-index l.bytes)
