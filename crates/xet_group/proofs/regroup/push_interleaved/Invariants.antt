use Rattle.std.proofs.Common.{◌≡◌, ◌++◌, drop}
use Rattle.xet_group.proofs.Woven.{woven}
use Rattle.xet_group.proofs.regroup.push_interleaved.Given as goal

abbrev pub invariant-loop-i : goal.invariant-loop-i
invariant-loop-i l =
    l.out.items ++ woven (drop l.i l.first) (drop l.i l.second) (drop l.i l.third) (drop l.i l.fourth) ≡ l.initial.out.items ++ woven l.first l.second l.third l.fourth
