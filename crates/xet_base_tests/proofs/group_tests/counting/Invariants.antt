use Rattle.std.proofs.Common.{◌≡◌, length}
use Rattle.xet_base_tests.proofs.group_tests.counting.Given as goal

abbrev pub invariant-loop-i : goal.invariant-loop-i
invariant-loop-i l = length l.bytes.items ≡ l.i
