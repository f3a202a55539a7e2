use Rattle.std.proofs.Common.{◌≡◌, ◌*◌}
use Rattle.xet_hash.specs.Merkle.{total_len}
use Rattle.xet_bench.proofs.timed.leaves.Given as goal

abbrev pub invariant-loop-i : goal.invariant-loop-i
invariant-loop-i l = total_len l.leaves.items ≡ 512 * l.i
