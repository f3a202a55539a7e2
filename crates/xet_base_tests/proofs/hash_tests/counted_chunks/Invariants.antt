use Rattle.std.proofs.Common.{◌≤◌, ◌*◌}
use Rattle.xet_hash.specs.Merkle.{total_len}
use Rattle.xet_base_tests.proofs.hash_tests.counted_chunks.Given as goal

abbrev pub invariant-loop-i : goal.invariant-loop-i
invariant-loop-i l = total_len l.chunks.items ≤ 100 * l.i
