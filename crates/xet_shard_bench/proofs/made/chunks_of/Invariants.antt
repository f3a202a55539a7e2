use Rattle.std.proofs.Common.{◌≡◌, length}
use Rattle.xet_shard_bench.proofs.made.chunks_of.Given as goal

abbrev pub invariant-loop-i : goal.invariant-loop-i
invariant-loop-i l = length l.chunks.items ≡ l.i
