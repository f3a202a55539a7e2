use Rattle.std.proofs.Common.{◌≡◌}
use Rattle.xet_shard.proofs.in_memory.by_hash.Given as goal

abbrev pub invariant-loop-value : goal.invariant-loop-value
invariant-loop-value g l = l.records.items ≡ l.yielded
