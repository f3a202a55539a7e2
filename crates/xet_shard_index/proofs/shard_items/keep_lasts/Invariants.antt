use Rattle.std.proofs.Common.{◌≡◌, ◌++◌, drop}
use Rattle.xet_shard_index.specs.internal.Items.{lasts}
use Rattle.xet_shard_index.proofs.shard_items.keep_lasts.Given as goal

abbrev pub invariant-loop-i : goal.invariant-loop-i
invariant-loop-i l = l.last.items ++ lasts (drop l.i l.items) ≡ lasts l.items
