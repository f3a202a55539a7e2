use Rattle.std.proofs.Common.{◌≡◌, ◌+◌, drop, map}
use Rattle.xet_shard_format.specs.Encoding.{stored}
use Rattle.xet_shard_format.proofs.lookup.stored.Given as goal

abbrev pub invariant-loop-item : goal.invariant-loop-item
invariant-loop-item g l = l.total + stored (drop l.item-index (map g.T.Lends.lent l.blocks)) ≡ stored (map g.T.Lends.lent l.blocks)
