use Rattle.std.proofs.Common.{◌≡◌, ◌+◌, drop, map}
use Rattle.xet_shard_format.specs.Encoding.{materialized}
use Rattle.xet_shard_format.proofs.lookup.materialized.Given as goal

abbrev pub invariant-loop-item : goal.invariant-loop-item
invariant-loop-item g l = l.total + materialized (drop l.item-index (map g.T.Lends.lent l.files)) ≡ materialized (map g.T.Lends.lent l.files)
