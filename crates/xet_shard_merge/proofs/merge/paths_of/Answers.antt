use Rattle.std.proofs.Common.{◌≡◌, ◌∙◌, ap, arith, subst, sym, take}
use Rattle.std.proofs.lemmas.List.{take_all}
use Rattle.xet_shard_merge.proofs.Paths.{has, has_more, is_path_of}
use Rattle.xet_shard_merge.proofs.merge.paths_of.Goals as goal

pub loop-shard-preserved : goal.loop-shard-preserved
loop-shard-preserved c path =
    ap (has path) c.in_ok-insert.ensures.keys ∙ has_more path c.loop-shard.paths.keys c.as_str.result c.args.shards.now c.loop-shard.shard-index c.shard-item.result c.loop-shard-test.true c.shard-item.is c.as_str.ensures (c.loop-shard.invariant path)

pub returns-clause-paths : goal.returns-clause-paths
returns-clause-paths c path = c.loop-shard.invariant path ∙ ap (is_path_of path) (take_all c.loop-shard.shard-index c.args.shards.now c.loop-shard-test.false)
