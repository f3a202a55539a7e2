use Rattle.std.proofs.Common.{sym}
use Rattle.xet_shard_registry.proofs.Collecting.{index_at, key_absent, key_present}
use Rattle.xet_shard_registry.proofs.registry.ShardRegistry.index.Goals as goal

pub returns-in_err-collection-clause-exact : goal.returns-in_err-collection-clause-exact
returns-in_err-collection-clause-exact c shards held =
    let tables = rw (← c.self.view_is) at held in
    rw c.from_residual.ensures (sym (key_absent shards c.self.inside.collections c.args.key.now tables.collections c.in_err-collection.ensures.none))

pub returns-clause-index : goal.returns-clause-index
returns-clause-index c shards held =
    let tables = rw (← c.self.view_is) at held in
    let there = c.in_ok-collection.ensures.some in
    index_at shards c.self.inside.collections there.0 c.in_ok-collection.collection.now c.args.key.now tables.collections there.1 there.2

pub returns-clause-exact : goal.returns-clause-exact
returns-clause-exact c shards held =
    let tables = rw (← c.self.view_is) at held in
    let there = c.in_ok-collection.ensures.some in
    sym (key_present shards c.self.inside.collections there.0 c.in_ok-collection.collection.now c.args.key.now tables.collections there.1 there.2)
