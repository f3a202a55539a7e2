use Rattle.xet_shard_registry.proofs.Collecting.{key_at, no_key}
use Rattle.xet_shard_registry.proofs.collections.Collections.find.Goals as goal

pub returns-clause-found : goal.returns-clause-found
returns-clause-found c = rw (← c.self.view_is) (key_at c.self.inside.list.items c.self.inside.keys.keys c.args.key.now c.get_index_of.result c.self.invariant.0 c.get_index_of.ensures.index)

pub returns-clause-absent : goal.returns-clause-absent
returns-clause-absent c = rw (← c.self.view_is) (no_key c.self.inside.list.items c.self.inside.keys.keys c.args.key.now c.get_index_of.result c.self.invariant.0 c.get_index_of.ensures.found)
