use Rattle.std.proofs.Common.{◌∙◌}
use Rattle.xet_shard_registry.proofs.Collecting.{no_collections, no_words}
use Rattle.xet_shard_registry.proofs.collections.Collections.new.Goals as goal

pub returns-clause-empty : goal.returns-clause-empty
returns-clause-empty c = rw (c.in_ok-push.ensures.items, c.new-list.ensures.items) (no_collections c.new.result (c.new.ensures.key ∙ c.default-key.ensures) c.new.ensures.members c.new.ensures.index)

pub returns-clause-words : goal.returns-clause-words
returns-clause-words c = rw (c.in_ok-push.ensures.items, c.new-list.ensures.items) (no_words c.new.result c.new.ensures.index)
