use Rattle.std.proofs.Common.{rules, refl}
use Rattle.xet_shard_index.proofs.insertion.insertion_of.Goals as goal

pub returns-then-is_of : goal.returns-then-is_of
returns-then-is_of c = (c.in_ok-ready.ready, search rules, refl, c.if-is_of.ensures.shard refl, c.if-is_of.ensures.items refl)
