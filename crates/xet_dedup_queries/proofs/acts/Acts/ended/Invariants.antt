use Rattle.std.proofs.Common.{◌++◌, ◌∷◌, []}
use Rattle.xet_dedup_queries.specs.Acts.Act.{Ended}
use Rattle.xet_dedup_queries.proofs.acts.Acts.ended.Given as goal

abbrev pub ghost-of : goal.ghost-of
ghost-of a = a.before.now.items ++ Ended a.call.now ∷ []
