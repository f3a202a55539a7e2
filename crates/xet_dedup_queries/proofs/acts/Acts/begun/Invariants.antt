use Rattle.std.proofs.Common.{◌++◌, ◌∷◌, []}
use Rattle.xet_dedup_queries.specs.Acts.Act.{Begun}
use Rattle.xet_dedup_queries.proofs.acts.Acts.begun.Given as goal

abbrev pub ghost-of : goal.ghost-of
ghost-of a = a.before.now.items ++ Begun a.call.now ∷ []
