use Rattle.std.proofs.Common.{◌++◌, ◌∷◌, []}
use Rattle.xet_dedup_queries.specs.Acts.Act.{Stored}
use Rattle.xet_dedup_queries.proofs.acts.Acts.stored.Given as goal

abbrev pub ghost-of : goal.ghost-of
ghost-of a = a.before.now.items ++ Stored a.call.now.0.now a.call.now.1.now ∷ []
