use Rattle.std.proofs.Common.{◌++◌, ◌∷◌, []}
use Rattle.xet_dedup_queries.specs.Acts.Act.{Noted}
use Rattle.xet_dedup_queries.proofs.acts.Acts.noted.Given as goal

abbrev pub ghost-of : goal.ghost-of
ghost-of a = a.before.now.items ++ Noted a.call.now.now ∷ []
