use Rattle.std.proofs.Common.{◌++◌, ◌∷◌, [], option_map}
use Rattle.xet_dedup_queries.specs.Acts.Act.{Queried}
use Rattle.xet_dedup_queries.proofs.acts.Acts.queried.Given as goal

abbrev pub ghost-of : goal.ghost-of
ghost-of a = a.before.now.items ++ Queried a.call.now.0.now (option_map (λ r. (r.1, r.2)) a.call.now.1.now) ∷ []
