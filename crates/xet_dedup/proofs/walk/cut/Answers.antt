use Rattle.std.proofs.Common.{ℕ, sym, subst}
use Rattle.xet_dedup_queries.specs.Registering.{IsNewXorb}
use Rattle.xet_dedup.proofs.Cuts.{block_is_new_xorb}
use Rattle.xet_dedup.proofs.walk.cut.Goals as goal

pub register_new_xorb-requires-clause-new : goal.register_new_xorb-requires-clause-new
register_new_xorb-requires-clause-new g c =
    subst (λ (limits : ℕ × ℕ). IsNewXorb limits c.in-Ok.xorb) (sym c.requires.limits)
    (block_is_new_xorb c.args.plan.now.settings c.args.plan.now.block c.recall_invariant.ensures.block c.in-Ok.xorb c.in-Ok.ensures.exact c.in-Ok.ensures.leaves c.requires.some c.requires.block)
