use Rattle.std.proofs.Common.{false, subst, sym}
use Rattle.xet_store.specs.Holders.{Holder}
use Rattle.xet_locked_session.specs.internal.Kept.{IsKept}
use Rattle.xet_locked_session.proofs.Returned.{begins}
use Rattle.xet_locked_session.proofs.passing.Passing.of.Goals as goal

pub invariant_of-result : goal.invariant_of-result
invariant_of-result g c =
    subst (λ (h : Holder). IsKept g.J.Naming.store h c.args.pass false 0) (sym c.of-start.ensures) (begins g.J.Naming.store c.args.pass c.recall_invariant.ensures.of c.recall_invariant.ensures.seen)
