use Rattle.std.proofs.Common.{false, subst, sym}
use Rattle.xet_store.specs.Recorded.{RecordedState}
use Rattle.xet_store.specs.Alone.{IsAlone}
use Rattle.xet_store.proofs.Steps.{alone_begins}
use Rattle.xet_store.proofs.alone.Alone.new.Goals as goal

pub invariant_of-result : goal.invariant_of-result
invariant_of-result g c = subst (λ (s : RecordedState). IsAlone s c.args.store false) (sym c.of-start.ensures) (alone_begins c.args.store)
