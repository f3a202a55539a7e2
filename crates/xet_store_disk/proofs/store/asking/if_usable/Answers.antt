use Rattle.std.proofs.Common.{Bool, IsTrue, refl, subst}
use Rattle.xet_store_disk.proofs.store.asking.if_usable.Goals as goal

pub returns-then-is_usable-clause-lies : goal.returns-then-is_usable-clause-lies
returns-then-is_usable-clause-lies c = c.is_usable.ensures.usable c.if-is_usable.true

pub returns-else-is_usable-clause-refused : goal.returns-else-is_usable-clause-refused
returns-else-is_usable-clause-refused c = (refl, λ run. absurd (cc (subst (λ (b : Bool). IsTrue b) c.if-is_usable.false (c.is_usable.ensures.plain run))))
