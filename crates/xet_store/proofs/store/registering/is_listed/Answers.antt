use Rattle.std.proofs.Common.{◌∙◌, sym}
use Rattle.xet_store_disk.specs.theorems.Rows.{same_leaves}
use Rattle.xet_store.proofs.Known.{listed_if}
use Rattle.xet_store.proofs.store.registering.is_listed.Goals as goal

pub returns-then-eq-2-clause-same : goal.returns-then-eq-2-clause-same
returns-then-eq-2-clause-same g c =
    λ is. listed_if _ c.args.chunks.now c.args.store.now.xorbs c.args.hash.now c.in-Some.ensures (sym c.as_slice.ensures ∙ same_leaves _ _ (sym c.eq-in-Some.ensures ∙ c.if-eq-2.true))
