use Rattle.xet_dedup.specs.theorems.Entries.{placed_few, stopped_few}
use Rattle.xet_dedup.proofs.laws.batches_have_few_entries.Goals as goal

pub returns-clause-placed : goal.returns-clause-placed
returns-clause-placed g c = λ file_id chunks old new p q k n range are once is.
    let I = g.I.DeduplicationDataInterface in
    placed_few I.lists I.stands I.calls I.acts file_id chunks old p new range are once q k n is

pub returns-clause-stopped : goal.returns-clause-stopped
returns-clause-stopped g c = λ file_id chunks old new p range are once stops.
    let I = g.I.DeduplicationDataInterface in
    stopped_few I.lists I.stands I.calls I.acts file_id chunks old p new range are once I.is_global stops
