use Rattle.xet_dedup.specs.theorems.Adding.{placed_calls, placed_lands, placed_nexts, stopped_calls}
use Rattle.xet_dedup.specs.theorems.Entries.{adds_both, adds_then_stops}
use Rattle.xet_dedup.proofs.laws.batches_add_calls.Goals as goal

pub returns-clause-placed : goal.returns-clause-placed
returns-clause-placed g c = λ file_id chunks old new p q k n range are is.
    let I = g.I.DeduplicationDataInterface in
    placed_calls I.lists I.stands I.calls I.acts file_id chunks old p new q k n range are is

pub returns-clause-stopped : goal.returns-clause-stopped
returns-clause-stopped g c = λ file_id chunks old new p range are stops.
    let I = g.I.DeduplicationDataInterface in
    stopped_calls I.lists I.stands I.calls I.acts file_id chunks old p I.is_global new range are stops

pub returns-clause-both : goal.returns-clause-both
returns-clause-both g c = λ before mid after leaves more old now new first second. adds_both before mid leaves more old now new first after second

pub returns-clause-then_stops : goal.returns-clause-then_stops
returns-clause-then_stops g c = adds_then_stops

pub returns-clause-nexts : goal.returns-clause-nexts
returns-clause-nexts g c = λ file_id chunks old new p q k n is.
    let I = g.I.DeduplicationDataInterface in
    placed_nexts I.lists I.stands I.calls I.acts file_id chunks old p new q k n is

pub returns-clause-lands : goal.returns-clause-lands
returns-clause-lands g c = λ file_id chunks old new p q k n is.
    let I = g.I.DeduplicationDataInterface in
    placed_lands I.lists I.stands I.calls I.acts file_id chunks old p new q k n is
