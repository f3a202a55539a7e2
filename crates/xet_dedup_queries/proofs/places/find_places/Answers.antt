use Rattle.std.proofs.Common.{refl}
use Rattle.xet_dedup_queries.specs.theorems.Stopping.{stops_at_once}
use Rattle.xet_dedup_queries.proofs.places.find_places.Goals as goal

pub returns-in_default-clause-stopped : goal.returns-in_default-clause-stopped
returns-in_default-clause-stopped g c =
    let I = g.I.DeduplicationDataInterface in
    let s = c.args.interface.now in
    stops_at_once I.is_global c.args.is_first c.args.hashes.now (I.calls s) (I.calls s) (I.acts s) (I.acts s) refl refl
