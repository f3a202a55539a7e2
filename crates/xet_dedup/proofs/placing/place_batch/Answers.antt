use Rattle.std.proofs.Common.{refl}
use Rattle.xet_dedup_queries.specs.theorems.Stopping.{stops_at_once}
use Rattle.xet_dedup.specs.Placing.StopsBatch.{asking}
use Rattle.xet_dedup.proofs.placing.place_batch.Goals as goal

pub returns-in-Err-clause-stopped : goal.returns-in-Err-clause-stopped
returns-in-Err-clause-stopped g c = asking (stops_at_once _ _ _ _ _ _ _ refl refl)
