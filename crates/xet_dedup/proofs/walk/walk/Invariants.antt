use Rattle.std.proofs.Common.{◌≡◌, ◌≤◌, ◌-◌, ◌++◌, length, drop}
use Rattle.xet_dedup_queries.specs.Interface.{Extends}
use Rattle.xet_dedup.specs.Deduping.{RegistersAlone}
use Rattle.xet_dedup.specs.Placing.{PlacesTo}
use Rattle.xet_dedup.specs.internal.Batches.{AddsChoices, Walks}
use Rattle.xet_dedup.proofs.walk.walk.Given as goal

abbrev pub invariant-places : goal.invariant-places
invariant-places g l = record {
  within : l.at ≤ length l.batch.chunks.now;
  walking : Walks g.I.DeduplicationDataInterface.lists g.I.DeduplicationDataInterface.stands g.I.DeduplicationDataInterface.calls l.start.value l.interface l.batch l.at l.plan;
  placed : PlacesTo g.I.DeduplicationDataInterface.lists g.I.DeduplicationDataInterface.stands g.I.DeduplicationDataInterface.calls g.I.DeduplicationDataInterface.acts l.batch.chunks.now l.batch.places.now l.batch.base l.batch.file_id l.initial.interface l.initial.plan l.interface l.plan l.at l.dependencies.items;
  leaves : l.plan.leaves ++ drop l.at l.batch.leaves.now ≡ l.initial.plan.leaves ++ l.batch.leaves.now;
  added : AddsChoices l.batch.leaves.now l.initial.plan.choices l.plan.choices l.at;
  settings : l.plan.settings ≡ l.initial.plan.settings;
  calls : RegistersAlone (g.I.DeduplicationDataInterface.calls l.initial.interface) (g.I.DeduplicationDataInterface.calls l.interface);
  extends : Extends g.I.DeduplicationDataInterface.lists g.I.DeduplicationDataInterface.stands g.I.DeduplicationDataInterface.refused g.I.DeduplicationDataInterface.cut_limits l.initial.interface l.interface;
  passed : g.I.DeduplicationDataInterface.failed l.interface ≡ g.I.DeduplicationDataInterface.failed l.initial.interface;
}

abbrev pub decreases-places : goal.decreases-places
decreases-places g l = length l.batch.chunks.now - l.at
