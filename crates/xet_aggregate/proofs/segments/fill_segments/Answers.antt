use Rattle.xet_aggregate.specs.Aggregate.{filled_segment}
use Rattle.xet_aggregate.proofs.InPlace.{changed_more}
use Rattle.xet_aggregate.proofs.segments.fill_segments.Goals as goal

pub loop-segment-preserved : goal.loop-segment-preserved
loop-segment-preserved c =
    changed_more (filled_segment c.args.hash) c.args.segments.now c.loop-segment.segments c.loop-segment.segment-index c.segment-item.result c.fill_segment.new.segment c.loop-segment-test.true c.loop-segment.invariant c.fill_segment.ensures
