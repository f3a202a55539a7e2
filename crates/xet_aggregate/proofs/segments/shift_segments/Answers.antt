use Rattle.xet_aggregate.specs.Aggregate.{shifted_segment}
use Rattle.xet_aggregate.proofs.InPlace.{changed_more}
use Rattle.xet_aggregate.proofs.segments.shift_segments.Goals as goal

pub loop-segment-preserved : goal.loop-segment-preserved
loop-segment-preserved c =
    changed_more (shifted_segment c.args.count) c.args.segments.now c.loop-segment.segments c.loop-segment.segment-index c.segment-item.result c.shift_segment.new.segment c.loop-segment-test.true c.loop-segment.invariant c.shift_segment.ensures
