use Rattle.std.proofs.Common.{◌≡◌}
use Rattle.xet_aggregate.specs.Aggregate.{shifted_segment}
use Rattle.xet_aggregate.proofs.InPlace.{changed}
use Rattle.xet_aggregate.proofs.segments.shift_segments.Given as goal

abbrev pub invariant-loop-segment : goal.invariant-loop-segment
invariant-loop-segment l = l.segments ≡ changed (shifted_segment l.count) l.segment-index l.fn.segments
