use Rattle.std.proofs.Common.{◌≡◌}
use Rattle.xet_aggregate.specs.Aggregate.{filled_segment}
use Rattle.xet_aggregate.proofs.InPlace.{changed}
use Rattle.xet_aggregate.proofs.segments.fill_segments.Given as goal

abbrev pub invariant-loop-segment : goal.invariant-loop-segment
invariant-loop-segment l = l.segments ≡ changed (filled_segment l.hash) l.segment-index l.fn.segments
