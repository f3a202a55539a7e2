use Rattle.std.proofs.Common.{◌≡◌}
use Rattle.xet_file_plan.specs.Moves.{filled}
use Rattle.xet_file_plan.proofs.Changing.{changed}
use Rattle.xet_file_plan.proofs.segments.fill.Given as goal

abbrev pub invariant-loop-segment : goal.invariant-loop-segment
invariant-loop-segment l = l.segments ≡ changed (filled l.hash) l.segment-index l.fn.segments
