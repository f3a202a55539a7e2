use Rattle.std.proofs.Common.{length}
use Rattle.xet_bench.proofs.digests.after_last_boundary.Given as goal

abbrev pub decreases-chunks : goal.decreases-chunks
decreases-chunks l = length l.rest
