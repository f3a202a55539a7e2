use Rattle.std.proofs.Common.{length}
use Rattle.xet_dedup_tests.proofs.finding.+have_same_lengths.Given as goal

abbrev pub decreases-have_same_lengths : goal.decreases-have_same_lengths
decreases-have_same_lengths l = length l.first.now
