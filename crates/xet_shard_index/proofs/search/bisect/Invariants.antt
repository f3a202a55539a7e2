use Rattle.std.proofs.Common.{◌-◌, length}
use Rattle.xet_shard_index.specs.Runs.{IsBetween}
use Rattle.xet_shard_index.proofs.Searching.{StepsLeft}
use Rattle.xet_shard_index.proofs.search.bisect.Given as goal

abbrev pub invariant-loop-low : goal.invariant-loop-low
invariant-loop-low g l = record {
  bisected : IsBetween l.run l.word l.low l.high;
  steps : StepsLeft (length l.run) l.initial.steps l.steps (l.high - l.low);
}

abbrev pub decreases-loop-low : goal.decreases-loop-low
decreases-loop-low g l = l.high - l.low
