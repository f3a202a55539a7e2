use Rattle.std.proofs.Common.{drop}
use Rattle.xet_dedup.specs.Deduping.{metrics_of}
use Rattle.xet_dedup.specs.internal.Counting.{IsCounted}
use Rattle.xet_dedup.proofs.metrics.metrics_of.Given as goal

abbrev pub invariant-chunks : goal.invariant-chunks
invariant-chunks l = IsCounted l.metrics (drop l.at l.leaves) (drop l.at l.choices) (metrics_of l.leaves l.choices l.global_chunks l.global_bytes)
