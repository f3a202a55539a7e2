use Rattle.std.proofs.Common.{◌≡◌, map}
use Rattle.xet_aggregate.specs.Aggregate.{finished_file}
use Rattle.xet_aggregate.proofs.aggregator.finished_files.Given as goal

abbrev pub invariant-loop-file : goal.invariant-loop-file
invariant-loop-file l = l.finished.items ≡ map (finished_file l.hash) l.yielded
