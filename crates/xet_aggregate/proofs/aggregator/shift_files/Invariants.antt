use Rattle.std.proofs.Common.{◌≡◌}
use Rattle.xet_aggregate.specs.Aggregate.{shifted_file}
use Rattle.xet_aggregate.proofs.InPlace.{changed}
use Rattle.xet_aggregate.proofs.aggregator.shift_files.Given as goal

abbrev pub invariant-loop-file : goal.invariant-loop-file
invariant-loop-file l = l.files ≡ changed (shifted_file l.count) l.file-index l.fn.files
