use Rattle.std.proofs.Common.{drop}
use Rattle.std.specs.List.{AllByRecursion}
use Rattle.xet_dedup.specs.Deduping.{IsChunk}
use Rattle.xet_dedup_tests.proofs.tests.filing.are_chunks.Given as goal

abbrev pub invariant-loop-chunk : goal.invariant-loop-chunk
invariant-loop-chunk l = AllByRecursion (IsChunk l.limits) (drop l.chunk-index l.chunks) → AllByRecursion (IsChunk l.limits) l.chunks
