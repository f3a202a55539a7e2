use Rattle.std.proofs.Common.{◌≡◌, ◌++◌, length, map}
use Rattle.xet_cut.specs.Chunking.{chunking}
use Rattle.xet_cut.proofs.chunking.chunk_lengths.Given as goal

abbrev pub invariant-pieces : goal.invariant-pieces
invariant-pieces l = l.lengths.items ++ map length (chunking l.limits l.rest) ≡ map length (chunking l.limits l.bytes)

abbrev pub decreases-pieces : goal.decreases-pieces
decreases-pieces l = length l.rest
