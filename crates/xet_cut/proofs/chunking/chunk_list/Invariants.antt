use Rattle.std.proofs.Common.{◌≡◌, ◌+◌, ◌++◌, length}
use Rattle.xet_hash.specs.Merkle.{leaves_of, total_len}
use Rattle.xet_cut.specs.Chunking.{chunking}
use Rattle.xet_cut.proofs.chunking.chunk_list.Given as goal

abbrev pub invariant-pieces : goal.invariant-pieces
invariant-pieces l = record {
  leaves : l.leaves.items ++ leaves_of (chunking l.limits l.rest) ≡ leaves_of (chunking l.limits l.bytes);
  total : total_len l.leaves.items + length l.rest ≡ length l.bytes;
}

abbrev pub decreases-pieces : goal.decreases-pieces
decreases-pieces l = length l.rest
