use Rattle.std.proofs.Common.{◌≡◌, ◌+◌, ◌++◌, length, map}
use Rattle.xet_xorb_chunk.specs.Chunks.{chunk_of, total}
use Rattle.xet_cut.specs.Chunking.{chunking}
use Rattle.xet_dedup.proofs.packing.chunks_of.Given as goal

abbrev pub invariant-pieces : goal.invariant-pieces
invariant-pieces l = record {
  chunks : l.chunks.items ++ map chunk_of (chunking l.limits l.rest) ≡ map chunk_of (chunking l.limits l.fn.bytes.items);
  total : total l.chunks.items + length l.rest ≡ length l.fn.bytes.items;
}

abbrev pub decreases-pieces : goal.decreases-pieces
decreases-pieces l = length l.rest
