use Rattle.std.proofs.Common.{◌≡◌, map, take}
use Rattle.xet_xorb_chunk.specs.Chunks.{chunk_leaf}
use Rattle.xet_xorb_chunk.proofs.chunk.chunk_leaves.Given as goal

abbrev pub invariant-loop-chunk : goal.invariant-loop-chunk
invariant-loop-chunk l = l.leaves.items ≡ map chunk_leaf (take l.chunk-index l.chunks)
