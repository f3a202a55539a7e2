use Rattle.std.proofs.Common.{◌≡◌, map, take}
use Rattle.xet_xorb_chunk.specs.Chunks.{bytes_of_chunk}
use Rattle.xet_xorb.proofs.raw.parts_of.Given as goal

abbrev pub invariant-loop-chunk : goal.invariant-loop-chunk
invariant-loop-chunk l = l.parts.items ≡ map bytes_of_chunk (take l.chunk-index l.chunks)
