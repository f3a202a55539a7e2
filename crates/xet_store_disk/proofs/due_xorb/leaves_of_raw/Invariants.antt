use Rattle.std.proofs.Common.{◌≡◌, map, take}
use Rattle.xet_store_disk.proofs.due_xorb.leaves_of_raw.Given as goal

abbrev pub invariant-loop-chunk : goal.invariant-loop-chunk
invariant-loop-chunk l = l.leaves.items ≡ map (λ c. (c.chunk_hash, c.unpacked_segment_bytes)) (take l.chunk-index l.chunks)
