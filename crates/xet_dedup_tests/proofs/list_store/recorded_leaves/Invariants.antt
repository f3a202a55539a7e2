use Rattle.std.proofs.Common.{◌≡◌, map, take}
use Rattle.xet_dedup_tests.proofs.list_store.recorded_leaves.Given as goal

abbrev pub invariant-loop-entry : goal.invariant-loop-entry
invariant-loop-entry l = l.leaves.items ≡ map (λ c. (c.chunk_hash, c.unpacked_segment_bytes)) (take l.entry-index l.entries)
