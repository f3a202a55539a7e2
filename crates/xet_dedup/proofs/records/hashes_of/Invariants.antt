use Rattle.std.proofs.Common.{◌≡◌, map, take}
use Rattle.xet_dedup.proofs.records.hashes_of.Given as goal

abbrev pub invariant-loop-hash : goal.invariant-loop-hash
invariant-loop-hash l = l.hashes.items ≡ map (λ m. m.0) (take l.hash-index l.leaves)
