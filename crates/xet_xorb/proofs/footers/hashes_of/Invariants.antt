use Rattle.std.proofs.Common.{◌≡◌, map, take}
use Rattle.xet_xorb.proofs.footers.hashes_of.Given as goal

abbrev pub invariant-loop-leaf : goal.invariant-loop-leaf
invariant-loop-leaf l = l.hashes.items ≡ map (λ m. m.0) (take l.leaf-index l.leaves)
