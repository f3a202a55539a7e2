use Rattle.std.proofs.Common.{◌≡◌, ◌++◌, ◌+◌, drop}
use Rattle.xet_xorb.specs.Footer.{ends_from}
use Rattle.xet_xorb.specs.theorems.OfLeaves.{total_with}
use Rattle.xet_xorb.proofs.footers.ends_with.Given as goal

abbrev pub invariant-loop-leaf : goal.invariant-loop-leaf
invariant-loop-leaf l =
    (l.ends.items ++ ends_from l.fn.before l.end (drop l.leaf-index l.leaves) ≡ ends_from l.fn.before 0 l.leaves)
    × (l.end + total_with l.fn.before (drop l.leaf-index l.leaves) ≡ total_with l.fn.before l.leaves)
