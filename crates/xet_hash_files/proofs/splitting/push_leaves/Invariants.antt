use Rattle.std.proofs.Common.{◌-◌, length}
use Rattle.xet_hash_files.specs.internal.Splitting.{AreCut}
use Rattle.xet_hash_files.proofs.splitting.push_leaves.Given as goal

abbrev pub invariant-chunks : goal.invariant-chunks
invariant-chunks l = AreCut l.chunker.settings l.bytes l.taken l.fn.leaves.items l.leaves.items

abbrev pub decreases-chunks : goal.decreases-chunks
decreases-chunks l = length l.bytes - l.taken
