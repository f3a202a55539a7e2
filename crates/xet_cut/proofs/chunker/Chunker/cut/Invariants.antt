use Rattle.std.proofs.Common.{◌-◌, length}
use Rattle.xet_cut.specs.internal.Cutting.{IsCut}
use Rattle.xet_cut.proofs.chunker.Chunker.cut.Given as goal

abbrev pub invariant-chunks : goal.invariant-chunks
invariant-chunks l = IsCut l.self.settings l.self.buffered l.bytes l.taken l.chunks.items

abbrev pub decreases-chunks : goal.decreases-chunks
decreases-chunks l = length l.bytes - l.taken
