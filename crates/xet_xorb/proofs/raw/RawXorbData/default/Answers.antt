use Rattle.std.proofs.Common.{rules}
use Rattle.xet_hash.specs.Merkle.{reduced}
use Rattle.xet_xorb.proofs.raw.RawXorbData.default.Goals as goal

pub returns : goal.returns
unfolding reduced
returns c = search rules
