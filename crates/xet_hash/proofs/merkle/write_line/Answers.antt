use Rattle.std.proofs.Common.{rules}
use Rattle.xet_hash.specs.Merkle.{line}
use Rattle.xet_hash.proofs.merkle.write_line.Goals as goal

pub returns-clause-line : goal.returns-clause-line
unfolding line
returns-clause-line c = search rules
