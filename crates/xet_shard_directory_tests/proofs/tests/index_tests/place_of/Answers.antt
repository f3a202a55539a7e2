use Rattle.std.proofs.Common.{arith}
use Rattle.xet_shard_directory_tests.proofs.tests.index_tests.place_of.Goals as goal

pub returns : goal.returns
returns g c = let steps = c.find.ensures.steps 2 c.requires.few in omega (arith, steps)
