use Rattle.xet_shard_format.specs.theorems.WholeAgain.{all_again}
use Rattle.xet_shard_format.proofs.laws.written_is_read.Goals as goal

pub returns : goal.returns
returns c = all_again
