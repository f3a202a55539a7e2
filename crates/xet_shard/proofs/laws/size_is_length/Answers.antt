use Rattle.xet_shard.proofs.Lengths.{held_length}
use Rattle.xet_shard.proofs.laws.size_is_length.Goals as goal

pub returns : goal.returns
returns c = held_length
