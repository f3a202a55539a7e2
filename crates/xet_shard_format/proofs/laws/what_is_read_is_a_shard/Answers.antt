use Rattle.xet_shard_format.specs.theorems.WholeTaken.{all_takes}
use Rattle.xet_shard_format.specs.theorems.Bytes.{all_are_bytes}
use Rattle.xet_shard_format.proofs.laws.what_is_read_is_a_shard.Goals as goal

pub returns : goal.returns
returns c = λ bytes p bytes_are. all_takes bytes p (all_are_bytes bytes bytes_are)
