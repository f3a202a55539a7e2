use Rattle.std.proofs.Common.{◌∙◌, sym, ap}
use Rattle.xet_shard_format.specs.Reading.{all_of, shard_parts_of}
use Rattle.xet_shard_format.specs.theorems.WholeAgain.{all_again, same_shard}
use Rattle.xet_shard_format.specs.theorems.RowLaws.{ok_is}
use Rattle.xet_shard_format.proofs.laws.bytes_determine_shard.Goals as goal

pub returns : goal.returns
returns c = λ w v s t s_is s_fits t_is t_fits same. same_shard w v s t (ok_is (shard_parts_of w s) (shard_parts_of v t) (sym (all_again w s s_is s_fits) ∙ ap all_of same ∙ all_again v t t_is t_fits))
