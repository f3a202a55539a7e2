use Rattle.xet_shard_format.specs.Lookups.{all_lookups}
use Rattle.xet_shard.proofs.write.write_shard.Goals as goal

pub returns-clause-shard : goal.returns-clause-shard
returns-clause-shard c = λ blocks files. record {
  shard = record { files = files; blocks = blocks; few_files = c.requires.few_files; few_blocks = c.requires.few_blocks };
  fits = c.in_ok-encoding.ensures.fits;
  lookups = all_lookups;
  encoding = c.in_ok-encoding.ensures.encoding;
}
