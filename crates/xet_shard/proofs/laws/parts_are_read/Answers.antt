use Rattle.xet_shard.proofs.PartsAgain.{blocks_again, chunks_again, files_again, info_again, xorbs_again}
use Rattle.xet_shard.proofs.laws.parts_are_read.Goals as goal

pub returns-clause-info : goal.returns-clause-info
returns-clause-info c = info_again

pub returns-clause-files : goal.returns-clause-files
returns-clause-files c = files_again

pub returns-clause-blocks : goal.returns-clause-blocks
returns-clause-blocks c = blocks_again

pub returns-clause-xorb_lookup : goal.returns-clause-xorb_lookup
returns-clause-xorb_lookup c = xorbs_again

pub returns-clause-chunk_lookup : goal.returns-clause-chunk_lookup
returns-clause-chunk_lookup c = chunks_again
