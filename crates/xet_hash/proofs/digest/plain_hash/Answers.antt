use Rattle.xet_hash.specs.Blake3.{plain_digest}
use Rattle.xet_hash.proofs.digest.plain_hash.Goals as goal

pub returns : goal.returns
unfolding plain_digest
returns c = c.digest_in_mode.ensures
