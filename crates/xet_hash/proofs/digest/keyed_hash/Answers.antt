use Rattle.std.proofs.Common.{◌∙◌, refl}
use Rattle.xet_hash.specs.Blake3.{keyed_digest}
use Rattle.xet_hash.proofs.digest.keyed_hash.Goals as goal

pub returns : goal.returns
unfolding keyed_digest
returns c = c.digest_in_mode.ensures ∙ rw c.key_words.ensures refl
