use Rattle.xet_xorb_footer.specs.theorems.ReadbackV0.{length_is_known_v0}
use Rattle.xet_xorb_footer.proofs.laws.length_is_known_v0.Goals as goal

pub returns : goal.returns
returns c = length_is_known_v0
