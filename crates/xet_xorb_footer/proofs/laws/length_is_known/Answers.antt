use Rattle.xet_xorb_footer.specs.theorems.Readback.{length_is_known}
use Rattle.xet_xorb_footer.proofs.laws.length_is_known.Goals as goal

pub returns : goal.returns
returns c = length_is_known
