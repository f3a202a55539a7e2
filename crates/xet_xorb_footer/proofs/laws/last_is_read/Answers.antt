use Rattle.xet_xorb_footer.specs.theorems.LastRead.{last_is_read}
use Rattle.xet_xorb_footer.proofs.laws.last_is_read.Goals as goal

pub returns : goal.returns
returns c = last_is_read
