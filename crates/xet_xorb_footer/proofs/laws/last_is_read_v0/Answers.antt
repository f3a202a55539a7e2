use Rattle.xet_xorb_footer.specs.theorems.LastRead.{last_is_read_v0}
use Rattle.xet_xorb_footer.proofs.laws.last_is_read_v0.Goals as goal

pub returns : goal.returns
returns c = last_is_read_v0
