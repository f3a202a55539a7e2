use Rattle.xet_xorb.proofs.Validated.{last_footer_is_read}
use Rattle.xet_xorb.proofs.laws.last_footer_is_read.Goals as goal

pub returns : goal.returns
returns c = last_footer_is_read
