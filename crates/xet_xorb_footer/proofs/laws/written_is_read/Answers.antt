use Rattle.xet_xorb_footer.specs.theorems.Readback.{written_is_read}
use Rattle.xet_xorb_footer.proofs.laws.written_is_read.Goals as goal

pub returns : goal.returns
returns c = written_is_read
