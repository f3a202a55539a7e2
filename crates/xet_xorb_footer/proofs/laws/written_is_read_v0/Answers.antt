use Rattle.xet_xorb_footer.specs.theorems.ReadbackV0.{written_is_read_v0}
use Rattle.xet_xorb_footer.proofs.laws.written_is_read_v0.Goals as goal

pub returns : goal.returns
returns c = written_is_read_v0
