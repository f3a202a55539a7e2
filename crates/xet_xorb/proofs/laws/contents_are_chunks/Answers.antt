use Rattle.xet_xorb.proofs.Plain.{contents_are_read}
use Rattle.xet_xorb.proofs.laws.contents_are_chunks.Goals as goal

pub returns : goal.returns
returns c = contents_are_read
