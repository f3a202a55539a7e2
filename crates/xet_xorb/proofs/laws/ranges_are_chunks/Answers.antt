use Rattle.xet_xorb.proofs.Plain.{ranges_are}
use Rattle.xet_xorb.proofs.laws.ranges_are_chunks.Goals as goal

pub returns : goal.returns
returns c = ranges_are
