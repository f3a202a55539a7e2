use Rattle.xet_xorb.specs.theorems.Determined.{bytes_determine}
use Rattle.xet_xorb.proofs.laws.bytes_determine_chunks.Goals as goal

pub returns : goal.returns
returns c = bytes_determine
