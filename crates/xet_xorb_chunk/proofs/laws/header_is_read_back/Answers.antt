use Rattle.xet_xorb_chunk.specs.theorems.Readback.{header_read_back}
use Rattle.xet_xorb_chunk.proofs.laws.header_is_read_back.Goals as goal

pub returns : goal.returns
returns c = λ max_chunk h small known version stored plain. header_read_back max_chunk h small known version stored plain
