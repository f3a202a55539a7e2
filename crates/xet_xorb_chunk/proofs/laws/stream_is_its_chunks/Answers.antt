use Rattle.xet_xorb_chunk.specs.theorems.Readback.{encoded_of_stream, stream_of_encoded}
use Rattle.xet_xorb_chunk.proofs.laws.stream_is_its_chunks.Goals as goal

pub returns : goal.returns
returns c = λ max_chunk bytes chunks small each. (λ is. encoded_of_stream max_chunk bytes chunks each is, λ are. stream_of_encoded max_chunk bytes chunks small are)
