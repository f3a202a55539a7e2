use Rattle.xet_xorb_chunk.specs.theorems.Readback.{header_is_no_ident}
use Rattle.xet_xorb_chunk.proofs.laws.no_header_is_a_footer.Goals as goal

pub returns : goal.returns
returns c = λ max_chunk bytes h e ident. header_is_no_ident max_chunk bytes h e ident
