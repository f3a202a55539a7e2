use Rattle.xet_cut.specs.theorems.Parts.{block_chunks}
use Rattle.xet_cut.proofs.laws.blocks_have_chunks.Goals as goal

pub returns : goal.returns
returns c = λ s bs last chunks buffered some order is. block_chunks s bs last chunks buffered some order is
