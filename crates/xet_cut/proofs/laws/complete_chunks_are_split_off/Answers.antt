use Rattle.xet_cut.specs.theorems.Complete.{split_complete}
use Rattle.xet_cut.proofs.laws.complete_chunks_are_split_off.Goals as goal

pub returns : goal.returns
returns c = λ s bs chunks left some order is. split_complete s chunks bs left some order is.joined is.none
