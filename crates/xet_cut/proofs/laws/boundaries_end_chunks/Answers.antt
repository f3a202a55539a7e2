use Rattle.xet_cut.specs.theorems.Streams.{chunking_cut, chunking_unended}
use Rattle.xet_cut.proofs.laws.boundaries_end_chunks.Goals as goal

pub returns-clause-first : goal.returns-clause-first
returns-clause-first c = λ s bs rest k some order found. chunking_cut s bs rest k some order found

pub returns-clause-none : goal.returns-clause-none
returns-clause-none c = λ s bs none. chunking_unended s bs none
