use Rattle.xet_history.specs.theorems.Finding.{found_none, stated_suffice}
use Rattle.xet_history.proofs.laws.stated_hashes_suffice.Goals as goal

pub returns-clause-same : goal.returns-clause-same
returns-clause-same c = stated_suffice

pub returns-clause-first : goal.returns-clause-first
returns-clause-first c = found_none
