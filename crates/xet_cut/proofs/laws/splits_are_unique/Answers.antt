use Rattle.xet_cut.proofs.Steps.{split_unique}
use Rattle.xet_cut.proofs.laws.splits_are_unique.Goals as goal

pub returns : goal.returns
returns c = λ s bs chunks more left rest some order one other. split_unique s bs chunks more left rest some order one other
