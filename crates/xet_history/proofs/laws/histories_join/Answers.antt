use Rattle.xet_history.specs.theorems.Joining.{legal_front, moves_both, replays_more}
use Rattle.xet_history.proofs.laws.histories_join.Goals as goal

pub returns-clause-both : goal.returns-clause-both
returns-clause-both c = moves_both

pub returns-clause-more : goal.returns-clause-more
returns-clause-more c = replays_more

pub returns-clause-front : goal.returns-clause-front
returns-clause-front c = legal_front
