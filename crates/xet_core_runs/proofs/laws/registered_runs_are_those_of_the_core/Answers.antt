use Rattle.xet_core_runs.proofs.Runs.{found_is}
use Rattle.xet_core_runs.proofs.laws.registered_runs_are_those_of_the_core.Goals as goal

pub returns : goal.returns
returns c = λ files core shards query are. found_is files core shards are query
