use Rattle.xet_history.specs.theorems.Staying.{listed_after_all, records_after_all, shards_after_all}
use Rattle.xet_history.proofs.laws.nothing_is_taken_away.Goals as goal

pub returns-clause-xorbs : goal.returns-clause-xorbs
returns-clause-xorbs c = listed_after_all

pub returns-clause-records : goal.returns-clause-records
returns-clause-records c = records_after_all

pub returns-clause-shards : goal.returns-clause-shards
returns-clause-shards c = shards_after_all
