use Rattle.std.proofs.Common.{None}
use Rattle.xet_shard_merge.proofs.Grouped.{groups_have, skipped_offered, taken_or_skipped}
use Rattle.xet_shard_merge.proofs.laws.groups_have_the_records.Goals as goal

pub returns-clause-taken : goal.returns-clause-taken
returns-clause-taken c = λ target offered groups skipped h. taken_or_skipped target None offered groups skipped h

pub returns-clause-records : goal.returns-clause-records
returns-clause-records c = λ target offered groups skipped h. groups_have target offered groups skipped h

pub returns-clause-skipped : goal.returns-clause-skipped
returns-clause-skipped c = λ target offered groups skipped h. skipped_offered target None offered groups skipped h
