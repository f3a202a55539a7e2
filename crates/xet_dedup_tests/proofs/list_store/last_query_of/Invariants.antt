use Rattle.std.proofs.Common.{◌≤◌, drop, length}
use Rattle.std.specs.List.{AllByRecursion}
use Rattle.xet_dedup_tests.proofs.Logs.{IsOther}
use Rattle.xet_dedup_tests.proofs.list_store.last_query_of.Given as goal

abbrev pub invariant-loop-at : goal.invariant-loop-at
invariant-loop-at l = record {
  within : l.at ≤ length l.log;
  others : AllByRecursion IsOther (drop l.at l.log);
}

abbrev pub decreases-loop-at : goal.decreases-loop-at
decreases-loop-at l = l.at
