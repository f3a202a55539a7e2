use Rattle.std.proofs.Common.{◌≤◌, length}
use Rattle.xet_store.proofs.Last.{NoneFrom}
use Rattle.xet_store.proofs.alone.last_query_of.Given as goal

abbrev pub invariant-loop-at : goal.invariant-loop-at
invariant-loop-at l = record {
  within : l.at ≤ length l.history;
  none : NoneFrom l.history l.at;
}

abbrev pub decreases-loop-at : goal.decreases-loop-at
decreases-loop-at l = l.at
