use Rattle.std.proofs.Common.{◌≡◌, ◌≤◌, ◌<◌, ◌+◌, ◌-◌, ◌*◌, true, false, drop, length}
use Rattle.xet_shard.specs.Bisection.{passes}
use Rattle.xet_shard.proofs.query.bisection.bisect.Given as goal
use Rattle.xet_io.specs.Lent.{IsSameLent}

abbrev pub invariant-halves : goal.invariant-halves
invariant-halves g l = record {
  order : l.low ≤ l.high;
  bound : l.high ≤ l.count;
  before : g.R.ReadAt.tells l.fn.reader ≡ true → l.at + l.size * l.count ≤ length (g.R.ReadAt.bytes l.fn.reader) → 0 < l.low → passes l.probe (drop (l.at + l.size * (l.low - 1)) (g.R.ReadAt.bytes l.fn.reader)) ≡ true;
  after : g.R.ReadAt.tells l.fn.reader ≡ true → l.at + l.size * l.count ≤ length (g.R.ReadAt.bytes l.fn.reader) → l.high < l.count → passes l.probe (drop (l.at + l.size * l.high) (g.R.ReadAt.bytes l.fn.reader)) ≡ false;
  same : g.R.ReadAt.bytes l.reader ≡ g.R.ReadAt.bytes l.fn.reader;
  tells : g.R.ReadAt.tells l.reader ≡ g.R.ReadAt.tells l.fn.reader;
  later : g.R.ReadAt.faults l.fn.reader ≤ g.R.ReadAt.faults l.reader;
  lent : IsSameLent (g.R.ReadAt.lent l.fn.reader) (g.R.ReadAt.lent l.reader);
}

abbrev pub decreases-halves : goal.decreases-halves
decreases-halves g l = l.high - l.low
