use Rattle.std.proofs.Common.{◌≡◌, ◌+◌, ◌*◌, ◌-◌, ◌≤◌, drop, length, map, true}
use Rattle.xet_shard.specs.Queries.{kept_hash}
use Rattle.xet_shard_format.specs.Rows.{rows_in}
use Rattle.xet_shard.specs.Runs.{agreed}
use Rattle.xet_shard.proofs.Agreeing.{SoFar}
use Rattle.xet_shard.proofs.query.stored_run.agreed.Given as goal
use Rattle.xet_io.specs.Lent.{IsSameLent}

abbrev pub invariant-loop-done : goal.invariant-loop-done
invariant-loop-done g l = record {
  same : g.R.ReadAt.bytes l.reader ≡ g.R.ReadAt.bytes l.fn.reader;
  tells : g.R.ReadAt.tells l.reader ≡ g.R.ReadAt.tells l.fn.reader;
  later : g.R.ReadAt.faults l.fn.reader ≤ g.R.ReadAt.faults l.reader;
  lent : IsSameLent (g.R.ReadAt.lent l.fn.reader) (g.R.ReadAt.lent l.reader);
  so_far : g.R.ReadAt.tells l.fn.reader ≡ true → l.at + 48 * l.count ≤ length (g.R.ReadAt.bytes l.fn.reader)
      → SoFar (map (kept_hash l.key) l.query) l.end (rows_in l.count (drop l.at (g.R.ReadAt.bytes l.fn.reader))) (agreed (map (kept_hash l.key) l.query) l.end l.from (rows_in l.count (drop l.at (g.R.ReadAt.bytes l.fn.reader)))) l.done l.to;
  within : l.done ≤ l.count;
  hashes : l.done ≤ length l.query;
  behind : l.from ≤ l.to;
}

abbrev pub decreases-loop-done : goal.decreases-loop-done
decreases-loop-done g l = l.count - l.done
