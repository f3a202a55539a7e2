use Rattle.std.proofs.Common.{◌-◌, ◌≤◌, length, map}
use Rattle.xet_shard.specs.Queries.{kept_hash}
use Rattle.xet_shard_format.specs.Rows.{rows_in}
use Rattle.xet_shard.specs.Runs.{agreed}
use Rattle.xet_shard.proofs.Agreeing.{SoFar}
use Rattle.xet_shard.proofs.query.stored_run.agreed_rows.Given as goal

abbrev pub invariant-loop-done : goal.invariant-loop-done
invariant-loop-done l = record {
  so_far : SoFar (map (kept_hash l.key) l.query) l.end (rows_in l.count l.bytes) (agreed (map (kept_hash l.key) l.query) l.end l.from (rows_in l.count l.bytes)) l.done l.to;
  within : l.done ≤ l.count;
  hashes : l.done ≤ length l.query;
  behind : l.from ≤ l.to;
}

abbrev pub decreases-loop-done : goal.decreases-loop-done
decreases-loop-done l = l.count - l.done
