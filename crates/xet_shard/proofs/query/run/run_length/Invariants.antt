use Rattle.std.proofs.Common.{◌≡◌, ◌+◌, ◌-◌, ◌≤◌, drop, length, map, take}
use Rattle.xet_shard.specs.Queries.{kept_hash}
use Rattle.xet_shard_format.specs.Records.{chunk_bytes}
use Rattle.xet_shard.specs.Runs.{agreeing, digests}
use Rattle.xet_shard.proofs.query.run.run_length.Given as goal

abbrev pub invariant-loop-count : goal.invariant-loop-count
invariant-loop-count l = record {
  count : l.count + agreeing (drop l.count (map (kept_hash l.key) l.query)) (digests (drop l.count l.chunks)) ≡ agreeing (map (kept_hash l.key) l.query) (digests l.chunks);
  bytes : l.bytes ≡ chunk_bytes (take l.count l.chunks);
  within : l.count ≤ length l.chunks;
}

abbrev pub decreases-loop-count : goal.decreases-loop-count
decreases-loop-count l = length l.query - l.count
