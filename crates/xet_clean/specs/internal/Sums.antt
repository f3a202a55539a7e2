-- Sums of metrics.
use Rattle.std.specs.Prelude.{◌≡◌, ◌<◌, ◌≤◌, ◌+◌, ◌*◌, ◌^◌, ℕ}
use Rattle.xet_aggregate.specs.declared.metrics.DeduplicationMetrics.{DeduplicationMetrics}

-- Each sum that does not stay at 2^64 - 1 is below 2^64.
pub record HasRoom (a b : DeduplicationMetrics) : Type 0 where
  pub total_bytes : a.total_bytes + b.total_bytes < 2 ^ 64
  pub deduped_bytes : a.deduped_bytes + b.deduped_bytes < 2 ^ 64
  pub new_bytes : a.new_bytes + b.new_bytes < 2 ^ 64
  pub total_chunks : a.total_chunks + b.total_chunks < 2 ^ 64
  pub deduped_chunks : a.deduped_chunks + b.deduped_chunks < 2 ^ 64
  pub new_chunks : a.new_chunks + b.new_chunks < 2 ^ 64
  pub xorb_bytes_uploaded : a.xorb_bytes_uploaded + b.xorb_bytes_uploaded < 2 ^ 64
  pub shard_bytes_uploaded : a.shard_bytes_uploaded + b.shard_bytes_uploaded < 2 ^ 64
  pub total_bytes_uploaded : a.total_bytes_uploaded + b.total_bytes_uploaded < 2 ^ 64

-- Each sum that could pass 2^64 is at most 2^42 for each of so many files.
pub record AreSmall (m : DeduplicationMetrics) (count : ℕ) : Type 0 where
  pub total_bytes : m.total_bytes ≤ 4398046511104 * count
  pub deduped_bytes : m.deduped_bytes ≤ 4398046511104 * count
  pub new_bytes : m.new_bytes ≤ 4398046511104 * count
  pub total_chunks : m.total_chunks ≤ 4398046511104 * count
  pub deduped_chunks : m.deduped_chunks ≤ 4398046511104 * count
  pub new_chunks : m.new_chunks ≤ 4398046511104 * count
  pub xorb_bytes_uploaded : m.xorb_bytes_uploaded ≡ 0
  pub shard_bytes_uploaded : m.shard_bytes_uploaded ≡ 0
  pub total_bytes_uploaded : m.total_bytes_uploaded ≡ 0
