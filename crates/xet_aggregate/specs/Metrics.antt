-- The counts of deduplication.
use Rattle.std.specs.Prelude.{◌+◌, ◌^◌, ◌<◌}
use Rattle.xet_aggregate.specs.declared.metrics.DeduplicationMetrics.{DeduplicationMetrics}

-- all counts are 0
abbrev pub zeros : DeduplicationMetrics
zeros = record {
  total_bytes = 0;
  deduped_bytes = 0;
  new_bytes = 0;
  deduped_bytes_by_global_dedup = 0;
  defrag_prevented_dedup_bytes = 0;
  total_chunks = 0;
  deduped_chunks = 0;
  new_chunks = 0;
  deduped_chunks_by_global_dedup = 0;
  defrag_prevented_dedup_chunks = 0;
  xorb_bytes_uploaded = 0;
  shard_bytes_uploaded = 0;
  total_bytes_uploaded = 0;
}

-- each count is the sum of the two
abbrev pub added : DeduplicationMetrics → DeduplicationMetrics → DeduplicationMetrics
added a b = record {
  total_bytes = a.total_bytes + b.total_bytes;
  deduped_bytes = a.deduped_bytes + b.deduped_bytes;
  new_bytes = a.new_bytes + b.new_bytes;
  deduped_bytes_by_global_dedup = a.deduped_bytes_by_global_dedup + b.deduped_bytes_by_global_dedup;
  defrag_prevented_dedup_bytes = a.defrag_prevented_dedup_bytes + b.defrag_prevented_dedup_bytes;
  total_chunks = a.total_chunks + b.total_chunks;
  deduped_chunks = a.deduped_chunks + b.deduped_chunks;
  new_chunks = a.new_chunks + b.new_chunks;
  deduped_chunks_by_global_dedup = a.deduped_chunks_by_global_dedup + b.deduped_chunks_by_global_dedup;
  defrag_prevented_dedup_chunks = a.defrag_prevented_dedup_chunks + b.defrag_prevented_dedup_chunks;
  xorb_bytes_uploaded = a.xorb_bytes_uploaded + b.xorb_bytes_uploaded;
  shard_bytes_uploaded = a.shard_bytes_uploaded + b.shard_bytes_uploaded;
  total_bytes_uploaded = a.total_bytes_uploaded + b.total_bytes_uploaded;
}

-- Each count is below 2^64.
pub record AreCounts (m : DeduplicationMetrics) : Type 0 where
  pub total_bytes : m.total_bytes < 2 ^ 64
  pub deduped_bytes : m.deduped_bytes < 2 ^ 64
  pub new_bytes : m.new_bytes < 2 ^ 64
  pub deduped_bytes_by_global_dedup : m.deduped_bytes_by_global_dedup < 2 ^ 64
  pub defrag_prevented_dedup_bytes : m.defrag_prevented_dedup_bytes < 2 ^ 64
  pub total_chunks : m.total_chunks < 2 ^ 64
  pub deduped_chunks : m.deduped_chunks < 2 ^ 64
  pub new_chunks : m.new_chunks < 2 ^ 64
  pub deduped_chunks_by_global_dedup : m.deduped_chunks_by_global_dedup < 2 ^ 64
  pub defrag_prevented_dedup_chunks : m.defrag_prevented_dedup_chunks < 2 ^ 64
  pub xorb_bytes_uploaded : m.xorb_bytes_uploaded < 2 ^ 64
  pub shard_bytes_uploaded : m.shard_bytes_uploaded < 2 ^ 64
  pub total_bytes_uploaded : m.total_bytes_uploaded < 2 ^ 64
