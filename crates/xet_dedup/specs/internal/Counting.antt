-- How the metrics of a file's choices are counted, chunk by chunk.
use Rattle.std.specs.Prelude.{◌≡◌, ◌<◌, ◌≤◌, ◌+◌, ◌-◌, ◌^◌, ℕ, List, length, min, if◌then◌else◌}
use Rattle.xet_aggregate.specs.declared.metrics.DeduplicationMetrics.{DeduplicationMetrics}
use Rattle.xet_choices.specs.declared.choice.Choice.{Choice}
use Rattle.xet_choices.specs.Choices.{is_reused, new_chunks}
use Rattle.xet_choices.specs.Sums.{deduped_bytes, deduped_chunks, new_bytes, prevented_bytes, prevented_chunks, run_of}
use Rattle.xet_hash.specs.Merkle.{total_len}

-- the metrics with one more chunk of so many bytes, for which this is the choice; the run that was rejected there has
-- `run_bytes`
abbrev pub counted : DeduplicationMetrics → ℕ → Choice → ℕ → DeduplicationMetrics
counted m bytes choice run_bytes = record m {
  total_bytes = m.total_bytes + bytes;
  deduped_bytes = m.deduped_bytes + (if is_reused choice then bytes else 0);
  new_bytes = m.new_bytes + (if is_reused choice then 0 else bytes);
  defrag_prevented_dedup_bytes = min (m.defrag_prevented_dedup_bytes + run_bytes) (2 ^ 64 - 1);
  total_chunks = m.total_chunks + 1;
  deduped_chunks = m.deduped_chunks + (if is_reused choice then 1 else 0);
  new_chunks = m.new_chunks + (if is_reused choice then 0 else 1);
  defrag_prevented_dedup_chunks = min (m.defrag_prevented_dedup_chunks + run_of choice) (2 ^ 64 - 1);
}

-- There is room for one more chunk of so many bytes.
pub record HasRoom (m : DeduplicationMetrics) (len : ℕ) : Type 0 where
  pub total_bytes : m.total_bytes + len < 2 ^ 64
  pub bytes : m.deduped_bytes + m.new_bytes ≡ m.total_bytes
  pub total_chunks : m.total_chunks + 1 < 2 ^ 64
  pub chunks : m.deduped_chunks + m.new_chunks ≡ m.total_chunks

-- These metrics and those of the chunks that follow are the metrics of all chunks.
pub record IsCounted (m : DeduplicationMetrics) (leaves : List (List ℕ × ℕ)) (choices : List Choice) (all : DeduplicationMetrics) : Type 0 where
  pub total_bytes : m.total_bytes + total_len leaves ≡ all.total_bytes
  pub deduped_bytes : m.deduped_bytes + deduped_bytes leaves choices ≡ all.deduped_bytes
  pub new_bytes : m.new_bytes + new_bytes leaves choices ≡ all.new_bytes
  pub bytes : m.deduped_bytes + m.new_bytes ≡ m.total_bytes
  pub prevented_bytes : min (m.defrag_prevented_dedup_bytes + prevented_bytes leaves choices) (2 ^ 64 - 1) ≡ all.defrag_prevented_dedup_bytes
  pub capped_bytes : m.defrag_prevented_dedup_bytes ≤ 2 ^ 64 - 1
  pub total_chunks : m.total_chunks + length leaves ≡ all.total_chunks
  pub deduped_chunks : m.deduped_chunks + deduped_chunks choices ≡ all.deduped_chunks
  pub new_chunks : m.new_chunks + new_chunks choices ≡ all.new_chunks
  pub chunks : m.deduped_chunks + m.new_chunks ≡ m.total_chunks
  pub prevented_chunks : min (m.defrag_prevented_dedup_chunks + prevented_chunks choices) (2 ^ 64 - 1) ≡ all.defrag_prevented_dedup_chunks
  pub capped_chunks : m.defrag_prevented_dedup_chunks ≤ 2 ^ 64 - 1
  pub global_bytes : m.deduped_bytes_by_global_dedup ≡ all.deduped_bytes_by_global_dedup
  pub global_chunks : m.deduped_chunks_by_global_dedup ≡ all.deduped_chunks_by_global_dedup
  pub xorb_bytes_uploaded : m.xorb_bytes_uploaded ≡ all.xorb_bytes_uploaded
  pub shard_bytes_uploaded : m.shard_bytes_uploaded ≡ all.shard_bytes_uploaded
  pub total_bytes_uploaded : m.total_bytes_uploaded ≡ all.total_bytes_uploaded
