-- The form of a run.
use Rattle.std.specs.Prelude.{◌≡◌, ◌≤◌, ◌+◌, ℕ, List, length}
use Rattle.xet_shard_format.specs.declared.record.FileDataSequenceEntry.{FileDataSequenceEntry}

-- A run for a query: of one to all of its hashes, with a segment of as many chunks that has no flags.
pub record IsRunFor (query : List (List ℕ)) (run : ℕ × FileDataSequenceEntry) : Type 0 where
  pub some : 1 ≤ run.0
  pub within : run.0 ≤ length query
  pub chunks : run.1.chunk_index_end ≡ run.1.chunk_index_start + run.0
  pub flags : run.1.xorb_flags ≡ 0
