-- The records of files, as shards store them.
use Rattle.std.specs.Prelude.{◌≡◌, ℕ, true, List, [], ◌∷◌, length, map, take, drop, Option, is_some}
use Rattle.std.specs.Option.{option_map}
use Rattle.xet_hash.specs.Merkle.{file_hash, range_hash}
use Rattle.xet_shard_format.specs.declared.record.FileDataSequenceEntry.{FileDataSequenceEntry as Segment}
use Rattle.xet_shard_format.specs.declared.record.FileVerificationEntry.{FileVerificationEntry}
use Rattle.xet_shard_format.specs.declared.record.MDBFileInfo.{MDBFileInfo}
use Rattle.xet_shard_format.specs.Records.{flags_of}
pub use Rattle.xet_dedup_queries.specs.Interface.{run_len}
pub use Rattle.xet_xorb.specs.Raw.{entries_from, xorb_record}

-- the range hash of each segment, if the plan resolves to these chunks
abbrev pub range_hashes : List Segment → List (List ℕ × ℕ) → List FileVerificationEntry
range_hashes [] leaves = []
range_hashes (s ∷ ss) leaves =
    record { range_hash = range_hash (map (λ m. m.0) (take (run_len s) leaves)) } ∷ range_hashes ss (drop (run_len s) leaves)

-- the record of the file with this chunk list, this plan and this SHA-256, if any
abbrev pub file_record : List (List ℕ × ℕ) → List Segment → Option (List ℕ) → MDBFileInfo
file_record leaves plan sha256 = record {
  metadata = record { file_hash = file_hash leaves; file_flags = flags_of true (is_some sha256); num_entries = length plan };
  segments = plan;
  verification = range_hashes plan leaves;
  metadata_ext = option_map (λ digest. record { sha256 = digest }) sha256;
}

-- f is the record of a file with this chunk list.
pub record IsRecordOf (leaves : List (List ℕ × ℕ)) (f : MDBFileInfo) : Type 0 where
  pub sha256 : Option (List ℕ)
  pub is : f ≡ file_record leaves f.segments sha256
