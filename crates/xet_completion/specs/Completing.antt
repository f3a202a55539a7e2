-- When a file may be recorded.
use Rattle.std.specs.Prelude.{◌≡◌, ◌≢◌, ◌⊎◌, ◌<◌, ℕ, List, [], length}
use Rattle.xet_hash.specs.Hash.{sentinel}
use Rattle.xet_hash.specs.Merkle.{file_hash}
use Rattle.xet_shard_format.specs.declared.record.MDBFileInfo.{MDBFileInfo}
use Rattle.xet_shard_format.specs.Records.{file_record_hash}
use Rattle.xet_folder.specs.Plan.{Resolves}
use Rattle.xet_folder.specs.Xorbs.{IsListed, Xorbs}
use Rattle.xet_dedup.specs.Records.{range_hashes}

-- A record may be recorded over these xorbs: its plan resolves to chunks of theirs, at least one, which give its file hash
-- and, if it has verification rows, its range hashes. Its hash is not the sentinel.
pub record Completes (xorbs : Xorbs) (f : MDBFileInfo) : Type 0 where
  pub leaves : List (List ℕ × ℕ)
  pub resolves : Resolves (IsListed xorbs) (λ m. m.1) f.segments leaves
  pub some : 0 < length leaves
  pub hash : file_hash leaves ≡ file_record_hash f
  pub ranges : (f.verification ≡ []) ⊎ (f.verification ≡ range_hashes f.segments leaves)
  pub named : file_record_hash f ≢ sentinel
