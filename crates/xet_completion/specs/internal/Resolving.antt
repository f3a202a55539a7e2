-- What plans and records say of chunks, for private functions.
use Rattle.std.specs.Prelude.{◌≡◌, ◌⊎◌, ◌<◌, ℕ, List, [], length}
use Rattle.xet_hash.specs.Merkle.{file_hash}
use Rattle.xet_shard_format.specs.declared.record.FileDataSequenceEntry.{FileDataSequenceEntry as Segment}
use Rattle.xet_shard_format.specs.declared.record.MDBFileInfo.{MDBFileInfo}
use Rattle.xet_shard_format.specs.Records.{file_record_hash}
use Rattle.xet_folder.specs.Plan.{LiesIn, part}
use Rattle.xet_folder.specs.Xorbs.{IsListed, Xorbs}
use Rattle.xet_dedup.specs.Records.{range_hashes}

-- The segment lies in its xorb, which is listed, and names this run of the xorb's chunks.
pub record NamesRun (xorbs : Xorbs) (s : Segment) (run : List (List ℕ × ℕ)) : Type 0 where
  pub leaves : List (List ℕ × ℕ)
  pub listed : IsListed xorbs s.xorb_hash leaves
  pub lies : LiesIn (λ m. m.1) s leaves
  pub is : run ≡ part s leaves

-- The chunks are at least one, and give the record's file hash and, if it has verification rows, its range hashes.
pub record GivesHashes (f : MDBFileInfo) (leaves : List (List ℕ × ℕ)) : Type 0 where
  pub some : 0 < length leaves
  pub hash : file_hash leaves ≡ file_record_hash f
  pub ranges : (f.verification ≡ []) ⊎ (f.verification ≡ range_hashes f.segments leaves)
