-- What the valid shards of a path list.
use Rattle.std.specs.Prelude.{◌≡◌, ◌↔◌, ℕ, true, List, Some, Ok}
use Rattle.std.specs.List.{IsAmong}
use Rattle.xet_io.specs.Disk.{Files, bytes_at}
use Rattle.xet_shard.specs.Union.{ShardRecords, records_in}
use Rattle.xet_shard_directory.specs.Directories.{IsReadAt, is_valid}
use Rattle.xet_shard_directory.specs.declared.shard_file.MDBShardFile.{MDBShardFile}
use Rattle.xet_shard_format.specs.declared.record.MDBFileInfo.{MDBFileInfo}
use Rattle.xet_shard_format.specs.declared.record.MDBXorbInfo.{MDBXorbInfo}

-- a valid shard of a path, and its records
pub record IsValidShard (files : Files) (path : List ℕ) (now : ℕ) (s : MDBShardFile) (records : ShardRecords) : Type 0 where
  pub read : IsReadAt files path s
  pub valid : is_valid now s ≡ true
  pub bytes : List ℕ
  pub there : bytes_at files s.path ≡ Some bytes
  pub records_are : records_in s.shard.metadata bytes ≡ Ok records

-- a valid shard with this key lists a xorb; the zero hash means no key
pub record ListsXorb (files : Files) (path : List ℕ) (now : ℕ) (key : List ℕ) (x : MDBXorbInfo) : Type 0 where
  pub shard : MDBShardFile
  pub records : ShardRecords
  pub valid : IsValidShard files path now shard records
  pub key_is : shard.shard.metadata.chunk_hash_hmac_key ≡ key
  pub listed : IsAmong records.0 x

-- a valid shard with this key lists a file
pub record ListsFile (files : Files) (path : List ℕ) (now : ℕ) (key : List ℕ) (f : MDBFileInfo) : Type 0 where
  pub shard : MDBShardFile
  pub records : ShardRecords
  pub valid : IsValidShard files path now shard records
  pub key_is : shard.shard.metadata.chunk_hash_hmac_key ≡ key
  pub listed : IsAmong records.1 f

-- Before and after, the valid shards of a path list exactly the same xorbs and files, under the same keys.
pub record ListSame (old new : Files) (path : List ℕ) (now : ℕ) : Type 0 where
  pub xorbs : (key : List ℕ) (x : MDBXorbInfo) → ListsXorb old path now key x ↔ ListsXorb new path now key x
  pub files : (key : List ℕ) (f : MDBFileInfo) → ListsFile old path now key f ↔ ListsFile new path now key f

-- What the valid shards of a path listed before, they list after too, under the same keys.
pub record ListsMore (old new : Files) (path : List ℕ) (time : ℕ) : Type 0 where
  pub xorbs : (key : List ℕ) (x : MDBXorbInfo) → ListsXorb old path time key x → ListsXorb new path time key x
  pub files : (key : List ℕ) (f : MDBFileInfo) → ListsFile old path time key f → ListsFile new path time key f
