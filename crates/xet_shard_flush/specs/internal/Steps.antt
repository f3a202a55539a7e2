-- The steps of an import: what is read of the bytes, the check of the path, the room in the registry, and the write.
use Rattle.std.specs.Prelude.{◌≡◌, ◌≢◌, ◌⊎◌, ◌<◌, ◌^◌, ◌-◌, ℕ, nat_eq, nat_le, Bool, true, false, List, length, All, None, Some, Result, Ok, Err, if◌then◌else◌}
use Rattle.std.specs.Cmp.Lexicographic.{pointwise}
use Rattle.std.specs.List.{list_any}
use Rattle.xet_codec.specs.Parsing.{◌>>=◌}
use Rattle.xet_hash.specs.Merkle.{chunk_hash}
use Rattle.xet_hash.specs.declared.error.StoreError.{StoreError}
use Rattle.xet_hash.specs.declared.error.StoreError.TheVariants.{OutOfMemory, TooLarge}
use Rattle.xet_hash.specs.declared.error.What.TheVariants.{Shards}
use Rattle.xet_io.specs.Disk.{Files, bytes_at}
use Rattle.xet_shard.specs.Sections.{chunk_lookup_in, info_at}
use Rattle.xet_shard.specs.declared.info.MDBShardInfo.{MDBShardInfo}
use Rattle.xet_shard.specs.Union.{ShardRecords}
use Rattle.xet_shard_directory.specs.Writing.{AddsShard, IsFormatError, path_of}
use Rattle.xet_shard_directory.specs.declared.shard_file.MDBShardFile.{MDBShardFile}
use Rattle.xet_shard_file.specs.Names.{temp_name}
use Rattle.xet_shard_flush.specs.declared.file.NewFile.{NewFile}
use Rattle.xet_shard_flush.specs.declared.paths.Way.{Way}
use Rattle.xet_shard_flush.specs.declared.paths.Way.TheVariants.{Keep, Refuse, Write}
use Rattle.xet_shard_format.specs.declared.header_footer.MDBShardFileFooter.{MDBShardFileFooter}
use Rattle.xet_shard_registry.specs.Collections.{IsRegistryOf, Tables}
use Rattle.xet_shard_registry.specs.Registered.{Registered, with_shard}

-- ---- what is read of the bytes

-- the chunk lookup table of a shard that is to be registered after the others, unless there are too many
abbrev pub new_lookup : MDBShardFileFooter → List ℕ → Tables → Result (List (ℕ × ℕ × ℕ)) StoreError
new_lookup f bytes t = if nat_le (2 ^ 32 - 1) (length t.files) then Err (TooLarge Shards) else chunk_lookup_in f bytes

-- the check of such a shard
abbrev pub new_check : MDBShardFileFooter → List ℕ → Tables → Result (Unit {0}) StoreError
new_check f bytes t = new_lookup f bytes t >>= λ _. Ok tt

-- the errors of reading a part
abbrev pub IsPartError : StoreError → Type 0
IsPartError OutOfMemory = Unit {0}
IsPartError e = IsFormatError e

-- the errors of `new_lookup`
abbrev pub IsNewError : StoreError → Type 0
IsNewError (TooLarge Shards) = Unit {0}
IsNewError e = IsPartError e

-- ---- the path

-- no shard has this path
abbrev pub IsUnused : List ℕ → List MDBShardFile → Type 0
IsUnused path ss = All (λ s. s.path ≢ path) ss

-- the shards of this path have this header and footer
abbrev pub AreExpected : List ℕ → MDBShardInfo → List MDBShardFile → Type 0
AreExpected path info ss = All (λ s. s.path ≡ path → s.shard ≡ info) ss

-- The bytes are there; or they may be written: nothing is there, and the registered shards of this path have their header
-- and footer; or other bytes are there, and no registered shard has this path.
abbrev pub IsWay : Files → List ℕ → MDBShardInfo → List MDBShardFile → List ℕ → Way → Type 0
IsWay files path info ss bytes Keep = bytes_at files path ≡ Some bytes
IsWay files path info ss bytes Write = ((bytes_at files path ≡ None) × AreExpected path info ss) ⊎ (IsUnused path ss × (bytes_at files path ≢ Some bytes))
IsWay files path info ss bytes Refuse = Unit {0}

-- the header and the footer of a file are those of these bytes, and so are its hash and its names
pub record IsFileOf (bytes : List ℕ) (f : NewFile) : Type 0 where
  pub hash : f.hash ≡ chunk_hash bytes
  pub info : info_at bytes ≡ Ok f.info
  pub name : f.name ≡ f.path
  pub temp : f.temp ≡ temp_name f.path

-- ---- the registry

-- One more shard can be registered, with this hash.
pub record HasRoom (hash : List ℕ) (t : Tables) : Type 0 where
  pub few : length t.files < 2 ^ 32
  pub new : list_any (pointwise nat_eq hash) t.hashes ≡ false

-- the tables are those of the same shards
abbrev pub SameShards : Tables → Tables → Type 0
SameShards old new = (shards : List Registered) → IsRegistryOf shards old → IsRegistryOf shards new

-- the shard file is registered after the others, with these items
abbrev pub Adds : ℕ → List (ℕ × ℕ × ℕ) → MDBShardFile → Tables → Tables → Type 0
Adds cap items file old new =
    (shards : List Registered) (records : ShardRecords) → IsRegistryOf shards old → IsRegistryOf (with_shard cap shards file items records) new

-- ---- the write

-- A shard file with these bytes was written into a folder, if the disk is observable.
pub record IsWritten (tells : Bool) (old new : Files) (folder bytes : List ℕ) (file : MDBShardFile) : Type 0 where
  pub hash : file.shard_hash ≡ chunk_hash bytes
  pub path : file.path ≡ path_of folder bytes
  pub info : info_at bytes ≡ Ok file.shard
  pub written : tells ≡ true → AddsShard old new folder bytes file
