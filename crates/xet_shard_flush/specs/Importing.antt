-- A shard is written into a folder and registered: one whose bytes are given, or that of what is pending.
use Rattle.std.specs.Prelude.{◌≡◌, ◌≢◌, ◌^◌, ◌-◌, ℕ, Bool, true, false, nat_eq, nat_le, List, length, All, None, Some, Result, Ok, Err, if◌then◌else◌}
use Rattle.std.specs.Cmp.Lexicographic.{pointwise}
use Rattle.std.specs.List.{list_any}
use Rattle.xet_codec.specs.Parsing.{◌>>=◌}
use Rattle.xet_codec.specs.Stops.{HasDiskReason}
use Rattle.xet_hash.specs.Merkle.{chunk_hash}
use Rattle.xet_hash.specs.declared.error.StoreError.{StoreError}
use Rattle.xet_hash.specs.declared.error.StoreError.TheVariants.{TooLarge}
use Rattle.xet_hash.specs.declared.error.What.TheVariants.{Shards}
use Rattle.xet_io.specs.Disk.{File, Files, bytes_at, file_at}
use Rattle.xet_shard.specs.Held.{Held, held_shard}
use Rattle.xet_shard.specs.Sections.{chunk_lookup_in, info_at}
use Rattle.xet_shard.specs.Union.{ShardRecords}
use Rattle.xet_shard_directory.specs.Writing.{AddsShard, IsPutError, KeepsFileAt, path_of}
use Rattle.xet_shard_directory.specs.declared.shard_file.MDBShardFile.{MDBShardFile}
use Rattle.xet_shard_file.specs.Names.{temp_name}
use Rattle.xet_shard_format.specs.Encoding.{full_shard_bytes}
use Rattle.xet_shard_registry.specs.Collections.{IsRegistryOf, Tables}
use Rattle.xet_shard_registry.specs.Registered.{Registered, is_registered, with_shard}

-- The checks before a shard with these bytes is written, in their order. The chunk lookup table is read only if the
-- shard is not registered.
abbrev pub import_check : List ℕ → Tables → Result (Unit {0}) StoreError
import_check bytes t =
    info_at bytes >>= λ info. if list_any (pointwise nat_eq (chunk_hash bytes)) t.hashes then Ok tt
    else (if nat_le (2 ^ 32 - 1) (length t.files) then Err (TooLarge Shards)
    else (chunk_lookup_in info.metadata bytes >>= λ items. Ok tt))

-- The shard file with these bytes is registered after the others.
pub record Registers (cap : ℕ) (bytes : List ℕ) (file : MDBShardFile) (shards : List Registered) (after : Tables) : Type 0 where
  pub items : List (ℕ × ℕ × ℕ)
  pub read : chunk_lookup_in file.shard.metadata bytes ≡ Ok items
  pub tables : (records : ShardRecords) → IsRegistryOf (with_shard cap shards file items records) after

-- A shard with these bytes is in a folder, where it was written if it was not there, and was registered after the others,
-- unless its hash was registered.
pub record Imports (tells : Bool) (cap : ℕ) (old new : Files) (folder bytes : List ℕ) (before after : Tables) (returned : List ℕ) : Type 0 where
  pub file : MDBShardFile
  pub hash : file.shard_hash ≡ chunk_hash bytes
  pub path : file.path ≡ returned
  pub name : returned ≡ path_of folder bytes
  pub info : info_at bytes ≡ Ok file.shard
  pub written : tells ≡ true → AddsShard old new folder bytes file
  pub known : (shards : List Registered) → IsRegistryOf shards before → is_registered file.shard_hash shards ≡ true → IsRegistryOf shards after
  pub fresh : (shards : List Registered) → IsRegistryOf shards before → is_registered file.shard_hash shards ≡ false → Registers cap bytes file shards after

-- ---- what is pending

-- the bytes of the shard that is written of it at a moment, without expiry
abbrev pub flushed_bytes : Held → ℕ → List ℕ
flushed_bytes pending moment = full_shard_bytes (held_shard pending moment None)

-- the check before it is written
abbrev pub flush_check : List ℕ → Tables → Result (Unit {0}) StoreError
flush_check bytes t =
    if list_any (pointwise nat_eq (chunk_hash bytes)) t.hashes then Ok tt
    else (if nat_le (2 ^ 32 - 1) (length t.files) then Err (TooLarge Shards) else Ok tt)

-- ---- what never changes

-- The file of a shard keeps its bytes and its modification time. If it was gone, it comes back only with the header and the
-- footer of the shard.
pub record KeepsFile (old new : Files) (s : MDBShardFile) : Type 0 where
  pub kept : (f : File) → file_at old s.path ≡ Some f → file_at new s.path ≡ Some f
  pub back : (bytes : List ℕ) → bytes_at old s.path ≡ None → bytes_at new s.path ≡ Some bytes → info_at bytes ≡ Ok s.shard

-- When the bytes of a shard are added to a folder, so do the files of all registered shards, but for one at the path of
-- the temporary file; and a file at the path of these bytes stays as it is, if it has them.
pub record KeepsFiles (old new : Files) (folder bytes : List ℕ) (ss : List MDBShardFile) : Type 0 where
  pub each : All (λ s. s.path ≢ temp_name (path_of folder bytes) → KeepsFile old new s) ss
  pub same : bytes_at old (path_of folder bytes) ≡ Some bytes → KeepsFileAt old new (path_of folder bytes)

-- ---- errors

-- the errors of importing a shard, with the disk's count of failures before and after
abbrev pub IsImportError : ℕ → ℕ → StoreError → Type 0
IsImportError before now (TooLarge Shards) = Unit {0}
IsImportError before now e = IsPutError before now e

-- the errors of a flush
abbrev pub IsFlushError : ℕ → ℕ → StoreError → Type 0
IsFlushError before now (TooLarge Shards) = Unit {0}
IsFlushError before now e = HasDiskReason before now e
