-- What calls that write results leave of the other files.
use Rattle.std.specs.Prelude.{◌≡◌, ℕ, Any, Bool, true, false, List, Option, Some, None, Result, Ok, Err}
use Rattle.xet_hash.specs.declared.error.Place.TheVariants.{Disk}
use Rattle.xet_hash.specs.declared.error.StoreError.{StoreError}
use Rattle.xet_hash.specs.declared.error.StoreError.TheVariants.{Io, MalformedData, OutOfMemory, UnexpectedEof}
use Rattle.xet_io.specs.Disk.{Files, bytes_at}
use Rattle.xet_shard.specs.Sections.{info_at}
use Rattle.xet_shard.specs.Union.{ShardRecords}
use Rattle.xet_shard_directory.specs.Writing.{durable_at}
use Rattle.xet_shard_directory.specs.declared.shard_file.MDBShardFile.{MDBShardFile}
use Rattle.xet_shard_merge.specs.Groups.{Group}
use Rattle.xet_shard_merge.specs.Merging.{IsDue, IsHome, IsNoTemp, KeepsFiles, WritesOnly}

-- Every file that was there has its bytes and its modification time, and is durable if it was.
pub record Preserves (old new : Files) : Type 0 where
  pub files : KeepsFiles old new
  pub durable : (name : List ℕ) → IsNoTemp name → durable_at old name ≡ Some true → durable_at new name ≡ Some true

-- these bytes alone
abbrev pub IsOnlyDue : List ℕ → List ℕ → Type 0
IsOnlyDue bytes b = b ≡ bytes

-- the bytes of a shard that is not home
abbrev pub IsCopyDue : Files → List ℕ → MDBShardFile → List ℕ → Type 0
IsCopyDue files folder s b = (IsHome folder s → ⊥) × (bytes_at files s.path ≡ Some b)

-- the bytes of the result of one of these groups
abbrev pub IsOneDue : Files → List ℕ → List Group → List ℕ → Type 0
IsOneDue files folder groups b = Any (λ g. IsDue files folder g b) groups

-- the result of the open group alone was written, if there is one
abbrev pub WritesIfOpen : Files → Files → List ℕ → Option Group → Type 0
WritesIfOpen old new folder None = new ≡ old
WritesIfOpen old new folder (Some g) = WritesOnly old new folder (IsDue old folder g)

-- The file is there, its header and footer are the value's, and its name is no temporary one.
pub record IsIntact (files : Files) (s : MDBShardFile) : Type 0 where
  pub bytes : List ℕ
  pub there : bytes_at files s.path ≡ Some bytes
  pub value : info_at bytes ≡ Ok s.shard
  pub name : IsNoTemp s.path

-- ---- reading

-- The length and the records of a file; none, if it can't be read and that is skipped.
abbrev pub IsOffer : Bool → Option (ℕ × ShardRecords) → ℕ → Result ShardRecords StoreError → Type 0
IsOffer skip None n read = (skip ≡ true) × ((e : StoreError) × (read ≡ Err e))
IsOffer skip (Some x) n read = (x.0 ≡ n) × (read ≡ Ok x.1)

-- why a file is not read, unless the disk failed or memory was out
abbrev pub IsUnreadable : Bool → Result ShardRecords StoreError → StoreError → Type 0
IsUnreadable skip read (Io Disk) = Unit {0}
IsUnreadable skip read OutOfMemory = Unit {0}
IsUnreadable skip read UnexpectedEof = (skip ≡ false) × (read ≡ Err UnexpectedEof)
IsUnreadable skip read (MalformedData reason) = (skip ≡ false) × (read ≡ Err (MalformedData reason))
IsUnreadable skip read e = ⊥
