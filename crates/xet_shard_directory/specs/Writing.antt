-- What a call leaves on a disk that writes a shard file into a folder.
use Rattle.std.specs.Prelude.{◌≡◌, ◌≢◌, ◌⊎◌, ◌++◌, ℕ, Bool, List, take, Option, Some, None, Ok, Err, option_map}
use Rattle.xet_io.specs.Disk.{entry_at as get}
use Rattle.xet_hash.specs.Merkle.{chunk_hash}
use Rattle.xet_hash.specs.declared.error.Place.TheVariants.{Disk, Input}
use Rattle.xet_hash.specs.declared.error.StoreError.{StoreError}
use Rattle.xet_hash.specs.declared.error.StoreError.TheVariants.{FileNotFound, Io, MalformedData, OutOfMemory, TooLarge, UnexpectedEof}
use Rattle.xet_hash.specs.declared.error.What.TheVariants.{Input as InputLength}
use Rattle.xet_io.specs.Disk.{File, Files, bytes_at, file_at, synced}
use Rattle.xet_io.specs.Faults.{Rose}
use Rattle.xet_shard.specs.Sections.{info_at}
use Rattle.xet_shard_directory.specs.Values.{loaded}
use Rattle.xet_shard_directory.specs.declared.shard_file.MDBShardFile.{MDBShardFile}
use Rattle.xet_shard_file.specs.Names.{shard_path, temp_name}
use Rattle.xet_shard_file.specs.Puts.{IsDone, IsKeptOrDone}
use Rattle.xet_shard_format.specs.Encoding.{shard_footer_bytes}
use Rattle.xet_shard_format.specs.declared.header_footer.MDBShardFileFooter.{MDBShardFileFooter}

-- the path of the shard with these bytes, whose hash names it
abbrev pub path_of : List ℕ → List ℕ → List ℕ
path_of folder bytes = shard_path folder (chunk_hash bytes)

-- whether the entry of a name is durable, if it has one
abbrev pub durable_at : Files → List ℕ → Option Bool
durable_at files name = option_map (λ e. e.durable) (get files name)

-- no file has changed but the one at a path, and the temporary one beside it
abbrev pub OthersStay : Files → Files → List ℕ → Type 0
OthersStay old new path = (name : List ℕ) → name ≢ path → name ≢ temp_name path → get new name ≡ get old name

-- the file at a path, if there is one, keeps its bytes and its modification time
abbrev pub KeepsFileAt : Files → Files → List ℕ → Type 0
KeepsFileAt old new path = (f : File) → file_at old path ≡ Some f → file_at new path ≡ Some f

-- The shard was written: its file has exactly these bytes under the name of their digest and is durable, no other file
-- has changed, and the value is that of the file.
pub record Wrote (old new : Files) (folder bytes : List ℕ) (s : MDBShardFile) : Type 0 where
  pub hash : s.shard_hash ≡ chunk_hash bytes
  pub path : s.path ≡ path_of folder bytes
  pub done : IsDone new s.path bytes
  pub others : OthersStay old new s.path
  pub value : loaded new s.shard_hash s.path ≡ Ok s

-- After a failed write the file is as it was, or the write has completed. Bytes whose header or footer is malformed are
-- not written.
pub record KeptOrWrote (old new : Files) (folder bytes : List ℕ) : Type 0 where
  pub file : IsKeptOrDone old new (path_of folder bytes) bytes
  pub others : OthersStay old new (path_of folder bytes)
  pub malformed : (e : StoreError) → info_at bytes ≡ Err e → new ≡ old

-- The shard was there: its file has exactly these bytes under the name of their digest, and was made durable. Nothing else
-- has changed, and the value is that of the file.
pub record Stood (old new : Files) (folder bytes : List ℕ) (s : MDBShardFile) : Type 0 where
  pub hash : s.shard_hash ≡ chunk_hash bytes
  pub path : s.path ≡ path_of folder bytes
  pub there : bytes_at old s.path ≡ Some bytes
  pub same : new ≡ synced old s.path
  pub value : loaded new s.shard_hash s.path ≡ Ok s

-- The shard is in the folder: it was written, or it was there.
abbrev pub AddsShard : Files → Files → List ℕ → List ℕ → MDBShardFile → Type 0
AddsShard old new folder bytes s = Wrote old new folder bytes s ⊎ Stood old new folder bytes s

-- After a failed call of that kind the file is as it was, or the write has completed, or the bytes were there, and are durable.
abbrev pub MayAddShard : Files → Files → List ℕ → List ℕ → Type 0
MayAddShard old new folder bytes =
    KeptOrWrote old new folder bytes ⊎ ((bytes_at old (path_of folder bytes) ≡ Some bytes) × (new ≡ synced old (path_of folder bytes)))

-- Nothing was written, since the header or the footer is malformed.
pub record IsUnwritten (old new : Files) (bytes : List ℕ) (e : StoreError) : Type 0 where
  pub read : info_at bytes ≡ Err e
  pub same : new ≡ old

-- If the error is one of the bytes, nothing was written.
abbrev pub IsUnwrittenIfMalformed : Files → Files → List ℕ → StoreError → Type 0
IsUnwrittenIfMalformed old new bytes UnexpectedEof = IsUnwritten old new bytes UnexpectedEof
IsUnwrittenIfMalformed old new bytes (MalformedData reason) = IsUnwritten old new bytes (MalformedData reason)
IsUnwrittenIfMalformed old new bytes e = Unit {0}

-- ---- another file made from a file

-- what a call wrote that makes other bytes from those of a file
abbrev pub WroteFrom : Files → Files → List ℕ → Option (List ℕ) → (List ℕ → List ℕ) → MDBShardFile → Type 0
WroteFrom old new folder None make s = ⊥
WroteFrom old new folder (Some bytes) make s = Wrote old new folder (make bytes) s

-- what a failed call of that kind leaves
abbrev pub KeptOrWroteFrom : Files → Files → List ℕ → Option (List ℕ) → (List ℕ → List ℕ) → Type 0
KeptOrWroteFrom old new folder None make = new ≡ old
KeptOrWroteFrom old new folder (Some bytes) make = KeptOrWrote old new folder (make bytes)

-- `FileNotFound` is returned only if there was no file, and then no error of the bytes is. If the error is one of the new
-- bytes, nothing was written.
abbrev pub IsUnwrittenFrom : Files → Files → Option (List ℕ) → (List ℕ → List ℕ) → StoreError → Type 0
IsUnwrittenFrom old new found make FileNotFound = found ≡ None
IsUnwrittenFrom old new None make UnexpectedEof = ⊥
IsUnwrittenFrom old new None make (MalformedData reason) = ⊥
IsUnwrittenFrom old new None make e = Unit {0}
IsUnwrittenFrom old new (Some bytes) make e = IsUnwrittenIfMalformed old new (make bytes) e

-- the bytes of a shard with this footer, with another creation and expiry in it
abbrev pub with_expiry : MDBShardFileFooter → ℕ → ℕ → List ℕ → List ℕ
with_expiry f creation expiry bytes =
    take f.footer_offset bytes ++ shard_footer_bytes (record f { shard_creation_timestamp = creation; shard_key_expiry = expiry })

-- ---- errors

-- the errors of a malformed header or footer
abbrev pub IsFormatError : StoreError → Type 0
IsFormatError UnexpectedEof = Unit {0}
IsFormatError (MalformedData reason) = Unit {0}
IsFormatError e = ⊥

-- the errors of writing the bytes of a shard, with the disk's count of failures before and after
abbrev pub IsPutError : ℕ → ℕ → StoreError → Type 0
IsPutError before now (Io Disk) = Rose before now
IsPutError before now OutOfMemory = Unit {0}
IsPutError before now UnexpectedEof = Unit {0}
IsPutError before now (MalformedData reason) = Unit {0}
IsPutError before now e = ⊥

-- the same where the bytes are read from a source, with its count of failures
abbrev pub IsWriteError : ℕ → ℕ → ℕ → ℕ → StoreError → Type 0
IsWriteError before now read_before read_now (Io Input) = Rose read_before read_now
IsWriteError before now read_before read_now (TooLarge InputLength) = Unit {0}
IsWriteError before now read_before read_now e = IsPutError before now e
