-- The export of a shard file under a key.
use Rattle.std.specs.Prelude.{◌≡◌, ◌⊎◌, ℕ, List, [], Option, Some, None, Result, Err}
use Rattle.xet_hash.specs.declared.error.Place.TheVariants.{Disk}
use Rattle.xet_hash.specs.declared.error.StoreError.{StoreError}
use Rattle.xet_hash.specs.declared.error.StoreError.TheVariants.{Io, OutOfMemory}
use Rattle.xet_io.specs.Disk.{File, Files}
use Rattle.xet_shard.specs.Export.{IsExport}
use Rattle.xet_shard_directory.specs.Answers.{in_file}
use Rattle.xet_shard_directory.specs.Writing.{KeptOrWrote, Wrote}
use Rattle.xet_shard_directory.specs.declared.shard_file.MDBShardFile.{MDBShardFile}
use Rattle.xet_shard_format.specs.Encoding.{Shard}
use Rattle.xet_shard_format.specs.Lookups.{Lookups}

-- The bytes are the export of the shard that `read` gives of a file.
abbrev pub Exports : Option File → Lookups → (List ℕ → Result Shard StoreError) → List ℕ → Type 0
Exports None lookups read bytes = ⊥
Exports (Some f) lookups read bytes = IsExport lookups (read f.bytes) [] bytes

-- The export was written.
pub record WroteExport (old new : Files) (folder : List ℕ) (found : Option File) (lookups : Lookups) (read : List ℕ → Result Shard StoreError) (s : MDBShardFile) : Type 0 where
  pub bytes : List ℕ
  pub export : Exports found lookups read bytes
  pub wrote : Wrote old new folder bytes s

-- After an error nothing has changed, or the export was written or its file is as it was.
abbrev pub KeptOrWroteExport : Files → Files → List ℕ → Option File → Lookups → (List ℕ → Result Shard StoreError) → Type 0
KeptOrWroteExport old new folder found lookups read =
    (new ≡ old) ⊎ ((bytes : List ℕ) × Exports found lookups read bytes × KeptOrWrote old new folder bytes)

-- the error of what is read, unless the disk failed or memory was out
abbrev pub IsUnexported : Option File → (List ℕ → Result Shard StoreError) → StoreError → Type 0
IsUnexported found read (Io Disk) = Unit {0}
IsUnexported found read OutOfMemory = Unit {0}
IsUnexported found read e = in_file found (λ f. read f.bytes) ≡ Err e

-- the same, and then nothing was written
abbrev pub IsUnwrittenExport : Files → Files → Option File → (List ℕ → Result Shard StoreError) → StoreError → Type 0
IsUnwrittenExport old new found read (Io Disk) = Unit {0}
IsUnwrittenExport old new found read OutOfMemory = Unit {0}
IsUnwrittenExport old new found read e = (in_file found (λ f. read f.bytes) ≡ Err e) × (new ≡ old)
