-- The results of `get_reader` and `get_reader_if_present`.
use Rattle.std.specs.Prelude.{◌≡◌, ℕ, List, Option, Some, None, Result, Ok, Err}
use Rattle.std.specs.Borrow.{MutBor}
use Rattle.xet_codec.specs.FileReader.{bytes_of}
use Rattle.xet_codec.specs.declared.file_reader.FileReader.{FileReader}
use Rattle.xet_hash.specs.declared.error.StoreError.{StoreError}
use Rattle.xet_io.specs.Disk.{Files}
use Rattle.xet_shard_directory.specs.declared.reader.NoReader.{NoReader}
use Rattle.xet_shard_directory.specs.declared.reader.ReaderIfPresent.{ReaderIfPresent}
use Rattle.xet_shard_directory.specs.declared.reader.ReaderIfPresent.TheVariants.{Absent, Present}

module _ {D : Type 0} where
  -- the result without the disk that its error gives back
  abbrev pub by_error : {X : Type 0} → Result X (NoReader D) → Result X StoreError
  by_error (Ok x) = Ok x
  by_error (Err refused) = Err refused.error

  -- a reader of the file at a path, whose disk was not out of memory yet
  abbrev pub IsFresh : List ℕ → FileReader D → Type 0
  IsFresh path reader = (reader.name.now ≡ path) × (reader.shortages ≡ 0)

  abbrev pub IsFreshIfPresent : List ℕ → ReaderIfPresent D → Type 0
  IsFreshIfPresent path (Present reader) = IsFresh path reader
  IsFreshIfPresent path (Absent disk) = Unit {0}

  -- the bytes of a reader, or none if there is no file
  abbrev pub bytes_if_present : (D → Files) → ReaderIfPresent D → Option (List ℕ)
  bytes_if_present files (Present reader) = Some (bytes_of (files reader.disk.now) reader.name.now)
  bytes_if_present files (Absent disk) = None

  -- the disk that was lent
  abbrev pub disk_if_present : ReaderIfPresent D → MutBor D
  disk_if_present (Present reader) = reader.disk
  disk_if_present (Absent disk) = disk
