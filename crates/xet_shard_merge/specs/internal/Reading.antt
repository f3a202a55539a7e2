-- The result of a call that reads a file, in terms of the disk.
use Rattle.std.specs.Prelude.{◌≡◌, Bool, true, Option, None, Result, Ok, Err, if◌then◌else◌}
use Rattle.xet_hash.specs.declared.error.Place.TheVariants.{Disk, Input}
use Rattle.xet_hash.specs.declared.error.StoreError.{StoreError}
use Rattle.xet_hash.specs.declared.error.StoreError.TheVariants.{Io, MalformedData, OutOfMemory, UnexpectedEof}

abbrev pub disk_error : StoreError → Bool → StoreError
disk_error (Io Input) short = if short then OutOfMemory else Io Disk
disk_error e short = e

-- A failure of the reader is one of the disk, unless the reader was out of memory.
abbrev pub of_disk : {X : Type 0} → Bool → Result X StoreError → Result X StoreError
of_disk short (Ok x) = Ok x
of_disk short (Err e) = Err (disk_error e short)

-- where errors are skipped, a malformed section is passed over
abbrev pub IsUnlessSkipped : {X : Type 0} → Bool → StoreError → Result (Option X) StoreError → Type 0
IsUnlessSkipped true UnexpectedEof result = result ≡ Ok None
IsUnlessSkipped true (MalformedData reason) result = result ≡ Ok None
IsUnlessSkipped skip e result = result ≡ Err e
