-- What is read through a reader over a file of a disk.
use Rattle.std.proofs.Common.{◌≡◌, ◌⊎◌, inl, inr, ℕ, Bool, true, false, List, Option, Some, None, Result, Ok, Err}
use Rattle.std.specs.Option.{option_map}
use Rattle.std.specs.Prelude.{IfErr}
use Rattle.xet_codec.specs.FileReader.{bytes_if, bytes_of}
use Rattle.xet_codec.specs.Stops.{StopsReading, StopsWriting}
use Rattle.xet_hash.specs.declared.error.Place.TheVariants as place
use Rattle.xet_hash.specs.declared.error.StoreError.{StoreError}
use Rattle.xet_hash.specs.declared.error.StoreError.TheVariants as error
use Rattle.xet_io.specs.Disk.{File, Files, bytes_at, file_at}
use Rattle.xet_restore.specs.DiskErrors.{disk_error, of_disk}
use Rattle.xet_restore.specs.Errors.{IsCopyError, IsStop}

file_bytes : (found : Option File) (bytes : List ℕ) → option_map (λ f. f.bytes) found ≡ Some bytes → bytes_if found ≡ bytes
file_bytes None bytes is = absurd (cc is)
file_bytes (Some f) bytes is = cc is

-- the bytes of a reader over a file that is there
pub bytes_there : (files : Files) (name bytes : List ℕ) → bytes_at files name ≡ Some bytes → bytes_of files name ≡ bytes
bytes_there files name bytes is = file_bytes (file_at files name) bytes is

-- an error of the reader or of a sink, in terms of the disk
error_of_disk : (P : StoreError → Type 0) (short : Bool) (e : StoreError) → IsCopyError e → P e ⊎ (StopsReading e ⊎ StopsWriting e) → P (disk_error e short) ⊎ IsStop (disk_error e short)
error_of_disk P true (error.Io place.Input) kind h = inr tt
error_of_disk P false (error.Io place.Input) kind h = inr tt
error_of_disk P short (error.Io place.Output) kind h = inr tt
error_of_disk P short (error.Io place.Disk) kind h = inr tt
error_of_disk P short (error.Io (place.Source i)) (inl is) h = absurd (cc is)
error_of_disk P short (error.Io (place.Source i)) (inr is) h = absurd (cc is)
error_of_disk P short error.OutOfMemory kind h = inr tt
error_of_disk P short e kind (inl read) = inl read
error_of_disk P short e kind (inr (inl (inl is))) = absurd (cc is)
error_of_disk P short e kind (inr (inl (inr is))) = absurd (cc is)
error_of_disk P short e kind (inr (inr (inl is))) = absurd (cc is)
error_of_disk P short e kind (inr (inr (inr is))) = absurd (cc is)

-- why a call that reads from the reader fails, in terms of the disk
pub unread_of_disk : (P : StoreError → Type 0) (short : Bool) (answer : Result (Unit {0}) StoreError) → IfErr answer IsCopyError → IfErr answer (λ e. P e ⊎ (StopsReading e ⊎ StopsWriting e)) → IfErr (of_disk short answer) (λ e. P e ⊎ IsStop e)
unread_of_disk P short (Ok done) kinds h = tt
unread_of_disk P short (Err e) kinds h = error_of_disk P short e kinds h
