-- Why a call on a source, a sink or a disk fails.
use Rattle.std.specs.Prelude.{◌≡◌, ◌⊎◌, ℕ}
use Rattle.xet_hash.specs.declared.error.StoreError.{StoreError}
use Rattle.xet_hash.specs.declared.error.StoreError.TheVariants.{Io, OutOfMemory, TooLarge}
use Rattle.xet_hash.specs.declared.error.Place.TheVariants.{Input, Output, Disk}
use Rattle.xet_hash.specs.declared.error.What.TheVariants.{Input as InputLength}
use Rattle.xet_io.specs.Faults.{Rose}
use Rattle.xet_io.specs.declared.fault.Refusal.{Refusal}
use Rattle.xet_io.specs.declared.fault.Refusal.TheVariants as refusal

-- the sink failed, or out of memory
abbrev pub StopsWriting : StoreError → Type 0
StopsWriting e = (e ≡ Io Output) ⊎ (e ≡ OutOfMemory)

-- the source failed, or out of memory
abbrev pub StopsReading : StoreError → Type 0
StopsReading e = (e ≡ Io Input) ⊎ (e ≡ OutOfMemory)

-- the source, which is not observable, had more than 2 ^ 63 bytes
abbrev pub PassesLimit : StoreError → Type 0
PassesLimit e = e ≡ TooLarge InputLength

-- the `StoreError` for the error of a disk
abbrev pub from_refusal : Refusal → StoreError
from_refusal refusal.Failed = Io Disk
from_refusal refusal.OutOfMemory = OutOfMemory

-- the error of a call on a disk, with the disk's count of failures before and after
abbrev pub HasDiskReason : ℕ → ℕ → StoreError → Type 0
HasDiskReason before now (Io Disk) = Rose before now
HasDiskReason before now OutOfMemory = Unit {0}
HasDiskReason before now _ = ⊥
