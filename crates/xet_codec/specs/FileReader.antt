-- A reader over a file of a disk: its bytes, what it was lent, and the failures that it counts.
use Rattle.std.specs.Prelude.{◌≡◌, ◌⊎◌, ◌+◌, ◌-◌, ◌^◌, ℕ, Bool, min, List, [], Option, Some, None}
use Rattle.std.specs.Borrow.{GName}
use Rattle.xet_io.specs.Disk.{Files, File, file_at}
use Rattle.xet_io.specs.Faults.{Rose, one_more}
use Rattle.xet_io.specs.Lent.{Lent}

-- An absent file has no bytes.
abbrev pub bytes_if : Option File → List ℕ
bytes_if None = []
bytes_if (Some f) = f.bytes

abbrev pub bytes_of : Files → List ℕ → List ℕ
bytes_of files name = bytes_if (file_at files name)

-- the disk that a reader was lent
abbrev pub lent_disk : GName → Files → Bool → ℕ → Lent
lent_disk disk files tells faults = record { disk = disk; files = files; tells = tells; faults = faults }

-- what the reader counts: the failures of the disk, and how often the disk was out of memory
abbrev pub all_faults : ℕ → ℕ → ℕ
all_faults faults shortages = min (faults + shortages) (2 ^ 64 - 1)

-- What a call that fails has counted: the disk a failure, or the reader that the disk was out of memory, never both.
abbrev pub CountsOne : ℕ → ℕ → ℕ → ℕ → Type 0
CountsOne faults shortages faults_now shortages_now =
    (Rose faults faults_now × (shortages_now ≡ shortages)) ⊎ ((faults_now ≡ faults) × (shortages_now ≡ one_more shortages))
