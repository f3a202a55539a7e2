-- Reading byte ranges of files.
use Rattle.std.specs.Prelude.{◌≡◌, ◌⊎◌, ℕ, ◌<◌, ◌≤◌, false, List, length, Some, None}
use Rattle.std.specs.List.{concat}
use Rattle.xet_io.specs.Faults.{Rose}
use Rattle.xet_hash.specs.declared.error.StoreError.{StoreError}
use Rattle.xet_hash.specs.declared.error.StoreError.TheVariants.{FileNotFound, InvalidRange, Io, MalformedData, OutOfMemory}
use Rattle.xet_hash.specs.declared.error.Place.TheVariants.{Disk}
use Rattle.xet_hash.specs.declared.error.Reason.TheVariants.{XorbText}
use Rattle.xet_shard_format.specs.declared.record.FileDataSequenceEntry.{FileDataSequenceEntry as Segment}
use Rattle.xet_folder.specs.Plan.{Resolves, plan_bytes, range}
use Rattle.xet_folder.specs.Stored.{IsStored}
use Rattle.xet_store_disk.specs.Store.{State, plan_of}

-- The bytes are this range of the stored chunks to which the file's plan resolves.
pub record IsRange (s : State) (h : List ℕ) (from to : ℕ) (bytes : List ℕ) : Type 0 where
  pub plan : List Segment
  pub planned : plan_of s.records h ≡ Some plan
  pub chunks : List (List ℕ)
  pub resolves : Resolves (IsStored s.files s.folder) length plan chunks
  pub is : bytes ≡ range (concat chunks) from to

-- the range is reversed or passes the file's end
pub record IsOutside (s : State) (h : List ℕ) (from to : ℕ) : Type 0 where
  pub plan : List Segment
  pub planned : plan_of s.records h ≡ Some plan
  pub outside : (to < from) ⊎ (plan_bytes plan < to)

-- Reading changes nothing but the disk's count of failures, which does not fall.
pub record IsUnchanged (old new : State) : Type 0 where
  pub is : new ≡ record old { faults = new.faults }
  pub later : old.faults ≤ new.faults

-- the errors of reading a range, and when each is returned
abbrev pub IsRangeError : State → List ℕ → ℕ → ℕ → ℕ → StoreError → Type 0
IsRangeError s h from to after FileNotFound = plan_of s.records h ≡ None
IsRangeError s h from to after InvalidRange = IsOutside s h from to
IsRangeError s h from to after (Io Disk) = Rose s.faults after
IsRangeError s h from to after (MalformedData XorbText) = s.tells ≡ false
IsRangeError s h from to after OutOfMemory = Unit {0}
IsRangeError s h from to after e = ⊥
