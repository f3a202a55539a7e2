-- Hashing files that are not stored: the pointer record of each, and the errors.
use Rattle.std.specs.Prelude.{ℕ, Bool, List, length, None}
use Rattle.xet_cut.specs.Chunking.{chunking}
use Rattle.xet_cut.specs.declared.limits.LimitSettings.{LimitSettings}
use Rattle.xet_hash.specs.Merkle.{file_hash, leaves_of}
use Rattle.xet_hash.specs.declared.error.Place.TheVariants as place
use Rattle.xet_hash.specs.declared.error.StoreError.{StoreError}
use Rattle.xet_hash.specs.declared.error.StoreError.TheVariants.{Io, OutOfMemory, TooLarge}
use Rattle.xet_hash.specs.declared.error.What.TheVariants as what
use Rattle.xet_store_disk.specs.Cleaning.{IsLongAt, RoseAt}
use Rattle.xet_store_disk.specs.declared.info.XetFileInfo.{XetFileInfo}

-- the pointer record of a file, without its SHA-256
abbrev pub hashed_info : LimitSettings → List ℕ → XetFileInfo
hashed_info s bytes = record { hash = file_hash (leaves_of (chunking s bytes)); file_size = length bytes; sha256 = None }

-- the errors of hashing, and when each is returned: a source failed, it has more bytes than the limits allow, or memory is out
abbrev pub HasHashReason : {S : Type 0} → (S → Bool) → (S → List ℕ) → (S → ℕ) → List S → List S → LimitSettings → StoreError → Type 0
HasHashReason tells left faults old new s (Io (place.Source i)) = RoseAt faults old new i
HasHashReason tells left faults old new s (TooLarge (what.Source i)) = IsLongAt tells left old s.max_source_bytes i
HasHashReason tells left faults old new s OutOfMemory = Unit {0}
HasHashReason tells left faults old new s _ = ⊥
