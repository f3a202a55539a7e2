-- What a call answers that reads a file of a disk.
use Rattle.std.specs.Prelude.{◌≡◌, ℕ, nat_le, Bool, List, length, take, Option, Some, None, Result, Ok, Err, if◌then◌else◌}
use Rattle.xet_codec.specs.Stops.{HasDiskReason}
use Rattle.xet_hash.specs.declared.error.Place.TheVariants.{Disk}
use Rattle.xet_hash.specs.declared.error.StoreError.{StoreError}
use Rattle.xet_hash.specs.declared.error.StoreError.TheVariants.{BadFilename, FileNotFound, Io, MalformedData, OutOfMemory, TruncatedHashCollision, UnexpectedEof}
use Rattle.xet_io.specs.Disk.{File}
use Rattle.xet_io.specs.Faults.{Rose}
use Rattle.xet_shard.specs.Bisection.{Bisects}

-- what is read of a file; that it is absent is an error
abbrev pub in_file : {X : Type 0} → Option File → (File → Result X StoreError) → Result X StoreError
in_file None read = Err FileNotFound
in_file (Some f) read = read f

-- the first n bytes of a file
abbrev pub first_bytes : ℕ → List ℕ → Result (List ℕ) StoreError
first_bytes n bytes = if nat_le n (length bytes) then Ok (take n bytes) else Err UnexpectedEof

-- The result of a call, seen by `view`, is that of reading, unless the disk failed or memory was out.
abbrev pub GivesUnlessDisk : {X Y : Type 0} → (X → Y) → Result X StoreError → Result Y StoreError → Type 0
GivesUnlessDisk view (Ok x) read = read ≡ Ok (view x)
GivesUnlessDisk view (Err (Io Disk)) read = Unit {0}
GivesUnlessDisk view (Err OutOfMemory) read = Unit {0}
GivesUnlessDisk view (Err e) read = read ≡ Err e

-- The result of a query is the answer at an index that bisects a lookup table, unless the disk failed or memory was
-- out.
abbrev pub AnswersUnlessDisk : {X A : Type 0} → (X → Bool) → List X → Result A StoreError → (ℕ → Result A StoreError) → Type 0
AnswersUnlessDisk passes items (Err (Io Disk)) answer = Unit {0}
AnswersUnlessDisk passes items (Err OutOfMemory) answer = Unit {0}
AnswersUnlessDisk passes items result answer = (index : ℕ) × Bisects passes items index × (answer index ≡ result)

-- the errors of a call that looks for a file, with the disk's count of failures before and after
abbrev pub IsFindError : ℕ → ℕ → StoreError → Type 0
IsFindError before now FileNotFound = Unit {0}
IsFindError before now e = HasDiskReason before now e

-- the errors of a call that reads bytes of a file and parses nothing
abbrev pub IsBufferError : ℕ → ℕ → StoreError → Type 0
IsBufferError before now UnexpectedEof = Unit {0}
IsBufferError before now e = IsFindError before now e

-- the errors of a call that reads a shard file, with the disk's count of failures before and after
abbrev pub IsReadError : ℕ → ℕ → StoreError → Type 0
IsReadError before now (Io Disk) = Rose before now
IsReadError before now OutOfMemory = Unit {0}
IsReadError before now FileNotFound = Unit {0}
IsReadError before now UnexpectedEof = Unit {0}
IsReadError before now (MalformedData reason) = Unit {0}
IsReadError before now e = ⊥

-- the errors of a call that also looks at the name
abbrev pub IsLoadError : ℕ → ℕ → StoreError → Type 0
IsLoadError before now BadFilename = Unit {0}
IsLoadError before now e = IsReadError before now e

-- the errors of a query, which an absent file answers
abbrev pub IsQueryError : ℕ → ℕ → StoreError → Type 0
IsQueryError before now FileNotFound = ⊥
IsQueryError before now e = IsReadError before now e

-- the errors of looking up a file
abbrev pub IsFileQueryError : ℕ → ℕ → StoreError → Type 0
IsFileQueryError before now TruncatedHashCollision = Unit {0}
IsFileQueryError before now e = IsQueryError before now e
