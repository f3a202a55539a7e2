-- The steps of a holder, as the deduplication of a file sees them.
use Rattle.std.specs.Prelude.{◌≡◌, ◌≤◌, ℕ, true, false, List, length}
use Rattle.std.specs.List.{IsAmong}
use Rattle.xet_folder.specs.Contents.{max_shards}
use Rattle.xet_hash.specs.declared.error.Place.TheVariants.{Disk}
use Rattle.xet_hash.specs.declared.error.StoreError.{StoreError}
use Rattle.xet_hash.specs.declared.error.StoreError.TheVariants.{Io, MalformedData, OutOfMemory, TooLarge}
use Rattle.xet_hash.specs.declared.error.What.TheVariants.{Shards}
use Rattle.xet_history.specs.Core.{has_pending}
use Rattle.xet_history.specs.declared.entry.Entry.TheVariants.{Fault}
use Rattle.xet_history.specs.declared.entry.StepKind.{StepKind}
use Rattle.xet_shard_format.specs.declared.record.FileDataSequenceEntry.{FileDataSequenceEntry as Segment}
use Rattle.xet_store.specs.Holders.{FollowsAsking, Holder, core_at, seen}
use Rattle.xet_history.specs.Sound.{IsStanding}

-- What a query found is known of an observable disk alone.
abbrev pub Stands : Holder → List (List ℕ) → Segment → Type 0
Stands h hashes run = h.tells ≡ true → IsStanding (core_at h) hashes run

-- the disk failed in a step of the holder since an earlier state: it has the entry
pub record HasFault (old new : Holder) : Type 0 where
  pub number : ℕ
  pub kind : StepKind
  pub among : IsAmong new.own (number, Fault new.number kind)
  pub since : length (seen old) ≤ number

-- why a step since an earlier state failed
abbrev pub IsErrorSince : Holder → Holder → StoreError → Type 0
IsErrorSince old new (Io Disk) = HasFault old new
IsErrorSince old new OutOfMemory = Unit {0}
IsErrorSince old new (TooLarge Shards) = (max_shards ≤ length (core_at new).shards) × (has_pending (core_at new) ≡ true)
IsErrorSince old new (MalformedData reason) = new.tells ≡ false
IsErrorSince old new e = ⊥

-- The same, after the deduplication of a file alone made steps. What no call takes back (`Extends`) compares states by this
-- alone. `OutOfMemory` needs no cause, so `Extends` of two states says that the later one follows the earlier.
abbrev pub IsRefused : Holder → Holder → StoreError → Type 0
IsRefused old new e = FollowsAsking old new × IsErrorSince old new e
