-- The passes of a session: what they have seen, and what their steps add to that.
use Rattle.std.specs.Prelude.{◌≡◌, ◌≢◌, ◌⊎◌, ◌≤◌, ◌++◌, [], ◌∷◌, ℕ, zero, suc, true, false, List, length, map, Option, None, Some, slice_get, if◌then◌else◌}
use Rattle.std.specs.List.{AllByRecursion}
use Rattle.std.specs.List.Sorted.{IsStrictlyIncreasing}
use Rattle.xet_completion.specs.Completing.{Completes}
use Rattle.xet_folder.specs.Contents.{max_shards}
use Rattle.xet_hash.specs.declared.error.Place.TheVariants.{Disk}
use Rattle.xet_hash.specs.declared.error.Reason.TheVariants.{OtherFileHash}
use Rattle.xet_hash.specs.declared.error.StoreError.{StoreError}
use Rattle.xet_hash.specs.declared.error.StoreError.TheVariants.{Io, MalformedData, OutOfMemory, TooLarge}
use Rattle.xet_hash.specs.declared.error.What.TheVariants.{Shards}
use Rattle.xet_history.specs.Core.{Core, has_pending, pending_hash}
use Rattle.xet_history.specs.History.{Legal, flush_entries, pass_of}
use Rattle.xet_history.specs.declared.entry.Entry.{Entry}
use Rattle.xet_history.specs.declared.entry.StepKind.{StepKind}
use Rattle.xet_history.specs.declared.entry.StepKind.TheVariants as kind
use Rattle.xet_shard_format.specs.declared.record.MDBFileInfo.{MDBFileInfo}
use Rattle.xet_store.specs.Recorded.{RecordedState, core_of}
use Rattle.xet_store.specs.Steps.{fault_entries}
use Rattle.xet_store.specs.Holders.{Holder, core_found, grown, seen}
use Rattle.xet_store.specs.Stepping.{IsStepReason}

-- ---- what a pass has seen

abbrev pub with_number : ℕ → Option Entry → List (ℕ × Entry)
with_number n None = []
with_number n (Some e) = (n, e) ∷ []

-- the entries of a history that have these numbers, each with its number
abbrev pub entries_at : List Entry → List ℕ → List (ℕ × Entry)
entries_at history [] = []
entries_at history (n ∷ ns) = with_number n (slice_get history n) ++ entries_at history ns

-- The holder of the pass of this number in a session of a store: since the session was made it has seen these entries, and those
-- of these numbers are its own.
abbrev pub holder_of : RecordedState → ℕ → List ℕ → List Entry → Holder
holder_of start number own since = record {
  origin = start;
  tells = start.store.tells;
  limits = start.store.limits;
  number = number;
  before = start.history;
  base = core_of start;
  since = since;
  own = entries_at (start.history ++ since) own;
  earlier = [];
  stopped = false;
}

-- so many passes, with consecutive numbers from this one on; each has seen the history of the store, and has no own entries
abbrev pub new_passes : RecordedState → ℕ → ℕ → List Holder
new_passes start number zero = []
new_passes start number (suc n) = holder_of start number [] [] ∷ new_passes start (suc number) n

-- It is the holder of a pass of a session of this store.
pub record IsPassOf (start : RecordedState) (h : Holder) : Type 0 where
  pub number : ℕ
  pub own : List ℕ
  pub since : List Entry
  pub is : h ≡ holder_of start number own since

-- It is in the history under its number, after what was there when the holder began, and has the holder's number. As `IsOwn` of
-- `xet_store`, but a xorb may have been registered with any further chunks.
pub record IsThere (h : Holder) (p : ℕ × Entry) : Type 0 where
  pub there : slice_get (seen h) p.0 ≡ Some p.1
  pub later : length h.before ≤ p.0
  pub made : pass_of p.1 ≡ h.number

-- What a pass has seen is legal, and its own entries are there, in order.
pub record IsSeen (h : Holder) : Type 0 where
  pub legal : Legal h.tells h.base h.since
  pub own : AllByRecursion (IsThere h) h.own
  pub ascend : IsStrictlyIncreasing (map (λ p. p.0) h.own)

-- ---- all passes

-- the numbers of the own entries of all
abbrev pub own_numbers : List Holder → List ℕ
own_numbers [] = []
own_numbers (h ∷ hs) = map (λ p. p.0) h.own ++ own_numbers hs

-- No two have the same number.
abbrev pub NumbersDiffer : List Holder → Type 0
NumbersDiffer [] = Unit {0}
NumbersDiffer (h ∷ hs) = AllByRecursion (λ k. k.number ≢ h.number) hs × NumbersDiffer hs

-- ---- steps

-- the hash of the shard of what is pending, if something is
abbrev pub flushed_hash : Core → Option (List ℕ)
flushed_hash c = if has_pending c then Some (pending_hash c) else None

-- What was pending was flushed as the shard of this hash, if something was.
pub record SawFlush (old new : Holder) (shard : Option (List ℕ)) : Type 0 where
  pub others : List Entry
  pub is : new ≡ grown old others (flush_entries old.number (core_found old others))
  pub hash : shard ≡ flushed_hash (core_found old others)

-- A step failed, and the pass goes on: after entries of others, it added the entry of the cut that was due, if the cut was
-- completed, and the entry of the failure, if it was the disk's.
pub record StepFailed (kind : StepKind) (cut : Core → List Entry) (old new : Holder) (e : StoreError) : Type 0 where
  pub others : List Entry
  pub done : List Entry
  pub completed : (done ≡ []) ⊎ (done ≡ cut (core_found old others))
  pub is : new ≡ grown old others (done ++ fault_entries old.number kind e)
  pub full : e ≡ TooLarge Shards → done ≡ []
  pub reason : IsStepReason kind old.tells (cut (core_found old others)) (core_found old others) e

-- A file that may not be recorded was rejected, and has no entry.
pub record OtherFile (file : MDBFileInfo) (old new : Holder) (e : StoreError) : Type 0 where
  pub others : List Entry
  pub is : new ≡ grown old others []
  pub error : e ≡ MalformedData OtherFileHash
  pub not : Completes (core_found old others).xorbs file → ⊥

-- why a flush fails
abbrev pub IsFlushReason : Core → StoreError → Type 0
IsFlushReason c (Io Disk) = Unit {0}
IsFlushReason c OutOfMemory = Unit {0}
IsFlushReason c (TooLarge Shards) = (max_shards ≤ length c.shards) × (has_pending c ≡ true)
IsFlushReason c e = ⊥

-- A flush failed: after entries of others, it added the entry of the failure, if it was the disk's.
pub record FlushFailed (old new : Holder) (e : StoreError) : Type 0 where
  pub others : List Entry
  pub is : new ≡ grown old others (fault_entries old.number kind.Flush e)
  pub reason : IsFlushReason (core_found old others) e
