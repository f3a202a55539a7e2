-- What the steps of a holder add to what it has seen.
use Rattle.std.specs.Prelude.{◌≡◌, ◌≢◌, ◌⊎◌, ◌≤◌, ◌++◌, [], ℕ, Bool, true, false, List, length, take, Option, Some, IfSome}
use Rattle.xet_completion.specs.Completing.{Completes}
use Rattle.xet_folder.specs.Contents.{max_shards}
use Rattle.xet_folder.specs.Xorbs.{IsListed}
use Rattle.xet_hash.specs.Hash.{sentinel}
use Rattle.xet_hash.specs.Merkle.{xorb_hash}
use Rattle.xet_hash.specs.declared.error.Place.TheVariants.{Disk}
use Rattle.xet_hash.specs.declared.error.Reason.TheVariants.{OtherFileHash}
use Rattle.xet_hash.specs.declared.error.StoreError.{StoreError}
use Rattle.xet_hash.specs.declared.error.StoreError.TheVariants.{Io, MalformedData, OutOfMemory, TooLarge}
use Rattle.xet_hash.specs.declared.error.What.TheVariants.{Shards}
use Rattle.xet_history.specs.Core.{Core, is_new}
use Rattle.xet_history.specs.Found.{found_run}
use Rattle.xet_history.specs.History.{complete_cut, complete_entries, query_entries, register_cut, register_entries}
use Rattle.xet_history.specs.Sound.{IsStanding, IsUsableRun}
use Rattle.xet_history.specs.declared.entry.Entry.{Entry}
use Rattle.xet_history.specs.declared.entry.StepKind.{StepKind}
use Rattle.xet_history.specs.declared.entry.StepKind.TheVariants as kind
use Rattle.xet_shard.specs.Runs.{held_run}
use Rattle.xet_shard_format.specs.Records.{file_record_hash}
use Rattle.xet_shard_format.specs.declared.record.FileDataSequenceEntry.{FileDataSequenceEntry as Segment}
use Rattle.xet_shard_format.specs.declared.record.MDBFileInfo.{MDBFileInfo}
use Rattle.xet_store.specs.Steps.{fault_entries}
use Rattle.xet_store.specs.Holders.{Holder, core_at, core_found, ended, grown}

-- A query had this reply: the run that is pending; or else that of the core that it found, if the disk is observable.
pub record SawQuery (hashes : List (List ℕ)) (old new : Holder) (reply : Option (ℕ × Segment)) : Type 0 where
  pub others : List Entry
  pub going : old.stopped ≡ false
  pub is : new ≡ grown old others (query_entries old.number hashes reply)
  pub usable : IfSome reply (IsUsableRun (core_at new).xorbs hashes)
  pub pending : (run : ℕ × Segment) → held_run (core_at new).pending.blocks hashes ≡ Some run → reply ≡ Some run
  pub found : old.tells ≡ true → reply ≡ found_run (core_at new) hashes
  pub stands : old.tells ≡ true → IfSome reply (λ run. IsStanding (core_at new) (take run.0 hashes) run.1)

-- A xorb of these chunks was registered, and is listed with them. `added`: it was not listed before.
pub record SawRegister (leaves next : List (List ℕ × ℕ)) (old new : Holder) (added : Bool) : Type 0 where
  pub others : List Entry
  pub going : old.stopped ≡ false
  pub is : new ≡ grown old others (register_entries old.number (core_found old others) old.limits.shard_target leaves next)
  pub new_hash : added ≡ is_new (core_found old others).xorbs (xorb_hash leaves)
  pub listed : IsListed (core_at new).xorbs (xorb_hash leaves) leaves
  pub named : xorb_hash leaves ≢ sentinel

-- A file was recorded, which could be. `added`: it was not recorded before.
pub record SawComplete (file : MDBFileInfo) (old new : Holder) (added : Bool) : Type 0 where
  pub others : List Entry
  pub going : old.stopped ≡ false
  pub is : new ≡ grown old others (complete_entries old.number (core_found old others) old.limits.shard_target file)
  pub new_hash : added ≡ is_new (core_found old others).records (file_record_hash file)
  pub can : Completes (core_found old others).xorbs file

-- ---- steps that fail

-- the cuts that are due before a registration and before a file is recorded
abbrev pub cut_to_register : Holder → List (List ℕ × ℕ) → Core → List Entry
cut_to_register h leaves c = register_cut h.number c h.limits.shard_target leaves

abbrev pub cut_to_complete : Holder → MDBFileInfo → Core → List Entry
cut_to_complete h file c = complete_cut h.number c h.limits.shard_target file

-- none is due before a query
abbrev pub no_cut : Core → List Entry
no_cut c = []

-- Why a step of a kind fails, before which this cut is due. `TooLarge(Shards)` is returned only if it is, and no further shard
-- can be registered; `MalformedData` only for a query over a disk that is not observable.
abbrev pub IsStepReason : StepKind → Bool → List Entry → Core → StoreError → Type 0
IsStepReason k tells cut c (Io Disk) = Unit {0}
IsStepReason k tells cut c OutOfMemory = Unit {0}
IsStepReason k tells cut c (TooLarge Shards) = (max_shards ≤ length c.shards) × (cut ≢ [])
IsStepReason kind.Query tells cut c (MalformedData reason) = tells ≡ false
IsStepReason k tells cut c e = ⊥

-- A step failed: it added the entry of the cut that was due, if the cut was completed, and the entry of the failure, if it was
-- the disk's. If the holder had stopped, nothing was done, and the error is `OutOfMemory`.
pub record SawError (kind : StepKind) (cut : Core → List Entry) (old new : Holder) (e : StoreError) : Type 0 where
  pub others : List Entry
  pub done : List Entry
  pub completed : (done ≡ []) ⊎ (done ≡ cut (core_found old others))
  pub still : old.stopped ≡ true → (new.own ≡ old.own) × (e ≡ OutOfMemory)
  pub is : new ≡ ended old others (done ++ fault_entries old.number kind e)
  pub full : e ≡ TooLarge Shards → done ≡ []
  pub reason : IsStepReason kind old.tells (cut (core_found old others)) (core_found old others) e

-- A file that may not be recorded was refused, and has no entry.
pub record SawOther (file : MDBFileInfo) (old new : Holder) (e : StoreError) : Type 0 where
  pub others : List Entry
  pub going : old.stopped ≡ false
  pub is : new ≡ ended old others []
  pub error : e ≡ MalformedData OtherFileHash
  pub not : Completes (core_found old others).xorbs file → ⊥
