-- The store of a session, since the session was made.
use Rattle.std.specs.Prelude.{ℕ, suc, ◌+◌, ◌-◌, ◌^◌, ◌≤◌, min, List, [], ◌∷◌}
use Rattle.xet_history.specs.declared.entry.Entry.{Entry}
use Rattle.xet_history.specs.declared.entry.Entry.TheVariants.{Query, Register, Complete, Flush, Fault}
use Rattle.xet_store.specs.Recorded.{RecordedState}
use Rattle.xet_store.specs.Steps.{Steps}

-- how many of the entries are failures of the disk
abbrev pub fault_count : List Entry → ℕ
fault_count [] = 0
fault_count (Query pass hashes reply ∷ es) = fault_count es
fault_count (Register pass chunks next added ∷ es) = fault_count es
fault_count (Complete pass file added ∷ es) = fault_count es
fault_count (Flush pass shard ∷ es) = fault_count es
fault_count (Fault pass kind ∷ es) = suc (fault_count es)

-- The disk's count of failures has risen by at least so many, or is at its maximum.
abbrev pub HasRisenBy : ℕ → ℕ → ℕ → Type 0
HasRisenBy n before now = min (before + n) (2 ^ 64 - 1) ≤ now

-- The store is the one of which the session was made, after steps that added these entries. The disk's count of failures rose by
-- at least the number of them that are failures of the disk, or is at its maximum.
pub record IsSince (start now : RecordedState) : Type 0 where
  pub since : List Entry
  pub steps : Steps start now since
  pub failures : HasRisenBy (fault_count since) start.store.faults now.store.faults
