-- The calls of a store that one caller has alone, as what contracts see of it before and after.
use Rattle.std.proofs.Common.{◌≡◌, ◌≢◌, ◌⊎◌, inl, inr, ◌∙◌, ℕ, Bool, true, false, List, [], Option, Some, IfSome, sym, ap, subst}
use Rattle.xet_completion.specs.Completing.{Completes}
use Rattle.xet_dedup_queries.specs.Registering.{IsDue}
use Rattle.xet_folder.specs.Xorbs.{IsListed}
use Rattle.xet_hash.specs.Hash.{sentinel}
use Rattle.xet_hash.specs.Merkle.{xorb_hash}
use Rattle.xet_hash.specs.declared.error.StoreError.{StoreError}
use Rattle.xet_hash.specs.declared.error.StoreError.TheVariants.{OutOfMemory}
use Rattle.xet_history.specs.Core.{is_new}
use Rattle.xet_history.specs.Found.{found_run}
use Rattle.xet_history.specs.History.{complete_cut, complete_entries, query_entries, register_cut, register_entries}
use Rattle.xet_history.specs.Sound.{IsUsableRun}
use Rattle.xet_history.specs.declared.entry.StepKind.TheVariants.{Complete, Query, Register}
use Rattle.xet_shard.specs.Runs.{held_run}
use Rattle.xet_shard_format.specs.Records.{IsFile, file_record_hash}
use Rattle.xet_shard_format.specs.declared.record.FileDataSequenceEntry.{FileDataSequenceEntry as Segment}
use Rattle.xet_shard_format.specs.declared.record.MDBFileInfo.{MDBFileInfo}
use Rattle.xet_store.specs.Changes.{ChangesFiles, Tries}
use Rattle.xet_store.specs.Recorded.{IsRecorded, RecordedState, core_of}
use Rattle.xet_store.specs.Steps.{FailsAsking, IsOtherFile, Refuses, Steps}
use Rattle.xet_store.specs.theorems.Changing.{changes_unread, files_of_register}
use Rattle.xet_store.specs.theorems.Sound.{sound_core}
use Rattle.xet_store_disk.specs.Ranges.{IsUnchanged}
use Rattle.xet_store_disk.specs.Store.{Sound}
use Rattle.xet_store.specs.Alone.{AloneState, IsAlone, MayBeAsked, Step, alone_of, alone_state}
use Rattle.xet_store.specs.Holders.{Holder, xorb_limits}
use Rattle.xet_store.specs.Stepping.{SawComplete, SawError, SawOther, SawQuery, SawRegister, cut_to_complete, cut_to_register, no_cut}
use Rattle.xet_store.proofs.Failing.{alone_error, alone_other, alone_query_error, saw_error, saw_other, saw_query_error, saw_stopped}
use Rattle.xet_store.proofs.Seeing.{saw_complete, saw_query, saw_register}
use Rattle.xet_store.proofs.Steps.{alone_completed, alone_queried, alone_registered}

-- a recording failed
abbrev pub FailsCompleting : RecordedState → RecordedState → MDBFileInfo → StoreError → Type 0
FailsCompleting store new file e = IsOtherFile store new file e ⊎ Refuses 0 Complete (complete_cut 0 (core_of store) store.store.limits.shard_target file) store new e

-- the holder of a state
abbrev pub of_state : AloneState → Holder
of_state s = alone_of s.start s.store s.stopped

module _ (start store new : RecordedState) (stopped : Bool) (s : AloneState) (view : alone_state start store stopped ≡ s) (going : stopped ≡ false) (was : IsAlone start store stopped) where
  is : IsAlone start store false
  is = subst (IsAlone start store) going was

  -- what is so of the holders before and after
  completed : (P : Holder → Holder → Type 0) → P (alone_of start store false) (alone_of start new false) → P (of_state s) (alone_of start new stopped)
  completed P p = subst (λ (x : AloneState). P (of_state x) (alone_of start new stopped)) view (subst (λ (b : Bool). P (alone_of start store b) (alone_of start new b)) (sym going) p)

  ended : (P : Holder → Holder → Type 0) → P (alone_of start store false) (alone_of start new true) → P (of_state s) (alone_of start new true)
  ended P p = subst (λ (x : AloneState). P (of_state x) (alone_of start new true)) view (subst (λ (b : Bool). P (alone_of start store b) (alone_of start new true)) (sym going) p)

  goes_on : IsAlone start new false → IsAlone start new stopped
  goes_on alone = subst (IsAlone start new) (sym going) alone

  asked_here : (step : Step) → MayBeAsked s.start.store.limits step → MayBeAsked start.store.limits step
  asked_here step asked = subst (λ (x : AloneState). MayBeAsked x.start.store.limits step) (sym view) asked

  -- a query
  module _ (hashes : List (List ℕ)) (reply : Option (ℕ × Segment)) (steps : Steps store new (query_entries 0 hashes reply)) where
    pub query_alone : IsUnchanged store.store new.store → IsAlone start new stopped
    query_alone unchanged = goes_on (alone_queried start store is new hashes reply steps (changes_unread store new (query_entries 0 hashes reply) unchanged))

    pub query_seen : IfSome reply (IsUsableRun store.store.xorbs hashes) → ((run : ℕ × Segment) → held_run store.store.pending.blocks hashes ≡ Some run → reply ≡ Some run) → (store.store.tells ≡ true → reply ≡ found_run (core_of store) hashes) → Sound store.store → IsRecorded store
        → SawQuery hashes (of_state s) (alone_of start new stopped) reply
    query_seen usable pending found sound recorded = completed (λ a b. SawQuery hashes a b reply) (saw_query start store new is hashes reply steps usable pending found (sound_core store sound recorded))

  module _ (e : StoreError) (fails : FailsAsking 0 store new e) where
    pub query_stops : IsUnchanged store.store new.store → IsAlone start new true
    query_stops unchanged = alone_query_error start store new is e fails unchanged

    pub query_error : SawError Query no_cut (of_state s) (alone_of start new true) e
    query_error = ended (λ a b. SawError Query no_cut a b e) (saw_query_error start store new is e fails)

  -- a registration
  module _ (leaves next : List (List ℕ × ℕ)) (steps : Steps store new (register_entries 0 (core_of store) store.store.limits.shard_target leaves next)) where
    pub register_alone : MayBeAsked s.start.store.limits (Step.registers leaves) → IsDue (xorb_limits s.start.store.limits) leaves next → ChangesFiles [] store new (register_entries 0 (core_of store) store.store.limits.shard_target leaves next)
        → IsAlone start new stopped
    register_alone asked due changes =
        goes_on (alone_registered start store is new leaves next (asked_here (Step.registers leaves) asked) (subst (λ (x : AloneState). IsDue (xorb_limits x.start.store.limits) leaves next) (sym view) due) steps changes)

    pub register_seen : (added : Bool) → added ≡ is_new store.store.xorbs (xorb_hash leaves) → IsListed new.store.xorbs (xorb_hash leaves) leaves → xorb_hash leaves ≢ sentinel
        → SawRegister leaves next (of_state s) (alone_of start new stopped) added
    register_seen added new_hash listed named = completed (λ a b. SawRegister leaves next a b added) (saw_register start store new is leaves next added steps new_hash listed named)

  module _ (leaves : List (List ℕ × ℕ)) (e : StoreError) (fails : Refuses 0 Register (register_cut 0 (core_of store) store.store.limits.shard_target leaves) store new e) where
    pub register_stops : MayBeAsked s.start.store.limits (Step.registers leaves) → (next : List (List ℕ × ℕ)) → Tries store new (register_entries 0 (core_of store) store.store.limits.shard_target leaves next) → IsAlone start new true
    register_stops asked next tries =
        let target : ℕ = store.store.limits.shard_target in
        alone_error start store new is e (Step.registers leaves) fails (asked_here (Step.registers leaves) asked)
        (subst (λ (tried : List (List ℕ)). ChangesFiles tried store new []) (files_of_register store.store.folder 0 (core_of store) target leaves next []) tries)

    pub register_error : IsRecorded store → SawError Register (cut_to_register (of_state s) leaves) (of_state s) (alone_of start new true) e
    register_error recorded = ended (λ a b. SawError Register (cut_to_register a leaves) a b e)
        (saw_error start store new is e (Step.registers leaves) fails (λ bad. cc bad) recorded.shards)

  -- a recording
  module _ (file : MDBFileInfo) (steps : Steps store new (complete_entries 0 (core_of store) store.store.limits.shard_target file)) where
    pub complete_alone : IsFile file → Completes store.store.xorbs file → ChangesFiles [] store new (complete_entries 0 (core_of store) store.store.limits.shard_target file) → IsAlone start new stopped
    complete_alone form can changes = goes_on (alone_completed start store is new file form can steps changes)

    pub complete_seen : (added : Bool) → added ≡ is_new store.store.records (file_record_hash file) → Completes store.store.xorbs file → SawComplete file (of_state s) (alone_of start new stopped) added
    complete_seen added new_hash can = completed (λ a b. SawComplete file a b added) (saw_complete start store new is file added steps new_hash can)

  module _ (file : MDBFileInfo) (e : StoreError) where
    pub complete_stops : IsFile file → Tries store new (complete_entries 0 (core_of store) store.store.limits.shard_target file) → FailsCompleting store new file e → IsAlone start new true
    complete_stops form tries (inl other) = alone_other start store new is e file form other
    complete_stops form tries (inr fails) = alone_error start store new is e (Step.completes file) fails form tries

    pub complete_error : IsRecorded store → FailsCompleting store new file e → SawOther file (of_state s) (alone_of start new true) e ⊎ SawError Complete (cut_to_complete (of_state s) file) (of_state s) (alone_of start new true) e
    complete_error recorded (inl other) = inl (ended (λ a b. SawOther file a b e) (saw_other start store new is e file other))
    complete_error recorded (inr fails) = inr (ended (λ a b. SawError Complete (cut_to_complete a file) a b e) (saw_error start store new is e (Step.completes file) fails (λ bad. cc bad) recorded.shards))

-- it has stopped, and makes no step
pub complete_refused : (start store : RecordedState) (stopped : Bool) (s : AloneState) → alone_state start store stopped ≡ s → stopped ≡ true → (file : MDBFileInfo)
    → SawOther file (of_state s) (of_state s) OutOfMemory ⊎ SawError Complete (cut_to_complete (of_state s) file) (of_state s) (of_state s) OutOfMemory
complete_refused start store has s view stopped file = inr (saw_stopped Complete (cut_to_complete (of_state s) file) (of_state s) (sym (ap (λ (x : AloneState). x.stopped) view) ∙ stopped))
