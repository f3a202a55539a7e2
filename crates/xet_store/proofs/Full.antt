-- Where no further shard can be registered.
use Rattle.std.proofs.Common.{◌≡◌, ◌≢◌, ◌⊎◌, ◌∙◌, inl, inr, ◌+◌, ℕ, Bool, true, false, List, [], ◌∷◌, ◌++◌, length, Option, Result, Ok, Err, OnOk, IfErr, refl, sym, ap, arith, length-append}
use Rattle.std.proofs.lemmas.List.{append-nil, length-map}
use Rattle.std.specs.Prelude.{IsErr, if◌then◌else◌}
use Rattle.xet_hash.specs.Merkle.{xorb_hash}
use Rattle.xet_hash.specs.declared.error.StoreError.{StoreError}
use Rattle.xet_hash.specs.declared.error.StoreError.TheVariants.{TooLarge}
use Rattle.xet_hash.specs.declared.error.What.TheVariants.{Shards}
use Rattle.xet_history.specs.Core.{Core, RegisteredShard, is_cut_due, is_new, pending_hash}
use Rattle.xet_history.specs.History.{after, after_all, complete_cut, complete_entries, flush_entries, register_cut, register_entries}
use Rattle.xet_history.specs.declared.entry.Entry.{Entry}
use Rattle.xet_history.specs.declared.entry.Entry.TheVariants.{Complete, Flush, Register}
use Rattle.xet_history.specs.declared.entry.StepKind.{StepKind}
use Rattle.xet_history.specs.declared.entry.StepKind.TheVariants as kind
use Rattle.xet_history.specs.theorems.Staying.{Leaves, shards_after_all}
use Rattle.xet_io.specs.Disk.{Files}
use Rattle.xet_shard.specs.Held.{Held}
use Rattle.xet_shard_format.specs.RecordSizes.{file_record_size, xorb_record_size}
use Rattle.xet_shard_format.specs.Records.{file_record_hash}
use Rattle.xet_shard_format.specs.declared.record.MDBFileInfo.{MDBFileInfo}
use Rattle.xet_store_disk.specs.Flushing.{IsFull}
use Rattle.xet_store_disk.specs.Store.{State}
use Rattle.xet_xorb.specs.Raw.{xorb_record}
use Rattle.xet_store.specs.Recorded.{AreShards, RecordedState, core_of, recorded_state}
use Rattle.xet_store.specs.Steps.{IsFullError, IsOtherFile, Refuses, Steps, fault_entries}
use Rattle.xet_store.proofs.Changing.{flush_is}
use Rattle.xet_store.proofs.Moving.{pending_if}

-- a flush that failed so has done nothing
pub faults_full : (files : Files) (s t : State) (kept : List (Option Held)) (h : List Entry) {k : List Entry} (pass : ℕ) (kind : StepKind) (e : StoreError) → e ≡ TooLarge Shards → t ≡ s → k ≡ h ++ fault_entries pass kind e
    → (e ≡ TooLarge Shards) × (recorded_state t files kept k ≡ recorded_state s files kept h)
faults_full files s t kept h {k} pass kind e full same noted =
    let still : k ≡ h = noted ∙ ap (λ (x : StoreError). h ++ fault_entries pass kind x) full ∙ append-nil h in
    (full, λ i. recorded_state (same i) files kept (still i))

-- ---- a step with a flush is not completed

-- the entries begin with that of a flush
pub record Begins (pass : ℕ) (entries : List Entry) : Type 0 where
  pub shard : List ℕ
  pub rest : List Entry
  pub is : entries ≡ Flush pass shard ∷ rest

pub flush_begins : (s : RecordedState) (pass : ℕ) → IsFull s.store → Begins pass (flush_entries pass (core_of s))
flush_begins s pass full = record { shard = pending_hash (core_of s); rest = []; is = flush_is s pass (pending_if s.store.pending full.some) }

module _ (pass : ℕ) (c : Core) (target : ℕ) where
  abbrev flush : List Entry
  flush = Flush pass (pending_hash c) ∷ []

  -- if one is due before an entry of something new
  after_cut : (last known : Entry) (b d : Bool) → (if b then (if d then flush else []) else []) ≢ [] → (if b then (if d then flush else []) ++ last ∷ [] else known ∷ []) ≡ Flush pass (pending_hash c) ∷ last ∷ []
  after_cut last known true true some = refl
  after_cut last known true false some = absurd (some refl)
  after_cut last known false d some = absurd (some refl)

  pub register_begins : (leaves next : Leaves) → register_cut pass c target leaves ≢ [] → Begins pass (register_entries pass c target leaves next)
  register_begins leaves next some = record {
    shard = pending_hash c;
    rest = Register pass leaves next true ∷ [];
    is = after_cut (Register pass leaves next true) (Register pass leaves next false) (is_new c.xorbs (xorb_hash leaves)) (is_cut_due c target (xorb_record_size (xorb_record (xorb_hash leaves) leaves))) some;
  }

  pub complete_begins : (file : MDBFileInfo) → complete_cut pass c target file ≢ [] → Begins pass (complete_entries pass c target file)
  complete_begins file some = record {
    shard = pending_hash c;
    rest = Complete pass file true ∷ [];
    is = after_cut (Complete pass file true) (Complete pass file false) (is_new c.records (file_record_hash file)) (is_cut_due c target (file_record_size file)) some;
  }

counted : (s : RecordedState) → AreShards s.store s.shards → length s.shards ≡ length s.store.shards
counted s are = sym (length-map s.shards (λ (r : RegisteredShard). r.hash)) ∙ ap (λ (l : List (List ℕ)). length l) are.registered

-- for then there would be too many shards
no_room : (old new : RecordedState) (pass : ℕ) (entries : List Entry) → AreShards old.store old.shards → IsFull old.store → Begins pass entries → Steps old new entries → ⊥
no_room old new pass entries are full begins steps =
    let first : Core = after (core_of old) (Flush pass begins.shard) in
    let more = shards_after_all first begins.rest in
    let leads : core_of new ≡ after_all first begins.rest = steps.moves.leads ∙ ap (after_all (core_of old)) begins.is in
    let one : length first.shards ≡ length old.shards + 1 = length-append old.shards _ in
    let later = steps.shards are in
    omega (
      arith,
      ap (λ (d : Core). length d.shards) leads,
      ap (λ (l : List RegisteredShard). length l) more.1,
      length-append first.shards more.0,
      one,
      counted old are,
      counted new later,
      later.few,
      full.full,
    )

pub full_refused : {T : Type 0} (r : Result T StoreError) (old new : RecordedState) (pass : ℕ) (entries : List Entry) (Q : StoreError → Type 0) → AreShards old.store old.shards → IsFull old.store → Begins pass entries → OnOk r (Steps old new entries) → IfErr r Q → IsErr r × IfErr r Q
full_refused (Ok x) old new pass entries Q are full begins steps err = absurd (no_room old new pass entries are full begins steps)
full_refused (Err e) old new pass entries Q are full begins steps err = (refl, err)

pub other_or_full : (old new : RecordedState) (file : MDBFileInfo) (cut : List Entry) (e : StoreError) → IsFull old.store → cut ≢ [] → IsOtherFile old new file e ⊎ Refuses 0 kind.Complete cut old new e → IsOtherFile old new file e ⊎ IsFullError old new e
other_or_full old new file cut e full due (inl other) = inl other
other_or_full old new file cut e full due (inr refused) = inr (refused.full full (inr due))
