-- What a call that failed has added, and that the history still leads to the core after each call.
use Rattle.std.proofs.Common.{◌≡◌, ◌≢◌, ◌⊎◌, ◌∙◌, inl, inr, ℕ, ◌<◌, ◌≤◌, List, [], ◌∷◌, ◌++◌, length, map, Option, option_map, Result, Ok, Err, OnOk, OnErr, IfErr, refl, sym, ap, subst, arith}
use Rattle.std.specs.Result.{IsErrAnd}
use Rattle.xet_base.specs.theorems.Exits.{exit_with}
use Rattle.xet_codec.specs.Stops.{HasDiskReason}
use Rattle.xet_folder.specs.Contents.{max_shards}
use Rattle.xet_hash.specs.declared.error.StoreError.{StoreError}
use Rattle.xet_hash.specs.declared.error.StoreError.TheVariants.{Io, OutOfMemory, TooLarge}
use Rattle.xet_hash.specs.declared.error.Place.TheVariants.{Disk}
use Rattle.xet_hash.specs.declared.error.What.TheVariants.{Shards}
use Rattle.xet_io.specs.Disk.{Files}
use Rattle.xet_shard.specs.Held.{Held}
use Rattle.xet_shard_file.specs.theorems.Exits.{rose_before}
use Rattle.xet_history.specs.declared.entry.Entry.{Entry}
use Rattle.xet_history.specs.declared.entry.StepKind.{StepKind}
use Rattle.xet_history.specs.declared.entry.StepKind.TheVariants.{Flush}
use Rattle.xet_store_disk.specs.Flushing.{IsFlushError, IsFull}
use Rattle.xet_shard_registry.specs.Collections.{Tables}
use Rattle.xet_store_disk.specs.Ranges.{IsUnchanged}
use Rattle.xet_store_disk.specs.Store.{State}
use Rattle.xet_store.specs.Asking.{HasRegistry}
use Rattle.xet_store.specs.Recorded.{IsRecorded, RecordedState, recorded_state}
use Rattle.xet_store.specs.Steps.{Faults, IsStepError, Refuses, Steps, fault_entries}
use Rattle.xet_store.specs.theorems.Joining.{steps_nothing}
use Rattle.xet_store.proofs.Answering.{has_kept, has_unchanged}
use Rattle.xet_store.proofs.Moving.{recorded_more}
use Rattle.xet_store.proofs.Joining.{steps_then}

-- an error that has a reason from a later time on has it from an earlier one on
pub reason_before : (earlier before now : ℕ) (e : StoreError) → earlier ≤ before → HasDiskReason before now e → HasDiskReason earlier now e
reason_before earlier before now (Io Disk) less rose = rose_before before now earlier less rose
reason_before earlier before now OutOfMemory less rose = tt
reason_before earlier before now e less bad = absurd bad

-- the exit with the error of a call that fails only if memory is out
pub exit_of_memory : {T : Type 0} (P : StoreError → Type 0) (r : Result T StoreError) (e : StoreError) → IsErrAnd r (λ y. y ≡ e) → e ≡ OutOfMemory → P OutOfMemory → IfErr r P
exit_of_memory P r e exit memory p = exit_with P r OutOfMemory (subst (λ (x : StoreError). IsErrAnd r (λ y. y ≡ x)) memory exit) p

-- the errors of a flush that is asked for or due, and those of the disk, are errors of a step
step_of_flush : (kind : StepKind) (cut : List Entry) (s : State) (after : ℕ) (e : StoreError) → (kind ≡ Flush) ⊎ (cut ≢ []) → IsFlushError s after e → IsStepError kind cut s after e
step_of_flush kind cut s after (TooLarge Shards) due full = (full, due)
step_of_flush kind cut s after e due is = is

step_of_disk : (kind : StepKind) (cut : List Entry) (s : State) (after : ℕ) (e : StoreError) → HasDiskReason s.faults after e → IsStepError kind cut s after e
step_of_disk kind cut s after (TooLarge Shards) bad = absurd bad
step_of_disk kind cut s after e is = is

module _ (pass : ℕ) (kind : StepKind) (cut : List Entry) where
  -- out of memory before anything was done
  pub refuses_memory : (s t : RecordedState) → t ≡ s → Refuses pass kind cut s t OutOfMemory
  refuses_memory s t same = record { done = []; completed = inl refl; steps = subst (λ (x : RecordedState). Steps s x []) (sym same) (steps_nothing s); reason = tt; full = λ full due. (inr refl, same) }

  -- a failure before a cut was completed
  pub refuses_first : (s t : RecordedState) (e : StoreError) → (kind ≡ Flush) ⊎ (cut ≢ []) → Faults pass kind s t e → Refuses pass kind cut s t e
  refuses_first s t e due failed = record { done = []; completed = inl refl; steps = failed.steps; reason = step_of_flush kind cut s.store t.store.faults e due failed.reason; full = λ full asked. (inl (failed.full full).0, (failed.full full).1) }

  -- a failure after it, so that a further shard could be registered
  pub refuses_then : (a b c : RecordedState) (e : StoreError) → kind ≢ Flush → (cut ≢ [] → length a.store.shards < max_shards) → Steps a b cut → Steps b c (fault_entries pass kind e) → HasDiskReason b.store.faults c.store.faults e → Refuses pass kind cut a c e
  refuses_then a b c e other few first then reason = record {
    done = cut;
    completed = inr refl;
    steps = steps_then a b c cut (fault_entries pass kind e) first then;
    reason = step_of_disk kind cut a.store c.store.faults e (reason_before a.store.faults b.store.faults c.store.faults e first.keeps.later reason);
    full = λ full due. absurd (go full due);
  }
    where
      go : IsFull a.store → (kind ≡ Flush) ⊎ (cut ≢ []) → ⊥
      go full (inl flush) = other flush
      go full (inr due) = let less = few due in omega (arith, less, full.full)

module _ {G : Type 0} (v : G → Held) (files : Files) where
  abbrev at : State → List (Option G) → List Entry → RecordedState
  at s xs h = recorded_state s files (map (option_map v) xs) h

  -- room that was taken changes nothing
  pub same_view : (s : State) (seen : RecordedState) {xs ys : List (Option G)} {h k : List Entry} → at s xs h ≡ seen → ys ≡ xs → k ≡ h → at s ys k ≡ seen
  same_view s seen {xs} {ys} {h} {k} is kept history = (λ i. at s (kept i) (history i)) ∙ is

  pub same_view_kept : (s t : State) (seen : RecordedState) {xs ys : List (Option G)} {h k : List Entry} → at s xs h ≡ seen → t ≡ s → ys ≡ xs → k ≡ h → at t ys k ≡ seen
  same_view_kept s t seen {xs} {ys} {h} {k} is same kept history = (λ i. at (same i) (kept i) (history i)) ∙ is

  pub recorded_same : (s t : State) (zs : List (Option G)) (g : List Entry) {tables : Tables} → t ≡ s → (length zs ≡ length s.shards) × IsRecorded (at s zs g) × HasRegistry s tables
      → (length zs ≡ length t.shards) × IsRecorded (at t zs g) × HasRegistry t tables
  recorded_same s t zs g {tables} same was = subst (λ (x : State). (length zs ≡ length x.shards) × IsRecorded (at x zs g) × HasRegistry x tables) (sym same) was

  -- the history leads to the core after a call, whether it failed or not
  pub recorded_after : {T : Type 0} (r : Result T StoreError) (s t : State) {zs xs : List (Option G)} (ys : List (Option G)) {g h k : List Entry} {tables : Tables} (P : Type 0) (Q : StoreError → Type 0)
      → (length zs ≡ length s.shards) × IsRecorded (at s zs g) × HasRegistry s tables → xs ≡ zs → h ≡ g → length ys ≡ length t.shards → OnOk r P → IfErr r Q
      → (P → (es : List Entry) × Steps (at s xs h) (at t ys k) es) → ((e : StoreError) → Q e → (es : List Entry) × Steps (at s xs h) (at t ys k) es)
      → (length ys ≡ length t.shards) × IsRecorded (at t ys k) × HasRegistry t tables
  recorded_after {T} r s t {zs} {xs} ys {g} {h} {k} {tables} P Q was kept history count ok err on_ok on_err = let after = go r ok err in (count, after.0, after.1)
    where
      before : IsRecorded (at s xs h)
      before = subst (λ (x : RecordedState). IsRecorded x) (λ i. at s ((sym kept) i) ((sym history) i)) was.1

      more : (es : List Entry) × Steps (at s xs h) (at t ys k) es → IsRecorded (at t ys k) × HasRegistry t tables
      more step = (recorded_more (at s xs h) (at t ys k) step.0 before step.1, has_kept s t step.1.keeps tables was.2)

      go : (r : Result T StoreError) → OnOk r P → IfErr r Q → IsRecorded (at t ys k) × HasRegistry t tables
      go (Ok x) ok err = more (on_ok ok)
      go (Err e) ok err = more (on_err e err)

  -- what a call has done, for what is seen of the store
  pub steps_seen : {T : Type 0} (r : Result T StoreError) (s t : State) (seen : RecordedState) {zs xs : List (Option G)} (ys : List (Option G)) {g h k : List Entry} (P : Type 0) (entries : RecordedState → List Entry)
      → at s zs g ≡ seen → xs ≡ zs → h ≡ g → OnOk r P → (P → Steps (at s xs h) (at t ys k) (entries (at s xs h))) → OnOk r (Steps seen (at t ys k) (entries seen))
  steps_seen {T} r s t seen {zs} {xs} ys {g} {h} {k} P entries is kept history ok on_ok = go r ok
    where
      go : (r : Result T StoreError) → OnOk r P → OnOk r (Steps seen (at t ys k) (entries seen))
      go (Ok x) p = subst (λ (x : RecordedState). Steps x (at t ys k) (entries x)) (same_view s seen is kept history) (on_ok p)
      go (Err e) p = tt

  -- how it failed
  pub refuses_seen : {T : Type 0} (r : Result T StoreError) (s t : State) (seen : RecordedState) {zs xs : List (Option G)} (ys : List (Option G)) {g h k : List Entry} (Q : StoreError → Type 0)
      (R : RecordedState → RecordedState → StoreError → Type 0) → at s zs g ≡ seen → xs ≡ zs → h ≡ g → IfErr r Q → ((e : StoreError) → Q e → R (at s xs h) (at t ys k) e) → IfErr r (R seen (at t ys k))
  refuses_seen {T} r s t seen {zs} {xs} ys {g} {h} {k} Q R is kept history err on_err = go r err
    where
      go : (r : Result T StoreError) → IfErr r Q → IfErr r (R seen (at t ys k))
      go (Ok x) q = tt
      go (Err e) q = subst (λ (x : RecordedState). R x (at t ys k) e) (same_view s seen is kept history) (on_err e q)

  -- what holds of what is seen of the store and of what it is after a call
  pub ok_seen : {T : Type 0} (r : Result T StoreError) (s t : State) (seen : RecordedState) {zs xs : List (Option G)} (ys : List (Option G)) {g h k : List Entry} (P : Type 0) (R : RecordedState → RecordedState → Type 0)
      → at s zs g ≡ seen → xs ≡ zs → h ≡ g → OnOk r P → (P → R (at s xs h) (at t ys k)) → OnOk r (R seen (at t ys k))
  ok_seen {T} r s t seen {zs} {xs} ys {g} {h} {k} P R is kept history ok on_ok = go r ok
    where
      go : (r : Result T StoreError) → OnOk r P → OnOk r (R seen (at t ys k))
      go (Ok x) p = subst (λ (x : RecordedState). R x (at t ys k)) (same_view s seen is kept history) (on_ok p)
      go (Err e) p = tt

  pub err_seen : {T : Type 0} (r : Result T StoreError) (s t : State) (seen : RecordedState) {zs xs : List (Option G)} (ys : List (Option G)) {g h k : List Entry} (Q : StoreError → Type 0)
      (R : RecordedState → RecordedState → Type 0) → at s zs g ≡ seen → xs ≡ zs → h ≡ g → IfErr r Q → ((e : StoreError) → Q e → R (at s xs h) (at t ys k)) → OnErr r (R seen (at t ys k))
  err_seen {T} r s t seen {zs} {xs} ys {g} {h} {k} Q R is kept history err on_err = go r err
    where
      go : (r : Result T StoreError) → IfErr r Q → OnErr r (R seen (at t ys k))
      go (Ok x) q = tt
      go (Err e) q = subst (λ (x : RecordedState). R x (at t ys k)) (same_view s seen is kept history) (on_err e q)

  -- an entry that is added to what is seen of a store
  pub pushed_seen : (s : State) (seen : RecordedState) {zs ys : List (Option G)} {g k : List Entry} (e : Entry) → at s zs g ≡ seen → ys ≡ zs → k ≡ g ++ e ∷ [] → at s ys k ≡ record seen { history = seen.history ++ e ∷ [] }
  pushed_seen s seen {zs} {ys} {g} {k} e is kept history = (λ i. at s (kept i) (history i)) ∙ ap (λ (x : RecordedState). record x { history = x.history ++ e ∷ [] }) is

  -- the history leads to the core after a step of the store that changes its history alone
  pub recorded_pushed : (s : State) {zs : List (Option G)} (ys : List (Option G)) {g k : List Entry} {tables : Tables} (es : List Entry) → (length zs ≡ length s.shards) × IsRecorded (at s zs g) × HasRegistry s tables → ys ≡ zs
      → Steps (at s zs g) (at s ys k) es → (length ys ≡ length s.shards) × IsRecorded (at s ys k) × HasRegistry s tables
  recorded_pushed s {zs} ys {g} {k} es was kept step = (ap (λ (x : List (Option G)). length x) kept ∙ was.0, recorded_more (at s zs g) (at s ys k) es was.1 step, was.2)

  -- the disk's count of failures does not matter
  pub recorded_unchanged : (s t : State) (zs : List (Option G)) (g : List Entry) {tables : Tables} → IsUnchanged s t → (length zs ≡ length s.shards) × IsRecorded (at s zs g) × HasRegistry s tables
      → (length zs ≡ length t.shards) × IsRecorded (at t zs g) × HasRegistry t tables
  recorded_unchanged s t zs g {tables} unchanged was =
      let are = was.1.shards in
      let now = subst (λ (x : State). (length zs ≡ length x.shards) × IsRecorded (at x zs g)) (sym unchanged.is)
      (was.0, record { shards = record { registered = are.registered; stand = are.stand; differ = are.differ; few = are.few }; replays = was.1.replays }) in
      (now.0, now.1, has_unchanged s t tables unchanged was.2)
