-- What a step of the store makes of the core.
use Rattle.std.proofs.Common.{◌≡◌, ◌≢◌, ◌↔◌, IfSome, ◌∙◌, ℕ, ◌+◌, Bool, true, false, nat_lt, List, [], ◌∷◌, ◌++◌, length, map, Option, Some, None, option_map, refl, sym, ap, subst, arith}
use Rattle.std.specs.Prelude.{if◌then◌else◌}
use Rattle.std.proofs.lemmas.Bool.{lt-ltb}
use Rattle.std.proofs.lemmas.List.{length-map, map-append}
use Rattle.xet_io.specs.Disk.{Files}
use Rattle.xet_hash.specs.declared.error.StoreError.{StoreError}
use Rattle.xet_hash.specs.declared.error.StoreError.TheVariants.{Io}
use Rattle.xet_hash.specs.declared.error.Place.TheVariants.{Disk}
use Rattle.xet_shard.specs.Held.{Held, held, held_shard, nothing}
use Rattle.xet_shard_format.specs.declared.record.MDBFileInfo.{MDBFileInfo}
use Rattle.xet_shard_format.specs.declared.record.MDBXorbInfo.{MDBXorbInfo}
use Rattle.xet_cut.specs.declared.limits.LimitSettings.{LimitSettings}
use Rattle.xet_history.specs.Core.{Core, flushed as flushed_core, has_pending, is_cut_due, pending_hash}
use Rattle.xet_history.specs.History.{Legal, Moves, Replays, after_all, cut_entries, flush_entries}
use Rattle.xet_history.specs.declared.entry.Entry.{Entry}
use Rattle.xet_history.specs.declared.entry.Entry.TheVariants.{Flush}
use Rattle.xet_history.specs.declared.entry.StepKind.{StepKind}
use Rattle.xet_history.specs.theorems.Entries.{due_has_pending}
use Rattle.xet_history.specs.theorems.Joining.{moves_nothing, replays_more}
use Rattle.xet_store_disk.specs.Cleaning.{Keeps}
use Rattle.xet_store_disk.specs.Flushing.{IsFlushed}
use Rattle.xet_store_disk.specs.Store.{State}
use Rattle.xet_store.specs.Recorded.{AreShards, IsRecorded, RecordedState, core_of, recorded_state, with_contents}
use Rattle.xet_store.specs.Steps.{Cuts, Flushes, Steps, fault_entries}
use Rattle.xet_store.specs.Changes.{ChangesFiles}
use Rattle.xet_store.specs.theorems.Changing.{changes_nothing}
use Rattle.xet_store.specs.theorems.Joining.{steps_nothing}
use Rattle.xet_store.proofs.Changing.{changes_flush}
use Rattle.xet_store.proofs.Contents.{contents_more, of_held}
use Rattle.xet_store.proofs.Standing.{shards_flushed, shards_kept}

-- ---- the history leads to the core still

-- after a step
pub recorded_more : (old new : RecordedState) (added : List Entry) → IsRecorded old → Steps old new added → IsRecorded new
recorded_more old new added is steps = record {
  shards = steps.shards is.shards;
  replays = subst (λ (t : Bool). Replays t (core_of new) new.history) (sym steps.keeps.tells) (replays_more old.store.tells (core_of old) (core_of new) old.history new.history added is.replays steps.moves);
}

-- ---- whether something is pending

pub pending_if : (p : Held) → p ≢ nothing → nat_lt 0 (length p.blocks + length p.files) ≡ true
pending_if p some = go p.blocks p.files some
  where
    go : (blocks : List MDBXorbInfo) (files : List MDBFileInfo) → held blocks files ≢ nothing → nat_lt 0 (length blocks + length files) ≡ true
    go [] [] none = absurd (none refl)
    go (b ∷ bs) fs none = lt-ltb 0 (length (b ∷ bs) + length fs) (omega arith)
    go [] (f ∷ fs) none = lt-ltb 0 (length {A = MDBXorbInfo} [] + length (f ∷ fs)) (omega arith)

-- ---- flushes

-- a step that registers no shard
pub contents_kept : (files : Files) (old new : State) (flushed : List (Option Held)) → Keeps old new → new.shards ≡ old.shards → AreShards old (with_contents files old.folder old.opened old.shards flushed)
    → AreShards new (with_contents files new.folder new.opened new.shards flushed)
contents_kept files old new flushed keeps same are =
    subst (AreShards new) (λ i. with_contents files (sym keeps.folder i) (sym keeps.opened i) (sym same i) flushed) (shards_kept old new keeps (with_contents files old.folder old.opened old.shards flushed) are same)

module _ (files : Files) (old new : State) (flushed : List (Option Held)) (history : List Entry) (keeps : Keeps old new) where
  abbrev before : RecordedState
  before = recorded_state old files flushed history

  -- a call that leaves the lists as they are
  module _ (pending : new.pending ≡ old.pending) (shards : new.shards ≡ old.shards) (xorbs : new.xorbs ≡ old.xorbs) (records : new.records ≡ old.records) where
    pub core_same : (more : List Entry) → core_of (recorded_state new files flushed more) ≡ core_of before
    core_same more = λ i. record {
      xorbs = xorbs i;
      records = records i;
      pending = pending i;
      shards = with_contents files (keeps.folder i) (keeps.opened i) (shards i) flushed;
      opened = keeps.opened i;
      index_cap = ap (λ (l : LimitSettings). l.index_cap) keeps.limits i;
    }

    shards_still : AreShards old before.shards → AreShards new (with_contents files new.folder new.opened new.shards flushed)
    shards_still are = contents_kept files old new flushed keeps shards are

    -- with no entry
    pub steps_same : Steps before (recorded_state new files flushed history) []
    steps_same = record {
      moves = subst (λ (c : Core). Moves old.tells (core_of before) c history history []) (sym (core_same history)) (moves_nothing old.tells (core_of before) history);
      keeps = keeps;
      shards = shards_still;
    }

    -- with the entry of a failure
    pub steps_fault : (pass : ℕ) (kind : StepKind) (e : StoreError) (more : List Entry) → more ≡ history ++ fault_entries pass kind e → Steps before (recorded_state new files flushed more) (fault_entries pass kind e)
    steps_fault pass kind e more added = record {
      moves = subst (λ (c : Core). Moves old.tells (core_of before) c history more (fault_entries pass kind e)) (sym (core_same more))
          (subst (λ (es : List Entry). Moves old.tells (core_of before) (core_of before) history es (fault_entries pass kind e)) (sym added)
          (record { history = refl; legal = go e; leads = leads e }));
      keeps = keeps;
      shards = shards_still;
    }
      where
        go : (x : StoreError) → Legal old.tells (core_of before) (fault_entries pass kind x)
        go (Io Disk) = (tt, tt)
        go x = tt

        leads : (x : StoreError) → core_of before ≡ after_all (core_of before) (fault_entries pass kind x)
        leads (Io Disk) = refl
        leads x = refl

-- nothing is pending
pub flush_idle : (s : RecordedState) (pass : ℕ) → s.store.pending ≡ nothing → flush_entries pass (core_of s) ≡ []
flush_idle s pass none =
    let idle : has_pending (core_of s) ≡ false = ap (λ (p : Held). nat_lt 0 (length p.blocks + length p.files)) none in
    ap (λ (b : Bool). if b then Flush pass (pending_hash (core_of s)) ∷ [] else []) idle

pub steps_idle : (s : RecordedState) (pass : ℕ) → s.store.pending ≡ nothing → Steps s s (flush_entries pass (core_of s))
steps_idle s pass none = subst (λ (es : List Entry). Steps s s es) (sym (flush_idle s pass none)) (steps_nothing s)

module _ (files : Files) (old new : State) (flushed : List (Option Held)) (history : List Entry) (keeps : Keeps old new) (h : List ℕ) (flush : IsFlushed old h new) (count : length flushed ≡ length old.shards) where
  abbrev core : Core
  core = core_of (recorded_state old files flushed history)

  abbrev later : List (Option Held)
  later = flushed ++ Some old.pending ∷ []

  hash_is : h ≡ pending_hash core
  hash_is = flush.hash

  shards_more : with_contents files new.folder new.opened new.shards later ≡ core.shards ++ of_held files old.folder old.opened h old.pending ∷ []
  shards_more = (λ i. with_contents files (keeps.folder i) (keeps.opened i) (flush.registered i) later) ∙ contents_more files old.folder old.opened old.shards flushed h old.pending count

  shards_are : with_contents files new.folder new.opened new.shards later ≡ (flushed_core core).shards
  shards_are =
      shards_more
      ∙ ap (λ (x : List ℕ). core.shards ++ record { hash = x; contents = held_shard old.pending old.opened None } ∷ []) hash_is

  core_flushed : (more : List Entry) → core_of (recorded_state new files later more) ≡ flushed_core core
  core_flushed more = λ i. record {
    xorbs = flush.xorbs i;
    records = flush.records i;
    pending = flush.nothing_pending i;
    shards = shards_are i;
    opened = keeps.opened i;
    index_cap = ap (λ (l : LimitSettings). l.index_cap) keeps.limits i;
  }

  -- with its entry
  pub steps_flush : (pass : ℕ) → old.pending ≢ nothing → (more : List Entry) → more ≡ history ++ Flush pass h ∷ []
      → Steps (recorded_state old files flushed history) (recorded_state new files later more) (flush_entries pass core)
  steps_flush pass some more added =
      let due : has_pending core ≡ true = pending_if old.pending some in
      let entries : flush_entries pass core ≡ Flush pass h ∷ [] = ap (λ (b : Bool). if b then Flush pass (pending_hash core) ∷ [] else []) due ∙ ap (λ (x : List ℕ). Flush pass x ∷ []) (sym hash_is) in
      subst (λ (es : List Entry). Steps (recorded_state old files flushed history) (recorded_state new files later more) es) (sym entries)
      (record { moves = record { history = added; legal = ((due, hash_is), tt); leads = core_flushed more }; keeps = keeps; shards = λ are. subst (AreShards new) (sym shards_more) (shards_flushed old new keeps core.shards are h flush) })

-- what is pushed beside what was kept
pub kept_pushed : {G : Type 0} (v : G → Held) (xs ys : List (Option G)) (g : G) (p : Held) → ys ≡ xs ++ Some g ∷ [] → v g ≡ p → map (option_map v) ys ≡ map (option_map v) xs ++ Some p ∷ []
kept_pushed v xs ys g p pushed is =
    ap (map (option_map v)) pushed ∙ map-append (option_map v) xs (Some g ∷ []) ∙ ap (λ (x : Held). map (option_map v) xs ++ Some x ∷ []) is

pub steps_pushed : {G : Type 0} (v : G → Held) (files : Files) (old new : State) (o : Option (List ℕ)) (h : List ℕ) → o ≡ Some h → Keeps old new → IfSome o (λ shard. IsFlushed old shard new) → (o ≡ None) ↔ (old.pending ≡ nothing)
    → (xs ys : List (Option G)) (g : G) (history more : List Entry) (pass : ℕ) → length xs ≡ length old.shards → ys ≡ xs ++ Some g ∷ [] → v g ≡ old.pending → more ≡ history ++ Flush pass h ∷ []
    → Flushes pass (recorded_state old files (map (option_map v) xs) history) (recorded_state new files (map (option_map v) ys) more)
steps_pushed v files old new o h some keeps flush none xs ys g history more pass count pushed is added = record {
  steps = subst (λ (fs : List (Option Held)). Steps (recorded_state old files (map (option_map v) xs) history) (recorded_state new files fs more) (flush_entries pass (core_of (recorded_state old files (map (option_map v) xs) history)))) (sym (kept_pushed v xs ys g old.pending pushed is))
      (steps_flush files old new (map (option_map v) xs) history keeps h flushed (length-map xs (option_map v) ∙ count) pass
      busy more added);
  changes = changes_flush (recorded_state old files (map (option_map v) xs) history) (recorded_state new files (map (option_map v) ys) more) h pass (pending_if old.pending busy)
      flushed;
  few = λ due. flushed.few;
}
  where
    flushed : IsFlushed old h new
    flushed = subst (λ (x : Option (List ℕ)). IfSome x (λ shard. IsFlushed old shard new)) some flush

    busy : old.pending ≢ nothing
    busy idle = let bad : ◌≡◌ {A = Option (List ℕ)} (Some h) None = sym some ∙ none.1 idle in cc bad

-- ---- cuts

module _ {G : Type 0} (v : G → Held) (files : Files) (s t : State) (xs ys : List (Option G)) (h k : List Entry) (pass bytes : ℕ) (b : Bool)
    (is : (core : Core) → core.pending ≡ s.pending → b ≡ is_cut_due core s.limits.shard_target bytes) where
  abbrev here : RecordedState
  here = recorded_state s files (map (option_map v) xs) h

  abbrev there : RecordedState
  there = recorded_state t files (map (option_map v) ys) k

  abbrev entry : List Entry
  entry = Flush pass (pending_hash (core_of here)) ∷ []

  cut_if : (c : Bool) → is_cut_due (core_of here) s.limits.shard_target bytes ≡ c → cut_entries pass (core_of here) s.limits.shard_target bytes ≡ (if c then entry else [])
  cut_if c due = ap (λ (x : Bool). if x then entry else []) due

  -- none is due
  pub steps_uncut : b ≡ false → Cuts pass bytes here here
  steps_uncut not_due = record { steps = subst (λ (es : List Entry). Steps here here es) (sym (cut_if false (sym (is (core_of here) refl) ∙ not_due))) (steps_nothing here); changes = changes_nothing [] here here _ refl; few = λ due. absurd (due (cut_if false (sym (is (core_of here) refl) ∙ not_due))) }

  -- one is due, and something was flushed
  pub steps_cut : b ≡ true → Flushes pass here there → Cuts pass bytes here there
  steps_cut due flushed =
      let cut : is_cut_due (core_of here) s.limits.shard_target bytes ≡ true = sym (is (core_of here) refl) ∙ due in
      let flush : flush_entries pass (core_of here) ≡ entry = ap (λ (x : Bool). if x then entry else []) (due_has_pending (core_of here) s.limits.shard_target bytes cut) in
      let entries = flush ∙ sym (cut_if true cut) in
      record { steps = subst (λ (es : List Entry). Steps here there es) entries flushed.steps; changes = subst (λ (es : List Entry). ChangesFiles [] here there es) entries flushed.changes; few = λ some. flushed.few (λ none. some (sym entries ∙ none)) }
