-- Queries: the run that is found, the entry, and that nothing else changes.
use Rattle.std.proofs.Common.{◌≡◌, ◌≢◌, ◌∙◌, ℕ, ◌≤◌, Bool, true, false, List, [], ◌∷◌, ◌++◌, length, Option, Some, None, Result, Ok, Err, IfErr, IfOk, IfSome, refl, sym, ap, subst, arith}
use Rattle.std.specs.Prelude.{◌==◌}
use Rattle.std.proofs.lemmas.Bool.{eqb-true}
use Rattle.std.proofs.lemmas.List.{nil_from_length}
use Rattle.std.proofs.lemmas.List.Elements.{All-from_recursion}
use Rattle.std.specs.List.{AllPairs}
use Rattle.std.specs.Result.{IsErrAnd}
use Rattle.xet_base.specs.theorems.Elements.{all_more}
use Rattle.xet_core_runs.specs.Shards.{AreShardsOf}
use Rattle.xet_folder.specs.Contents.{max_shards}
use Rattle.xet_folder.specs.Xorbs.{Xorbs}
use Rattle.xet_hash.specs.declared.error.StoreError.{StoreError}
use Rattle.xet_hash.specs.declared.error.StoreError.TheVariants.{Io, MalformedData, OutOfMemory}
use Rattle.xet_hash.specs.declared.error.Place.TheVariants.{Disk}
use Rattle.xet_history.specs.Core.{Core}
use Rattle.xet_history.specs.Found.{found_run}
use Rattle.xet_history.specs.History.{Legal, after_all, query_entries, reply_of, stated}
use Rattle.xet_history.specs.Sound.{IsUsableRun}
use Rattle.xet_history.specs.declared.entry.Entry.{Entry}
use Rattle.xet_history.specs.declared.entry.StepKind.TheVariants.{Query}
use Rattle.xet_history.specs.theorems.Finding.{stated_suffice}
use Rattle.xet_io.specs.Disk.{Files}
use Rattle.xet_shard.specs.Held.{Held}
use Rattle.xet_shard.specs.Runs.{held_run}
use Rattle.xet_shard_format.specs.declared.record.MDBXorbInfo.{MDBXorbInfo}
use Rattle.xet_shard_file.specs.theorems.Exits.{rose_before}
use Rattle.xet_shard_lookup.specs.Found.{Run, found}
use Rattle.xet_shard_registry.specs.Collections.{IsRegistryOf, Tables}
use Rattle.xet_shard_registry.specs.Registered.{Registered}
use Rattle.xet_store_disk.specs.Asking.{AreOwnShards, IsAskingError, IsOwnShard}
use Rattle.xet_store_disk.specs.Cleaning.{Keeps}
use Rattle.xet_store_disk.specs.Ranges.{IsUnchanged}
use Rattle.xet_store_disk.specs.Store.{State}
use Rattle.xet_store_disk.specs.theorems.Keeping.{keeps_counted}
use Rattle.xet_store.specs.Asking.{HasRegistry, IsFoundIn}
use Rattle.xet_store.specs.Recorded.{IsRecorded, RecordedState, core_of, recorded_state, with_contents}
use Rattle.xet_store.specs.Steps.{FailsAsking, Steps, fault_entries}
use Rattle.xet_store.specs.theorems.Joining.{steps_nothing}
use Rattle.xet_store.proofs.Answering.{Determines, all_registered, are_shards_of}
use Rattle.xet_store.proofs.Moving.{contents_kept, core_same, recorded_more, steps_fault}

abbrev pub Hashes : Type 0
Hashes = List (List ℕ)

abbrev pub Answer : Type 0
Answer = Result (Option Run) StoreError

-- ---- calls that change only the disk's count of failures

pub unchanged_same : (s : State) → IsUnchanged s s
unchanged_same s = record { is = refl; later = omega arith }

pub unchanged_then : (a b c : State) → IsUnchanged a b → IsUnchanged b c → IsUnchanged a c
unchanged_then a b c first then = record {
  is = then.is ∙ ap (λ (s : State). record s { faults = c.faults }) first.is;
  later = omega (arith, first.later, then.later);
}

-- an error that has a reason from a later time on has it from an earlier one on
pub asking_before : (tells : Bool) (earlier before now : ℕ) (e : StoreError) → earlier ≤ before → IsAskingError tells before now e → IsAskingError tells earlier now e
asking_before tells earlier before now (Io Disk) less rose = rose_before before now earlier less rose
asking_before tells earlier before now (MalformedData reason) less unseen = unseen
asking_before tells earlier before now OutOfMemory less out = tt
asking_before tells earlier before now e less bad = absurd bad

module _ (old new : State) (unchanged : IsUnchanged old new) where
  pub fails_before : (now : ℕ) (e : StoreError) → IsAskingError new.tells new.faults now e → IsAskingError old.tells old.faults now e
  fails_before now e bad =
      asking_before old.tells old.faults new.faults now e unchanged.later
      (subst (λ (b : Bool). IsAskingError b new.faults now e) (ap (λ (s : State). s.tells) unchanged.is) bad)

  -- no two registered shards have the same hash, and there are no more than can be registered
  pub differ_still : (old.tells ≡ true → AllPairs (λ a b. a ≢ b) old.shards) → new.tells ≡ true → AllPairs (λ a b. a ≢ b) new.shards
  differ_still differ = subst (λ (s : State). s.tells ≡ true → AllPairs (λ (a b : List ℕ). a ≢ b) s.shards) (sym unchanged.is) differ

  pub few_still : length old.shards ≤ max_shards → length new.shards ≤ max_shards
  few_still few = subst (λ (s : State). length s.shards ≤ max_shards) (sym unchanged.is) few

  pub same_count : length new.shards ≡ length old.shards
  same_count = ap (λ (s : State). length s.shards) unchanged.is

  abbrev counted : State
  counted = record old { faults = new.faults }

  own_before : (r : Registered) → IsOwnShard counted r → IsOwnShard old r
  own_before r own = record { among = own.among; path = own.path; bytes = own.bytes; there = own.there; encoding = own.encoding }

  found_before : (query : Hashes) (run : Option Run) → IsFoundIn new query run → IsFoundIn old query run
  found_before query run is =
      let f : IsFoundIn counted query run = subst (λ (s : State). IsFoundIn s query run) unchanged.is is in
      record { registered = f.registered; built = f.built; all = f.all; own = all_more (IsOwnShard counted) (IsOwnShard old) f.registered own_before f.own; is = f.is }

  -- ---- a query after all registered shards were added to the index

  -- the run
  pub finds_all : (t : Tables) (query : Hashes) (r : Answer) (has : HasRegistry new t) → length t.files ≡ length new.shards
      → (new.tells ≡ true → (shards : List Registered) → IsRegistryOf shards t → AreOwnShards new shards → IfOk r (λ run. run ≡ found new.files new.pending shards query)) → old.tells ≡ true → IfOk r (IsFoundIn old query)
  finds_all t query r has all finds told = go r (finds now has.registered has.is (All-from_recursion (IsOwnShard new) has.registered (has.own now)))
    where
      now : new.tells ≡ true
      now = ap (λ (s : State). s.tells) unchanged.is ∙ told

      go : (r : Answer) → IfOk r (λ run. run ≡ found new.files new.pending has.registered query) → IfOk r (IsFoundIn old query)
      go (Ok run) is = found_before query run (record { registered = has.registered; built = has.built; all = all_registered new t has all; own = has.own now; is = is })
      go (Err e) is = tt

  -- that of what is pending
  pub finds_pending : (query : Hashes) (r : Answer) (last : State) → ((run : Run) → held_run new.pending.blocks query ≡ Some run → (r ≡ Ok (Some run)) × (last ≡ new)) → (run : Run) → held_run old.pending.blocks query ≡ Some run
      → IfOk r (λ found. found ≡ Some run)
  finds_pending query r last finds run held =
      let there : held_run new.pending.blocks query ≡ Some run = ap (λ (s : State). held_run s.pending.blocks query) unchanged.is ∙ held in
      subst (λ (x : Answer). IfOk x (λ found. found ≡ Some run)) (sym (finds run there).0) refl

  -- it may stand in a plan
  pub finds_usable : (query : Hashes) (r : Answer) → IfOk r (λ run. IfSome run (IsUsableRun new.xorbs query)) → IfOk r (λ run. IfSome run (IsUsableRun old.xorbs query))
  finds_usable query r lies = subst (λ (xorbs : Xorbs). IfOk r (λ run. IfSome run (IsUsableRun xorbs query))) (ap (λ (s : State). s.xorbs) unchanged.is) lies

  -- the errors
  pub fails_all : (t : Tables) (now : ℕ) (r : Answer) → HasRegistry new t → ((shards : List Registered) → IsRegistryOf shards t → (new.tells ≡ true → AreOwnShards new shards) → IfErr r (IsAskingError new.tells new.faults now))
      → IfErr r (IsAskingError old.tells old.faults now)
  fails_all t now r has fails = go r (fails has.registered has.is (λ told. All-from_recursion (IsOwnShard new) has.registered (has.own told)))
    where
      go : (r : Answer) → IfErr r (IsAskingError new.tells new.faults now) → IfErr r (IsAskingError old.tells old.faults now)
      go (Ok run) bad = tt
      go (Err e) bad = fails_before now e bad

-- ---- the entry

legal_query : (tells : Bool) (c : Core) (pass : ℕ) (query : Hashes) (run : Option Run) → (tells ≡ true → run ≡ found_run c query) → Legal tells c (query_entries pass query run)
legal_query tells c pass [] run is = tt
legal_query tells c pass (h ∷ hs) run is = (
  λ told. subst (λ (x : Option Run). reply_of x ≡ reply_of (found_run c (stated (h ∷ hs) x))) (sym (is told)) (ap reply_of (sym (stated_suffice c (h ∷ hs)))),
  tt,
)

query_leads : (c : Core) (pass : ℕ) (query : Hashes) (run : Option Run) → c ≡ after_all c (query_entries pass query run)
query_leads c pass [] run = refl
query_leads c pass (h ∷ hs) run = refl

-- the run in the index of all registered shards is that in the core
abbrev pub Finds : Type 0
Finds = (files : Files) (c : Core) (shards : List Registered) (query : Hashes) → AreShardsOf files c shards → found files c.pending shards query ≡ found_run c query

module _ (files : Files) (old new : State) (flushed : List (Option Held)) (history : List Entry) (unchanged : IsUnchanged old new) where
  abbrev before : RecordedState
  before = recorded_state old files flushed history

  abbrev after : List Entry → RecordedState
  after more = recorded_state new files flushed more

  keeps : Keeps old new
  keeps = subst (λ (s : State). Keeps old s) (sym unchanged.is) (keeps_counted old new.faults unchanged.later)

  same_shards : new.shards ≡ old.shards
  same_shards = ap (λ (s : State). s.shards) unchanged.is

  same_core : (more : List Entry) → core_of (after more) ≡ core_of before
  same_core more =
      core_same files old new flushed history keeps (ap (λ (s : State). s.pending) unchanged.is) same_shards (ap (λ (s : State). s.xorbs) unchanged.is) (ap (λ (s : State). s.records) unchanged.is) more

  steps_asked : (pass : ℕ) (query : Hashes) (run : Option Run) (more : List Entry) → more ≡ history ++ query_entries pass query run → (old.tells ≡ true → run ≡ found_run (core_of before) query)
      → Steps before (after more) (query_entries pass query run)
  steps_asked pass query run more added is = record {
    moves = record { history = added; legal = legal_query old.tells (core_of before) pass query run is; leads = same_core more ∙ query_leads (core_of before) pass query run };
    keeps = keeps;
    shards = λ are. contents_kept files old new flushed keeps same_shards are;
  }

  steps_failed : (pass : ℕ) (e : StoreError) (more : List Entry) → more ≡ history ++ fault_entries pass Query e → Steps before (after more) (fault_entries pass Query e)
  steps_failed pass e more added =
      steps_fault files old new flushed history keeps (ap (λ (s : State). s.pending) unchanged.is) same_shards (ap (λ (s : State). s.xorbs) unchanged.is) (ap (λ (s : State). s.records) unchanged.is) pass Query e more added

  -- the run that is found is that in the core
  module _ (law : Determines) (finds : Finds) (recorded : IsRecorded before) (query : Hashes) where
    found_in : (run : Option Run) → old.tells ≡ true → IsFoundIn old query run → run ≡ found_run (core_of before) query
    found_in run told f =
        f.is
        ∙ finds old.files (core_of before) f.registered query (are_shards_of law old (core_of before) refl recorded.shards.registered (recorded.shards.stand told) f.registered f.built f.all f.own)

    pub query_found : (seen : RecordedState) → before ≡ seen → (r : Answer) → (old.tells ≡ true → IfOk r (IsFoundIn old query)) → seen.store.tells ≡ true → IfOk r (λ run. run ≡ found_run (core_of seen) query)
    query_found seen is r found told = subst (λ (x : RecordedState). IfOk r (λ run. run ≡ found_run (core_of x) query)) is (go r (found here))
      where
        here : old.tells ≡ true
        here = ap (λ (x : RecordedState). x.store.tells) is ∙ told

        go : (r : Answer) → IfOk r (IsFoundIn old query) → IfOk r (λ run. run ≡ found_run (core_of before) query)
        go (Ok run) f = found_in run here f
        go (Err e) f = tt

    -- the entry of an answer
    pub query_steps : (seen : RecordedState) → before ≡ seen → (pass : ℕ) (h k : List Entry) → h ≡ history → (r : Answer) → (old.tells ≡ true → IfOk r (IsFoundIn old query)) → IfOk r (λ run. k ≡ h ++ query_entries pass query run)
        → IfOk r (λ run. Steps seen (after k) (query_entries pass query run))
    query_steps seen is pass h k kept r found noted = subst (λ (x : RecordedState). IfOk r (λ run. Steps x (after k) (query_entries pass query run))) is (go r found noted)
      where
        go : (r : Answer) → (old.tells ≡ true → IfOk r (IsFoundIn old query)) → IfOk r (λ run. k ≡ h ++ query_entries pass query run) → IfOk r (λ run. Steps before (after k) (query_entries pass query run))
        go (Ok run) found noted = steps_asked pass query run k (noted ∙ ap (λ (es : List Entry). es ++ query_entries pass query run) kept) (λ told. found_in run told (found told))
        go (Err e) found noted = tt

    -- the history leads to the core afterwards
    pub query_recorded : (pass : ℕ) (h k : List Entry) → h ≡ history → (r : Answer) → (old.tells ≡ true → IfOk r (IsFoundIn old query)) → IfOk r (λ run. k ≡ h ++ query_entries pass query run)
        → IfErr r (λ e. k ≡ h ++ fault_entries pass Query e) → IsRecorded (after k)
    query_recorded pass h k kept (Ok run) found noted fault =
        recorded_more before (after k) (query_entries pass query run) recorded (steps_asked pass query run k (noted ∙ ap (λ (es : List Entry). es ++ query_entries pass query run) kept) (λ told. found_in run told (found told)))
    query_recorded pass h k kept (Err e) found noted fault =
        recorded_more before (after k) (fault_entries pass Query e) recorded (steps_failed pass e k (fault ∙ ap (λ (es : List Entry). es ++ fault_entries pass Query e) kept))

  -- the entry of a failure
  pub query_fails : (seen : RecordedState) → before ≡ seen → (pass : ℕ) (h k : List Entry) → h ≡ history → (r : Answer) → IfErr r (λ e. k ≡ h ++ fault_entries pass Query e) → IfErr r (IsAskingError old.tells old.faults new.faults)
      → IfErr r (FailsAsking pass seen (after k))
  query_fails seen is pass h k kept r fault reason = subst (λ (x : RecordedState). IfErr r (FailsAsking pass x (after k))) is (go r fault reason)
    where
      go : (r : Answer) → IfErr r (λ e. k ≡ h ++ fault_entries pass Query e) → IfErr r (IsAskingError old.tells old.faults new.faults) → IfErr r (FailsAsking pass before (after k))
      go (Ok run) fault reason = tt
      go (Err e) fault reason = record { steps = steps_failed pass e k (fault ∙ ap (λ (es : List Entry). es ++ fault_entries pass Query e) kept); reason = reason }

  -- the rest stays
  pub query_keeps : (seen : RecordedState) → before ≡ seen → IsUnchanged seen.store new
  query_keeps seen is = subst (λ (x : RecordedState). IsUnchanged x.store new) is unchanged

  pub query_shards : (seen : RecordedState) (k : List Entry) → before ≡ seen → (after k).shards ≡ seen.shards
  query_shards seen k is = ap (λ (s : State). with_contents files s.folder s.opened s.shards flushed) unchanged.is ∙ ap (λ (x : RecordedState). x.shards) is

  pub query_count : {G : Type 0} (xs : List G) → length xs ≡ length old.shards → length xs ≡ length new.shards
  query_count xs count = count ∙ ap (λ (l : Hashes). length l) (sym same_shards)

-- ---- an empty query, and no memory for the entry

pub no_hashes : (query : Hashes) (b : Bool) → b ≡ (length query == 0) → b ≡ true → query ≡ []
no_hashes query b is none = nil_from_length query (eqb-true (length query) 0 (sym is ∙ none))

pub some_hashes : (query : Hashes) (b : Bool) → b ≡ (length query == 0) → b ≡ false → query ≢ []
some_hashes [] b is some none = let bad : false ≡ true = sym some ∙ is in cc bad
some_hashes (h ∷ hs) b is some none = cc none

pub nothing_found : (c : Core) (query : Hashes) → query ≡ [] → None ≡ found_run c query
unfolding found_run
nothing_found c query none = sym (ap (found_run c) none)

pub nothing_held : (blocks : List MDBXorbInfo) (query : Hashes) (run : Run) → query ≡ [] → held_run blocks query ≡ Some run → ⊥
unfolding held_run
nothing_held blocks query run none held = let bad : held_run blocks [] ≡ Some run = sym (ap (held_run blocks) none) ∙ held in cc bad

pub query_idle : (s : RecordedState) (pass : ℕ) (query : Hashes) → query ≡ [] → Steps s s (query_entries pass query None)
query_idle s pass query none = subst (λ (hs : Hashes). Steps s s (query_entries pass hs None)) (sym none) (steps_nothing s)

pub query_memory : (pass : ℕ) (s t : RecordedState) → t ≡ s → FailsAsking pass s t OutOfMemory
query_memory pass s t same = record { steps = subst (λ (x : RecordedState). Steps s x []) (sym same) (steps_nothing s); reason = tt }

pub query_same : (s t : RecordedState) → t ≡ s → IsUnchanged s.store t.store
query_same s t same = subst (λ (x : RecordedState). IsUnchanged s.store x.store) (sym same) (unchanged_same s.store)

-- nothing is known of the run at an error
pub no_run : (P : Option Run → Type 0) (r : Answer) (e : StoreError) → IsErrAnd r (λ y. y ≡ e) → IfOk r P
no_run P (Ok run) e exit = absurd exit
no_run P (Err x) e exit = tt
