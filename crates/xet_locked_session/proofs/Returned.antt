-- The calls of a pass that makes steps, as what contracts see of it before and after.
use Rattle.std.proofs.Common.{◌≡◌, ◌≢◌, ◌⊎◌, inl, inr, ◌∙◌, ℕ, ◌-◌, Bool, true, false, List, [], ◌∷◌, ◌++◌, length, Option, refl, sym, ap, subst, arith}
use Rattle.std.specs.Prelude.{◌==◌}
use Rattle.std.specs.List.{AllByRecursion}
use Rattle.std.proofs.lemmas.Bool.{eqb-true, false≢true}
use Rattle.xet_dedup_queries.specs.Registering.{IsDue}
use Rattle.xet_hash.specs.declared.error.StoreError.{StoreError}
use Rattle.xet_hash.specs.declared.error.StoreError.TheVariants.{OutOfMemory}
use Rattle.xet_history.specs.Core.{Core}
use Rattle.xet_history.specs.History.{complete_cut, complete_entries, query_entries, register_cut, register_entries}
use Rattle.xet_history.specs.declared.entry.Entry.{Entry}
use Rattle.xet_history.specs.declared.entry.StepKind.{StepKind}
use Rattle.xet_history.specs.declared.entry.StepKind.TheVariants.{Complete, Query, Register}
use Rattle.xet_locked_session.specs.Passes.{IsPassOf, IsSeen, OtherFile, StepFailed}
use Rattle.xet_shard_format.specs.declared.record.FileDataSequenceEntry.{FileDataSequenceEntry as Segment}
use Rattle.xet_shard_format.specs.declared.record.MDBFileInfo.{MDBFileInfo}
use Rattle.xet_store.specs.Recorded.{RecordedState}
use Rattle.xet_store.specs.Steps.{fault_entries}
use Rattle.xet_store.specs.Holders.{Holder, IsDueEntry, core_found, grown, seen, xorb_limits}
use Rattle.xet_store.specs.Stepping.{SawComplete, SawError, SawOther, SawQuery, SawRegister, cut_to_complete, cut_to_register, no_cut}
use Rattle.xet_store.specs.theorems.Following.{follows_nothing}
use Rattle.xet_locked_session.specs.Passing.{IsPassing, PassingState, passing_of, passing_state}
use Rattle.xet_locked_session.specs.internal.Kept.{IsKept, IsLast}
use Rattle.xet_locked_session.proofs.Added.{IsAdded, added_complete, added_complete_cut, added_failure, added_nothing, added_register, added_register_cut, due_query}
use Rattle.xet_locked_session.proofs.Carrying.{limits_same, number_same}
use Rattle.xet_locked_session.proofs.Failed.{saw_error, saw_other, saw_stopped}
use Rattle.xet_locked_session.proofs.Keeping.{holds_of, passing_more, since_nothing}
use Rattle.xet_locked_session.proofs.Last.{last_asked, last_begins, last_kept, last_nothing_asked, last_other}
use Rattle.xet_locked_session.proofs.Saw.{saw_complete, saw_query, saw_register}

-- the holder of a state
abbrev pub of_state : PassingState → Holder
of_state s = passing_of s.start s.pass s.stopped

-- whether a query has hashes
some_of : (hashes : List (List ℕ)) (b : Bool) → b ≡ (length hashes == 0) → b ≡ false → hashes ≢ []
some_of hashes b test told = λ none. false≢true (sym told ∙ test ∙ ap (λ (hs : List (List ℕ)). length hs == 0) none)

none_of : (hashes : List (List ℕ)) (b : Bool) → b ≡ (length hashes == 0) → b ≡ true → hashes ≡ []
none_of [] b test told = refl
none_of (h ∷ hs) b test told = absurd (omega (arith, eqb-true (length (h ∷ hs)) 0 (sym test ∙ told)))

module _ (store : RecordedState) (start old new : Holder) (stopped : Bool) (last : ℕ) (s : PassingState) (view : passing_state start old stopped ≡ s) (going : stopped ≡ false) (was : IsKept store start old stopped last) (known : IsSeen new) where
  is : IsPassing start old false
  is = subst (IsPassing start old) going was.passing

  abbrev limits : ℕ × ℕ
  limits = xorb_limits start.limits

  -- what is so of the holders before and after
  completed : (P : Holder → Holder → Type 0) → P (passing_of start old false) (passing_of start new false) → P (of_state s) (passing_of start new stopped)
  completed P p = subst (λ (x : PassingState). P (of_state x) (passing_of start new stopped)) view (subst (λ (b : Bool). P (passing_of start old b) (passing_of start new b)) (sym going) p)

  ended : (P : Holder → Holder → Type 0) → P (passing_of start old false) (passing_of start new true) → P (of_state s) (passing_of start new true)
  ended P p = subst (λ (x : PassingState). P (of_state x) (passing_of start new true)) view (subst (λ (b : Bool). P (passing_of start old b) (passing_of start new true)) (sym going) p)

  -- after a call
  module _ (others added : List Entry) (grew : new ≡ grown old others added) where
    goes_on : AllByRecursion (IsDueEntry limits) added → (now : ℕ) → IsLast (passing_of start new false) now → IsKept store start new stopped now
    goes_on due now latest = record {
      passing = subst (IsPassing start new) (sym going) (passing_more start old new others added is grew false known due);
      of = was.of;
      latest = latest;
    }

    -- of which no entry is a query or a registration
    goes_on_quiet : IsAdded limits [] added → IsKept store start new stopped last
    goes_on_quiet quiet = goes_on quiet.due last (last_kept start old new is.follows others added grew last quiet.are was.latest)

    -- that failed
    stops : IsAdded limits [] added → IsKept store start new true last
    stops quiet = record {
      passing = passing_more start old new others added is grew true known quiet.due;
      of = was.of;
      latest = last_kept start old new is.follows others added grew last quiet.are was.latest;
    }

  failed_stops : (k : StepKind) (cut : Core → List Entry) (e : StoreError) → ((c : Core) → IsAdded limits [] (cut c)) → StepFailed k cut old new e → IsKept store start new true last
  failed_stops k cut e quiet failed =
      stops failed.others (failed.done ++ fault_entries old.number k e) failed.is (added_failure limits old.number k e failed.done (cut (core_found old failed.others)) failed.completed (quiet (core_found old failed.others)))

  -- a query
  module _ (hashes : List (List ℕ)) (reply : Option (ℕ × Segment)) (saw : SawQuery hashes old new reply) where
    pub query_kept : (now : ℕ) → IsLast (passing_of start new false) now → IsKept store start new stopped now
    query_kept now latest = goes_on saw.others (query_entries old.number hashes reply) saw.is (due_query limits old.number hashes reply) now latest

    pub query_empty : (b : Bool) → b ≡ (length hashes == 0) → b ≡ true → IsKept store start new stopped last
    query_empty b test told = query_kept last (last_nothing_asked start old new is.follows saw.others old.number hashes reply saw.is last (none_of hashes b test told) was.latest)

    pub query_latest : (b : Bool) → b ≡ (length hashes == 0) → b ≡ false → (now : ℕ) → now ≡ length (seen new) - 1 → IsKept store start new stopped now
    query_latest b test told now at = query_kept now (last_asked start old new is.follows saw.others old.number hashes reply saw.is now (some_of hashes b test told) at)

    query_seen : SawQuery hashes (of_state s) (passing_of start new stopped) reply
    query_seen = completed (λ a b. SawQuery hashes a b reply) (saw_query start old new is.follows hashes reply saw)

    pub query_seen_by : (now : PassingState) → now ≡ passing_state start new stopped → SawQuery hashes (of_state s) (of_state now) reply
    query_seen_by now same = subst (λ (x : PassingState). SawQuery hashes (of_state s) (of_state x) reply) (sym same) query_seen

  module _ (e : StoreError) (failed : StepFailed Query no_cut old new e) where
    pub query_stops : IsKept store start new true last
    query_stops = failed_stops Query no_cut e (λ c. added_nothing limits) failed

    pub query_error : SawError Query no_cut (of_state s) (passing_of start new true) e
    query_error = ended (λ a b. SawError Query no_cut a b e) (saw_error start old new is.follows e Query no_cut failed)

  -- a registration
  module _ (leaves next : List (List ℕ × ℕ)) (added : Bool) (saw : SawRegister leaves next old new added) where
    abbrev registered : List Entry
    registered = register_entries old.number (core_found old saw.others) old.limits.shard_target leaves next

    pub register_kept : IsDue (xorb_limits s.start.limits) leaves next → IsKept store start new stopped last
    register_kept due =
        let here : IsDue limits leaves next = subst (λ (x : PassingState). IsDue (xorb_limits x.start.limits) leaves next) (sym view) due in
        let one = added_register limits old.number (core_found old saw.others) old.limits.shard_target leaves next here in
        goes_on saw.others registered saw.is one.due last (last_other start old new is.follows saw.others registered saw.is last leaves next one.are was.latest)

    pub register_seen : SawRegister leaves next (of_state s) (passing_of start new stopped) added
    register_seen = completed (λ a b. SawRegister leaves next a b added) (saw_register start old new is.follows leaves next added saw)

  module _ (leaves : List (List ℕ × ℕ)) (e : StoreError) (failed : StepFailed Register (cut_to_register old leaves) old new e) where
    pub register_stops : IsKept store start new true last
    register_stops = failed_stops Register (cut_to_register old leaves) e (λ c. added_register_cut limits old.number c old.limits.shard_target leaves) failed

    pub register_error : SawError Register (cut_to_register (of_state s) leaves) (of_state s) (passing_of start new true) e
    register_error =
        ended (λ a b. SawError Register (cut_to_register a leaves) a b e)
        (saw_error start old new is.follows e Register (cut_to_register start leaves)
        (subst (λ (cut : Core → List Entry). StepFailed Register cut old new e) (λ i c. register_cut (number_same start old is.follows i) c (limits_same start old is.follows i).shard_target leaves) failed))

  -- a recording
  module _ (file : MDBFileInfo) (added : Bool) (saw : SawComplete file old new added) where
    pub complete_kept : IsKept store start new stopped last
    complete_kept =
        goes_on_quiet saw.others (complete_entries old.number (core_found old saw.others) old.limits.shard_target file) saw.is (added_complete limits old.number (core_found old saw.others) old.limits.shard_target file)

    pub complete_seen : SawComplete file (of_state s) (passing_of start new stopped) added
    complete_seen = completed (λ a b. SawComplete file a b added) (saw_complete start old new is.follows file added saw)

  module _ (file : MDBFileInfo) (e : StoreError) where
    pub complete_stops : OtherFile file old new e ⊎ StepFailed Complete (cut_to_complete old file) old new e → IsKept store start new true last
    complete_stops (inl other) = stops other.others [] other.is (added_nothing limits)
    complete_stops (inr failed) = failed_stops Complete (cut_to_complete old file) e (λ c. added_complete_cut limits old.number c old.limits.shard_target file) failed

    pub complete_error : OtherFile file old new e ⊎ StepFailed Complete (cut_to_complete old file) old new e
        → SawOther file (of_state s) (passing_of start new true) e ⊎ SawError Complete (cut_to_complete (of_state s) file) (of_state s) (passing_of start new true) e
    complete_error (inl other) = inl (ended (λ a b. SawOther file a b e) (saw_other start old new is.follows e file other))
    complete_error (inr failed) =
        inr (ended (λ a b. SawError Complete (cut_to_complete a file) a b e)
        (saw_error start old new is.follows e Complete (cut_to_complete start file)
        (subst (λ (cut : Core → List Entry). StepFailed Complete cut old new e) (λ i c. complete_cut (number_same start old is.follows i) c (limits_same start old is.follows i).shard_target file) failed)))

-- it has stopped, and makes no step
stands_still : (start old : Holder) (stopped : Bool) (s : PassingState) → passing_state start old stopped ≡ s → stopped ≡ true → (k : StepKind) (cut : Core → List Entry) → SawError k cut (of_state s) (of_state s) OutOfMemory
stands_still start old has s view stopped k cut = saw_stopped k cut (of_state s) (sym (ap (λ (x : PassingState). x.stopped) view) ∙ stopped)

pub query_refused : (start old : Holder) (stopped : Bool) (s : PassingState) → passing_state start old stopped ≡ s → stopped ≡ true → SawError Query no_cut (of_state s) (of_state s) OutOfMemory
query_refused start old has s view stopped = stands_still start old has s view stopped Query no_cut

pub register_refused : (start old : Holder) (stopped : Bool) (s : PassingState) → passing_state start old stopped ≡ s → stopped ≡ true → (leaves : List (List ℕ × ℕ)) → SawError Register (cut_to_register (of_state s) leaves) (of_state s) (of_state s) OutOfMemory
register_refused start old has s view stopped leaves = stands_still start old has s view stopped Register (cut_to_register (of_state s) leaves)

pub complete_refused : (start old : Holder) (stopped : Bool) (s : PassingState) → passing_state start old stopped ≡ s → stopped ≡ true → (file : MDBFileInfo)
    → SawOther file (of_state s) (of_state s) OutOfMemory ⊎ SawError Complete (cut_to_complete (of_state s) file) (of_state s) (of_state s) OutOfMemory
complete_refused start old has s view stopped file = inr (stands_still start old has s view stopped Complete (cut_to_complete (of_state s) file))

-- it begins
pub begins : (store : RecordedState) (pass : Holder) → IsPassOf store pass → IsSeen pass → IsKept store pass pass false 0
begins store pass of known =
    let going : pass.stopped ≡ false = ap (λ (h : Holder). h.stopped) of.is in
    record {
      passing = record { follows = follows_nothing pass; holds = holds_of pass pass (follows_nothing pass) false known (since_nothing pass); going = going; still = going };
      of = of;
      latest = last_begins pass 0 false;
    }
