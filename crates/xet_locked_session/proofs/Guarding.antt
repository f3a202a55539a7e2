-- A session whose first step that fails may be the last one.
use Rattle.std.proofs.Common.{◌≡◌, ◌⊎◌, ◌≤◌, ◌+◌, ◌∙◌, ℕ, Bool, true, false, List, [], ◌++◌, Result, Ok, Err, OnOk, IfErr, inl, inr, refl, sym, ap, subst, append_assoc}
use Rattle.std.specs.Prelude.{◌&&◌}
use Rattle.std.specs.Result.{is_err}
use Rattle.std.proofs.lemmas.List.{append-nil}
use Rattle.xet_cut.specs.declared.limits.LimitSettings.{LimitSettings}
use Rattle.xet_hash.specs.declared.error.StoreError.{StoreError}
use Rattle.xet_hash.specs.declared.error.StoreError.TheVariants.{OutOfMemory}
use Rattle.xet_history.specs.Core.{Core}
use Rattle.xet_history.specs.History.{after_all}
use Rattle.xet_history.specs.declared.entry.Entry.{Entry}
use Rattle.xet_history.specs.declared.entry.StepKind.{StepKind}
use Rattle.xet_shared_history.specs.theorems.Prefixes.{same_rest}
use Rattle.xet_store.specs.Changes.{ChangesFiles, files_of}
use Rattle.xet_store.specs.Recorded.{RecordedState, core_of}
use Rattle.xet_store.specs.theorems.Changing.{changes_more, changes_nothing, changes_then}
use Rattle.xet_store.specs.Steps.{fault_entries}
use Rattle.xet_store.specs.Alone.{MayBeAsked, attempted, cut_of, kind_of}
use Rattle.xet_store.specs.Holders.{Holder, grown}
use Rattle.xet_locked_session.specs.Passes.{FlushFailed, StepFailed}
use Rattle.xet_locked_session.specs.Session.{IsSince, fault_count}
use Rattle.xet_locked_session.specs.Shared.{HaveEnded, HaveMade, StepOf, StepsBy}
use Rattle.xet_locked_session.specs.internal.Guarded.{HasFailed, HasStep, IsGuarded}
use Rattle.xet_locked_session.proofs.Counting.{few_of}

-- ---- nothing is done

grown_nothing : (h : Holder) → h ≡ grown h [] []
grown_nothing h = λ i. record h { since = sym (append-nil h.since) i; own = sym (append-nil h.own) i }

pub nothing_failed : (k : StepKind) (cut : Core → List Entry) (h : Holder) → StepFailed k cut h h OutOfMemory
nothing_failed k cut h = record { others = []; done = []; completed = inl refl; is = grown_nothing h; full = λ bad. refl; reason = tt }

pub nothing_flushed : (h : Holder) → FlushFailed h h OutOfMemory
nothing_flushed h = record { others = []; is = grown_nothing h; reason = tt }

-- ---- what is made

module _ (start old new : RecordedState) (pass : ℕ) (is : IsSince start old) where
  limits_old : old.store.limits ≡ start.store.limits
  limits_old = is.steps.keeps.limits

  core_old : (since : List Entry) → old.history ≡ start.history ++ since → core_of old ≡ after_all (core_of start) since
  core_old since at = is.steps.moves.leads ∙ ap (after_all (core_of start)) (same_rest start.history is.since since (sym is.steps.moves.history ∙ at))

  longer : (since added : List Entry) → old.history ≡ start.history ++ since → new.history ≡ old.history ++ added → new.history ≡ start.history ++ (since ++ added)
  longer since added at more = more ∙ ap (λ (h : List Entry). h ++ added) at ∙ append_assoc start.history since added

  made_more : HaveMade start old → HasStep pass old new → HaveMade start new
  made_more m s = record {
    since = m.since ++ s.added;
    history = longer m.since s.added m.history s.history;
    made = record {
      steps = StepsBy.more m.since s.added pass m.made.steps
          (subst (λ (c : Core). StepOf start.store.limits pass c s.added) (core_old m.since m.history) (subst (λ (l : LimitSettings). StepOf l pass (core_of old) s.added) limits_old s.step));
      changes = changes_then start old new [] [] m.since s.added is.steps.keeps.tells is.steps.keeps.folder m.made.changes s.changes;
    };
  }

  made_last : (e : StoreError) → HaveMade start old → HasFailed pass old new e → HaveEnded start new
  made_last e m f =
      let target : old.store.limits.shard_target ≡ start.store.limits.shard_target = ap (λ (l : LimitSettings). l.shard_target) limits_old in
      let tried : List (List ℕ) = files_of start.store.folder (attempted pass start.store.limits.shard_target f.step (after_all (core_of start) m.since)) in
      let files : files_of old.store.folder (attempted pass old.store.limits.shard_target f.step (core_of old)) ≡ tried = λ i. files_of (is.steps.keeps.folder i) (attempted pass (target i) f.step (core_old m.since m.history i)) in
      let last : ChangesFiles tried old new [] = subst (λ (t : List (List ℕ)). ChangesFiles t old new []) files f.tries in
      let both : ChangesFiles tried start new m.since = subst (λ (es : List Entry). ChangesFiles tried start new es) (append-nil m.since)
      (changes_then start old new [] tried m.since [] is.steps.keeps.tells is.steps.keeps.folder m.made.changes last) in
      record {
        since = m.since ++ (f.done ++ fault_entries pass (kind_of f.step) e);
        history = longer m.since (f.done ++ fault_entries pass (kind_of f.step) e) m.history f.history;
        error = e;
        made = record {
          steps = record {
            before = m.since;
            steps = m.made.steps;
            pass = pass;
            step = f.step;
            asked = subst (λ (l : LimitSettings). MayBeAsked l f.step) limits_old f.asked;
            done = f.done;
            completed = subst (λ (c : Core). (f.done ≡ []) ⊎ (f.done ≡ cut_of pass start.store.limits.shard_target f.step c)) (core_old m.since m.history)
                (subst (λ (t : ℕ). (f.done ≡ []) ⊎ (f.done ≡ cut_of pass t f.step (core_of old))) target f.completed);
            is = refl;
          };
          changes = changes_more start new tried m.since (f.done ++ fault_entries pass (kind_of f.step) e) both;
        };
      }

made_nothing : (s : RecordedState) → HaveMade s s
made_nothing s = record { since = []; history = sym (append-nil s.history); made = record { steps = StepsBy.begins; changes = changes_nothing [] s s [] refl } }

module _ (start : RecordedState) (stops : Bool) where
  pub guarded_first : IsGuarded start stops false start
  guarded_first = record { going = λ does still. made_nothing start; made = λ does. inl (made_nothing start) }

  pub guarded_stop : (stopped now_stopped : Bool) (now : RecordedState) → IsGuarded start stops stopped now → now_stopped ≡ stops → IsGuarded start stops now_stopped now
  guarded_stop stopped now_stopped now is same = record { going = λ does going. absurd (cc (sym does, same, going)); made = is.made }

  pub guarded_step : {T : Type 0} (r : Result T StoreError) (stopped : Bool) (pass : ℕ) (old new : RecordedState) → stopped ≡ false → IsSince start old → IsGuarded start stops stopped old → (stops ≡ true → OnOk r (HasStep pass old new))
      → IfErr r (HasFailed pass old new) → IsGuarded start stops (stops && is_err r) new
  guarded_step (Ok x) stopped pass old new going since is step failed = record {
    going = λ does still. made_more start old new pass since (is.going does going) (step does);
    made = λ does. inl (made_more start old new pass since (is.going does going) (step does));
  }
  guarded_step (Err e) stopped pass old new going since is step failed = record {
    going = λ does still. absurd (cc (does, still));
    made = λ does. inr (made_last start old new pass since e (is.going does going) failed);
  }

  -- nothing is known of a session that does not stop
  pub guarded_other : (stopped : Bool) (now : RecordedState) → stops ≡ false → IsGuarded start stops stopped now
  guarded_other stopped now not = record { going = λ does going. absurd (cc (does, not)); made = λ does. absurd (cc (does, not)) }

  -- at most one entry is a failure of the disk
  pub guarded_few : (stopped : Bool) (now : RecordedState) → IsGuarded start stops stopped now → stops ≡ true → fault_count now.history ≤ fault_count start.history + 1
  guarded_few stopped now is does = few_of start now (is.made does)
