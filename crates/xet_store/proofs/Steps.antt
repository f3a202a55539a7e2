-- A store that one caller has alone, after a step.
use Rattle.std.proofs.Common.{◌≡◌, ◌⊎◌, inl, inr, ℕ, true, false, List, [], ◌++◌, Option, refl, ap, subst, sym, arith}
use Rattle.std.specs.Prelude.{Any}
use Rattle.std.specs.List.{AllByRecursion, Contains}
use Rattle.std.proofs.lemmas.Bool.{false≢true}
use Rattle.std.proofs.lemmas.List.{append-nil}
use Rattle.std.proofs.lemmas.List.Elements.{All-contains, All-from_recursion, Contains-append_cases}
use Rattle.xet_completion.specs.Completing.{Completes}
use Rattle.xet_cut.specs.declared.limits.LimitSettings.{LimitSettings}
use Rattle.xet_dedup_queries.specs.Registering.{IsDue}
use Rattle.xet_hash.specs.declared.error.Place.TheVariants.{Disk}
use Rattle.xet_hash.specs.declared.error.StoreError.{StoreError}
use Rattle.xet_hash.specs.declared.error.StoreError.TheVariants.{Io}
use Rattle.xet_history.specs.Core.{Core}
use Rattle.xet_history.specs.History.{after_all, complete_entries, cut_entries, query_entries, register_entries}
use Rattle.xet_history.specs.declared.entry.Entry.{Entry}
use Rattle.xet_history.specs.declared.entry.StepKind.{StepKind}
use Rattle.xet_io.specs.Faults.{Rose}
use Rattle.xet_shard_format.specs.Records.{IsFile}
use Rattle.xet_shard_format.specs.declared.record.FileDataSequenceEntry.{FileDataSequenceEntry as Segment}
use Rattle.xet_shard_format.specs.declared.record.MDBFileInfo.{MDBFileInfo}
use Rattle.xet_store.specs.Changes.{ChangesFiles, Tries, files_of}
use Rattle.xet_store.specs.Recorded.{RecordedState, core_of}
use Rattle.xet_store.specs.Steps.{Steps, fault_entries}
use Rattle.xet_store.specs.theorems.Changing.{changes_more, changes_nothing, changes_then}
use Rattle.xet_store.specs.theorems.Joining.{steps_both, steps_nothing}
use Rattle.xet_store.specs.Alone.{IsAlone, IsFault, MakesStepsUntil, MayBeAsked, Step, StepsTo, attempted, cut_of, kind_of}
use Rattle.xet_store.specs.Holders.{xorb_limits}
use Rattle.xet_store.proofs.Entries.{all_complete, all_done, all_query, all_register, done_cases, size_of}

-- it is no failure of the disk
abbrev pub IsNoFault : Entry → Type 0
IsNoFault e = IsFault e → ⊥

-- a failure among two lists is in one of them
any_either : (xs ys : List Entry) → Any IsFault (xs ++ ys) → Any IsFault xs ⊎ Any IsFault ys
any_either xs ys any = go (Contains-append_cases xs ys any.1 (any.0, any.2, any.3))
  where
    go : Contains xs any.1 ⊎ Contains ys any.1 → Any IsFault xs ⊎ Any IsFault ys
    go (inl c) = inl (c.0, any.1, c.1, c.2, any.4)
    go (inr c) = inr (c.0, any.1, c.1, c.2, any.4)

pub no_fault : (xs : List Entry) → AllByRecursion IsNoFault xs → Any IsFault xs → ⊥
no_fault xs none any = All-contains IsNoFault xs any.1 (All-from_recursion IsNoFault xs none) (any.0, any.2, any.3) any.4

-- the step that has it failed by it
disk_failed : (kind : StepKind) (e : StoreError) → Any IsFault (fault_entries 0 kind e) → e ≡ Io Disk
disk_failed kind (Io Disk) any = refl
disk_failed kind e any = absurd (no_fault [] tt any)

-- nothing was done yet
pub alone_begins : (s : RecordedState) → IsAlone s s false
alone_begins s = record {
  since = [];
  steps = steps_nothing s;
  whole = λ going. record { steps = StepsTo.begins; changes = changes_nothing [] s s [] refl };
  until = λ bad. absurd (false≢true bad);
  disk = λ any. absurd (no_fault [] tt any);
  rose = λ any. absurd (no_fault [] tt any);
}

module _ (start now new : RecordedState) (is : IsAlone start now false) (added : List Entry) (steps : Steps now new added) where
  all_steps : Steps start new (is.since ++ added)
  all_steps = steps_both start now new is.since added is.steps steps

  -- no step had failed
  here_alone : Any IsFault (is.since ++ added) → Any IsFault added
  here_alone any = go (any_either is.since added any)
    where
      go : Any IsFault is.since ⊎ Any IsFault added → Any IsFault added
      go (inl before) = absurd (false≢true (is.disk before).0)
      go (inr here) = here

  rose_more : (Any IsFault added → Rose now.store.faults new.store.faults) → Any IsFault (is.since ++ added) → Rose start.store.faults new.store.faults
  rose_more rose any = omega (arith, rose (here_alone any), is.steps.keeps.later)

  -- after a completed step
  pub alone_more : StepsTo start.store.limits 0 (core_of start) (is.since ++ added) → ChangesFiles [] now new added → AllByRecursion IsNoFault added → IsAlone start new false
  alone_more to changes none = record {
    since = is.since ++ added;
    steps = all_steps;
    whole = λ going. record { steps = to; changes = changes_then start now new [] [] is.since added is.steps.keeps.tells is.steps.keeps.folder (is.whole refl).changes changes };
    until = λ bad. absurd (false≢true bad);
    disk = λ any. absurd (no_fault added none (here_alone any));
    rose = rose_more (λ any. absurd (no_fault added none any));
  }

  -- after a step that failed
  pub alone_stops : (e : StoreError) → MakesStepsUntil e start new (is.since ++ added) → (Any IsFault added → e ≡ Io Disk) → (Any IsFault added → Rose now.store.faults new.store.faults) → IsAlone start new true
  alone_stops e until disk rose = record {
    since = is.since ++ added;
    steps = all_steps;
    whole = λ bad. absurd (false≢true (sym bad));
    until = λ stopped. (e, until);
    disk = λ any. (refl, subst (λ (x : StoreError). MakesStepsUntil x start new (is.since ++ added)) (disk (here_alone any)) until);
    rose = rose_more rose;
  }

module _ (start now : RecordedState) (is : IsAlone start now false) (new : RecordedState) where
  abbrev pub limits : LimitSettings
  limits = start.store.limits

  -- the core and the limits, by those of the beginning
  pub core_now : core_of now ≡ after_all (core_of start) is.since
  core_now = is.steps.moves.leads

  pub limits_now : now.store.limits ≡ limits
  limits_now = is.steps.keeps.limits

  abbrev ToMore : List Entry → Type 0
  ToMore es = StepsTo limits 0 (core_of start) (is.since ++ es)

  pub alone_queried : (hashes : List (List ℕ)) (reply : Option (ℕ × Segment)) → Steps now new (query_entries 0 hashes reply) → ChangesFiles [] now new (query_entries 0 hashes reply) → IsAlone start new false
  alone_queried hashes reply steps changes =
      alone_more start now new is (query_entries 0 hashes reply) steps (StepsTo.asks is.since hashes reply (is.whole refl).steps) changes (all_query IsNoFault 0 (λ hs r bad. bad) hashes reply)

  pub alone_registered : (leaves next : List (List ℕ × ℕ)) → MayBeAsked limits (Step.registers leaves) → IsDue (xorb_limits limits) leaves next → Steps now new (register_entries 0 (core_of now) now.store.limits.shard_target leaves next)
      → ChangesFiles [] now new (register_entries 0 (core_of now) now.store.limits.shard_target leaves next) → IsAlone start new false
  alone_registered leaves next asked due steps changes =
      let c : Core = core_of now in let target : ℕ = now.store.limits.shard_target in
      alone_more start now new is (register_entries 0 c target leaves next) steps
      (subst ToMore (λ i. register_entries 0 (sym core_now i) (sym limits_now i).shard_target leaves next) (StepsTo.registers is.since leaves next (is.whole refl).steps asked due))
      changes
      (all_register IsNoFault 0 (λ s bad. bad) c target leaves next (λ b bad. bad))

  pub alone_completed : (file : MDBFileInfo) → IsFile file → Completes now.store.xorbs file → Steps now new (complete_entries 0 (core_of now) now.store.limits.shard_target file)
      → ChangesFiles [] now new (complete_entries 0 (core_of now) now.store.limits.shard_target file) → IsAlone start new false
  alone_completed file form can steps changes =
      let c : Core = core_of now in let target : ℕ = now.store.limits.shard_target in
      alone_more start now new is (complete_entries 0 c target file) steps
      (subst ToMore (λ i. complete_entries 0 (sym core_now i) (sym limits_now i).shard_target file)
      (StepsTo.completes is.since file (is.whole refl).steps form (subst (λ (d : Core). Completes d.xorbs file) core_now can)))
      changes
      (all_complete IsNoFault 0 (λ s bad. bad) c target file (λ b bad. bad))

  -- a step failed
  pub alone_failed : (step : Step) → MayBeAsked limits step → (e : StoreError) (done : List Entry) → (done ≡ []) ⊎ (done ≡ cut_of 0 limits.shard_target step (core_of now)) → Steps now new (done ++ fault_entries 0 (kind_of step) e)
      → Tries now new (attempted 0 now.store.limits.shard_target step (core_of now)) → (Any IsFault (fault_entries 0 (kind_of step) e) → Rose now.store.faults new.store.faults) → IsAlone start new true
  alone_failed step asked e done completed steps tries rose =
      alone_stops start now new is (done ++ fault_entries 0 (kind_of step) e) steps e
      (record {
        steps = record {
          before = is.since;
          steps = (is.whole refl).steps;
          step = step;
          asked = asked;
          done = done;
          completed = subst (λ (c : Core). (done ≡ []) ⊎ (done ≡ cut_of 0 limits.shard_target step c)) core_now completed;
          is = refl;
        };
        changes = changes_more start new tried is.since (done ++ failure) both;
      })
      (λ any. disk_failed (kind_of step) e (of_two any)) (λ any. rose (of_two any))
    where
      cases : (done ≡ []) ⊎ (done ≡ cut_entries 0 (core_of now) limits.shard_target (size_of step))
      cases = done_cases 0 limits.shard_target step (core_of now) done completed

      failure : List Entry
      failure = fault_entries 0 (kind_of step) e

      -- the files of the step that failed
      tried : List (List ℕ)
      tried = files_of start.store.folder (attempted 0 limits.shard_target step (after_all (core_of start) is.since))

      target : now.store.limits.shard_target ≡ limits.shard_target
      target = ap (λ (l : LimitSettings). l.shard_target) limits_now

      files : files_of now.store.folder (attempted 0 now.store.limits.shard_target step (core_of now)) ≡ tried
      files = λ i. files_of (is.steps.keeps.folder i) (attempted 0 (target i) step (core_now i))

      both : ChangesFiles tried start new is.since
      both = subst (λ (es : List Entry). ChangesFiles tried start new es) (append-nil is.since)
          (changes_then start now new [] tried is.since [] is.steps.keeps.tells is.steps.keeps.folder (is.whole refl).changes (subst (λ (t : List (List ℕ)). ChangesFiles t now new []) files tries))

      of_two : Any IsFault (done ++ failure) → Any IsFault failure
      of_two any = go (any_either done failure any)
        where
          go : Any IsFault done ⊎ Any IsFault failure → Any IsFault failure
          go (inl bad) = absurd (no_fault done (all_done IsNoFault 0 (λ s b. b) (core_of now) limits.shard_target (size_of step) done cases) bad)
          go (inr any) = any
