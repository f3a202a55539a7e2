-- Cleaning by name over the disk that a session hands back.
use Rattle.std.proofs.Common.{◌≡◌, ◌≢◌, ◌⊎◌, ◌∙◌, inl, inr, ℕ, Bool, true, false, List, Result, Ok, Err, IfErr, IfOk, Vec, Global, Some, refl, subst, sym, ap, arith}
use Rattle.std.specs.List.{flat_map}
use Rattle.std.specs.Result.{IsErrOf}
use Rattle.xet_cut.specs.declared.limits.LimitSettings.{LimitSettings}
use Rattle.xet_io.specs.Disk.{Files}
use Rattle.xet_io.specs.Named.{Named}
use Rattle.xet_store_disk.specs.Cleaning.{Keeps}
use Rattle.xet_store_disk.specs.Opening.{IsOpened, contents_of}
use Rattle.xet_store.specs.Recorded.{RecordedState}
use Rattle.xet_store_disk.specs.Store.{Sound, State}
use Rattle.xet_program.specs.declared.ending.Stop.{Stop}
use Rattle.xet_program.specs.declared.ending.Stop.TheVariants as stop
use Rattle.xet_program.specs.Allowed.{are_short}
use Rattle.xet_program.specs.Answers.{AreSeparate}
use Rattle.xet_program.specs.Ending.{CanOpen}
use Rattle.xet_program.specs.Lines.{files_of}
use Rattle.xet_program.specs.internal.Parsing.{ForLines, Said}
use Rattle.xet_program.specs.Report.{IsReport, file_line}
use Rattle.xet_program.specs.Tasks.{IsIdle, default_limits, store_folder}
use Rattle.xet_program.specs.Words.Command.{Clean}
use Rattle.xet_program.specs.internal.Cleaned.{IsCleanText, IsCleaned}
use Rattle.xet_program.specs.internal.Stops.{ForValid, IsStop, answer_outcome, naming_causes}
use Rattle.xet_program.proofs.Making.{are_stored}

abbrev Answer : Type 0
Answer = Result (Vec ℕ Global) Stop

module _ (inputs_tell : Bool) (inputs : Named (List ℕ)) (names : List (List ℕ)) (tells : Bool) (disk files : Files) (now : ℕ) (s t : State) (opened : IsOpened tells false disk store_folder default_limits now s) where
  text_of : Sound s → Keeps s t → files ≡ t.files → (text : List ℕ) → IsCleaned inputs_tell inputs names s t text → IsCleanText inputs_tell inputs names tells disk files now text
  text_of sound keeps is text x = record {
    files = x.files;
    named = x.named;
    count = x.count;
    short = λ told. subst (λ (l : LimitSettings). are_short l x.files ≡ true) opened.same_limits (x.short told);
    lines = x.lines ∙ ap (λ (l : LimitSettings). flat_map (file_line l) x.files) opened.same_limits;
    stored = λ inputs_told told.
        let here = opened.same_tells ∙ told in
        are_stored tells disk files default_limits now s t told opened sound keeps is x.files (x.recorded inputs_told here) (x.made here) (x.other here);
  }

  pub cleaned_text : Sound s → Keeps s t → files ≡ t.files → (tells ≡ true → CanOpen disk now (contents_of s)) → (r : Answer) → IfOk r (λ text. IsCleaned inputs_tell inputs names s t text.items)
      → IfOk r (λ text. ForValid tells disk now (λ contents. IsCleanText inputs_tell inputs names tells disk files now text.items))
  cleaned_text sound keeps is valid (Ok t) x = (contents_of s, valid, text_of sound keeps is t.items x)
  cleaned_text sound keeps is valid (Err e) x = tt

  not_seven_or_eight : (n : ℕ) → n ≢ 7 → n ≢ 8 → (n ≡ 7) ⊎ (n ≡ 8) → ⊥
  not_seven_or_eight n a b (inl is) = a is
  not_seven_or_eight n a b (inr is) = b is

  -- the stops with which nothing has changed
  pub idle_kept : (old new : RecordedState) (r : Answer) → IfErr r (IsStop (naming_causes inputs_tell inputs names old new)) → (IsErrOf r stop.NotFound → t ≡ s) → files ≡ t.files → IsIdle (Some (Clean names)) (answer_outcome r).status → files ≡ disk
  idle_kept old new (Ok v) stop kept is idle = absurd (not_seven_or_eight 0 (λ e. omega arith) (λ e. omega arith) idle)
  idle_kept old new (Err stop.OutOfMemory) c kept is idle = absurd (not_seven_or_eight 1 (λ e. omega arith) (λ e. omega arith) idle)
  idle_kept old new (Err stop.Input) c kept is idle = absurd (not_seven_or_eight 4 (λ e. omega arith) (λ e. omega arith) idle)
  idle_kept old new (Err stop.TooLarge) c kept is idle = absurd (not_seven_or_eight 9 (λ e. omega arith) (λ e. omega arith) idle)
  idle_kept old new (Err stop.Disk) c kept is idle = absurd (not_seven_or_eight 6 (λ e. omega arith) (λ e. omega arith) idle)
  idle_kept old new (Err stop.Malformed) c kept is idle = absurd (not_seven_or_eight 10 (λ e. omega arith) (λ e. omega arith) idle)
  idle_kept old new (Err stop.NotFound) c kept is idle = is ∙ ap (λ (x : State). x.files) (kept refl) ∙ opened.same_files refl
  idle_kept old new (Err (stop.BadLine n)) c kept is idle = absurd c
  idle_kept old new (Err (stop.BadShard name)) c kept is idle = absurd c

-- the report of a session over the disk that it hands back
pub report_on_disk : (tells : Bool) (disk files : Files) (limits : LimitSettings) (now : ℕ) (s t : State) (said : Said) → IsOpened tells false disk store_folder limits now s → files ≡ t.files → (r : Answer)
    → IfOk r (λ text. ForLines said (λ lines. IsReport (AreSeparate s.tells t.files s.opened s.limits (files_of lines)) s.limits lines text.items))
    → IfOk r (λ text. ForLines said (λ lines. IsReport (AreSeparate tells files now limits (files_of lines)) limits lines text.items))
report_on_disk tells disk files limits now s t said opened is (Err e) report = tt
report_on_disk tells disk files limits now s t said opened is (Ok v) report = λ lines parts.
    let one : IsReport (AreSeparate s.tells t.files s.opened s.limits (files_of lines)) s.limits lines v.items = report lines parts in
    let at_limits : IsReport (AreSeparate s.tells t.files s.opened limits (files_of lines)) limits lines v.items =
    subst (λ (l : LimitSettings). IsReport (AreSeparate s.tells t.files s.opened l (files_of lines)) l lines v.items) opened.same_limits one in
    let at_time : IsReport (AreSeparate s.tells t.files now limits (files_of lines)) limits lines v.items =
    subst (λ (n : ℕ). IsReport (AreSeparate s.tells t.files n limits (files_of lines)) limits lines v.items) opened.time at_limits in
    let on_files : IsReport (AreSeparate s.tells files now limits (files_of lines)) limits lines v.items =
    subst (λ (x : Files). IsReport (AreSeparate s.tells x now limits (files_of lines)) limits lines v.items) (sym is) at_time in
    subst (λ (b : Bool). IsReport (AreSeparate b files now limits (files_of lines)) limits lines v.items) opened.same_tells on_files
