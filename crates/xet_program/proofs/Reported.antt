-- What is answered once files were cleaned in a session, by the results of cleaning and of reporting.
use Rattle.std.proofs.Common.{◌≡◌, ◌∙◌, ℕ, ◌<◌, ◌≤◌, All, inr, Bool, true, false, List, [], ◌++◌, length, map, subst, Result, Ok, Err, IfErr, IfOk, OnOk, Vec, Global, sym, ap, arith}
use Rattle.std.proofs.lemmas.Bool.{false≢true}
use Rattle.std.proofs.lemmas.List.{append-nil, length-map}
use Rattle.std.specs.Result.{IsErrOf}
use Rattle.std.specs.List.{AllByRecursion, flat_map}
use Rattle.xet_io.specs.Faults.{HasCause}
use Rattle.xet_io.specs.Named.{Named}
use Rattle.xet_clean.specs.declared.info.Cleaned.{Cleaned}
use Rattle.xet_store_disk.specs.declared.info.XetFileInfo.{XetFileInfo}
use Rattle.xet_store_disk.specs.Cleaning.{info_of}
use Rattle.xet_store.specs.Recorded.{RecordedState}
use Rattle.xet_program.specs.declared.ending.Stop.{Stop}
use Rattle.xet_program.specs.declared.ending.Stop.TheVariants as stop
use Rattle.xet_program.specs.declared.lines.FileRange.{FileRange}
use Rattle.xet_program.specs.Answers.{AreNamed}
use Rattle.xet_program.specs.internal.Parsing.{Said, are_good}
use Rattle.xet_program.specs.internal.Report.{info_line}
use Rattle.xet_program.specs.internal.Cleaned.{AreCleaned, IsCleaned, IsLinesAnswer}
use Rattle.xet_program.specs.internal.Steps.{AreRead, IsSettled, ListsNoOther, MakesIn}
use Rattle.xet_program.specs.internal.Stops.{Causes, IsStop, naming_causes, session_causes, settling_causes}
use Rattle.xet_program.proofs.Cleaned.{all_tell, bounds_of_good, cleaned_files, count_of_sources, files_of_sources, lines_of_infos}
use Rattle.xet_program.proofs.Making.{made_in}
use Rattle.xet_program.proofs.Only.{no_other_settled}
use Rattle.xet_program.proofs.Opened.{Opened, opened_count, opened_named, opened_tell, rose_after, rose_then}
use Rattle.xet_program.proofs.Settled.{AreSteps, IsDone, recorded_of, reports}

abbrev Answer : Type 0
Answer = Result (Vec ℕ Global) Stop

done_of : {S : Type 0} (tells : S → Bool) (left : S → List ℕ) (sources : List S) (first before after : RecordedState) (infos : List XetFileInfo) → AreSteps first before after → AllByRecursion (λ s. tells s ≡ true) sources
    → (c : AreCleaned tells left sources first before infos) → IsDone first before after c.files
done_of tells left sources first before after infos steps tell c = record {
  steps = steps;
  has = λ told apart. c.has told tell apart;
  entries = c.entries;
  taken = c.steps;
}

-- ---- the disk's failures

pub cause_all : (first before after : RecordedState) (cleaned : Result Cleaned Stop) (r : Answer) → HasCause first.store.faults before.store.faults (IsErrOf cleaned stop.Disk) → OnOk cleaned (HasCause before.store.faults after.store.faults (IsErrOf r stop.Disk))
    → IfErr cleaned (λ e. IsErrOf r e × (after ≡ before)) → HasCause first.store.faults after.store.faults (IsErrOf r stop.Disk)
cause_all first before after (Ok x) r a b stopped = record { later = omega (arith, a.later, b.later); rose = λ is. rose_after first.store.faults before.store.faults after.store.faults a.later (b.rose is) }
cause_all first before after (Err e) r a b (is_r, same) = record {
  later = omega (arith, a.later, ap (λ (s : RecordedState). s.store.faults) same);
  rose = λ is.
      let disk : e ≡ stop.Disk = cc (sym is_r ∙ is) in
      rose_then first.store.faults before.store.faults after.store.faults (a.rose (ap Err disk)) (omega (arith, ap (λ (s : RecordedState). s.store.faults) same));
}

-- A stop that reporting never gives was a stop of cleaning.
pub cause_of : (tells : Bool) (causes : Causes) (before after : RecordedState) (cleaned : Result Cleaned Stop) (r : Answer) (e : Stop) → (IsStop (settling_causes tells after) e → ⊥) → IfErr cleaned (IsStop causes)
    → OnOk cleaned (IfErr r (IsStop (settling_causes tells after))) → IfErr cleaned (λ x. IsErrOf r x × (after ≡ before)) → IsErrOf r e → IsStop causes e
cause_of tells causes before after (Ok x) (Ok t) e never a b stopped is = absurd (cc is)
cause_of tells causes before after (Ok x) (Err f) e never a b stopped is =
    let here : f ≡ e = cc is in absurd (never (subst (IsStop (settling_causes tells after)) here b))
cause_of tells causes before after (Err f) r e never a b (is_r, same) is =
    let here : f ≡ e = cc (sym is_r ∙ is) in subst (IsStop causes) here a

-- ---- files of lines

-- a disk is not both observable and not
not_told : {G : Type 0} (first before : RecordedState) → before.store.tells ≡ first.store.tells → before.store.tells ≡ false → first.store.tells ≡ true → G
not_told first before same never told = absurd (false≢true (sym never ∙ same ∙ told))

settling_session : (first before after : RecordedState) (said : Said) (e : Stop) → before.store.tells ≡ first.store.tells → IsStop (settling_causes before.store.tells after) e → IsStop (session_causes first after said) e
settling_session first before after said stop.OutOfMemory same h = tt
settling_session first before after said stop.Disk same h = tt
settling_session first before after said stop.Malformed same h = λ told apart. not_told first before same h told
settling_session first before after said stop.TooLarge same h = inr h
settling_session first before after said stop.Input same h = absurd h
settling_session first before after said stop.NotFound same h = absurd h
settling_session first before after said (stop.BadLine n) same h = absurd h
settling_session first before after said (stop.BadShard name) same h = absurd h

module _ (first before after : RecordedState) (said : Said) where
  pub stop_lines : (cleaned : Result Cleaned Stop) (r : Answer) → before.store.tells ≡ first.store.tells → IfErr cleaned (IsStop (session_causes first before said)) → OnOk cleaned (IfErr r (IsStop (settling_causes before.store.tells after)))
      → IfErr cleaned (λ e. IsErrOf r e × (after ≡ before)) → IfErr r (IsStop (session_causes first after said))
  stop_lines (Ok x) (Ok t) same a b stopped = tt
  stop_lines (Ok x) (Err e) same a b stopped = settling_session first before after said e same b
  stop_lines (Err e) (Ok t) same a b stopped = tt
  stop_lines (Err e) (Err f) same a b (is_r, kept) =
      let here : f ≡ e = cc is_r in
      subst (λ (s : RecordedState). IsStop (session_causes first s said) f) (sym kept) (subst (IsStop (session_causes first before said)) (sym here) a)

  -- good ranges have the number of one of them
  pub bounds_of_cleaned : are_good said ≡ true → (cleaned : Result Cleaned Stop) → IfOk cleaned (λ x. AreCleaned (λ _. true) (λ f. f) said.files first before x.infos.items)
      → IfOk cleaned (λ x. All (λ r. (0 < r.file) × (r.file ≤ length x.infos.items)) said.ranges)
  bounds_of_cleaned good (Ok x) c =
      let count : length x.infos.items ≡ length said.files = ap length (c.told ∙ ap (map (info_of first.store.limits)) (cleaned_files said.files first before x.infos.items c)) ∙ length-map said.files (info_of first.store.limits) in
      subst (λ (n : ℕ). All (λ r. (0 < r.file) × (r.file ≤ n)) said.ranges) (sym count) (bounds_of_good said good)
  bounds_of_cleaned good (Err e) c = tt

  lines_done : (x : Cleaned) → AreSteps first before after → AreCleaned (λ _. true) (λ f. f) said.files first before x.infos.items → IsDone first before after said.files
  lines_done x steps c =
      subst (λ (fs : List (List ℕ)). IsDone first before after fs) (cleaned_files said.files first before x.infos.items c)
      (done_of (λ _. true) (λ f. f) said.files first before after x.infos.items steps (all_tell said.files) c)

  lines_made : (x : Cleaned) → AreSteps first before after → AreCleaned (λ _. true) (λ f. f) said.files first before x.infos.items → IsSettled before after → first.store.tells ≡ true → MakesIn first.store said.files after.store
  lines_made x steps c settled told =
      subst (λ (fs : List (List ℕ)). MakesIn first.store fs after.store) (cleaned_files said.files first before x.infos.items c)
      (made_in first before after c.files c.entries c.steps c.only settled steps.flushed steps.recorded told c.recorded)

  lines_other : (x : Cleaned) → AreSteps first before after → AreCleaned (λ _. true) (λ f. f) said.files first before x.infos.items → IsSettled before after → first.store.tells ≡ true → ListsNoOther first.store said.files after.store
  lines_other x steps c settled told =
      subst (λ (fs : List (List ℕ)). ListsNoOther first.store fs after.store) (cleaned_files said.files first before x.infos.items c)
      (no_other_settled first before after c.files c.entries c.steps c.by.changes c.only settled steps.recorded steps.fresh steps.folder told)

  pub lines_answer : (ranges : List FileRange) (cleaned : Result Cleaned Stop) (r : Answer) → AreSteps first before after → ranges ≡ said.ranges → are_good said ≡ true
      → IfOk cleaned (λ x. AreCleaned (λ _. true) (λ f. f) said.files first before x.infos.items) → OnOk cleaned (OnOk r (IsSettled before after))
      → IfOk cleaned (λ x. IfOk r (λ text. (lines : List ℕ) × AreRead after.store x.infos.items ranges lines × (text.items ≡ flat_map info_line x.infos.items ++ lines)))
      → IfErr cleaned (λ e. IsErrOf r e × (after ≡ before)) → IsLinesAnswer said first.store after.store r
  lines_answer ranges (Ok x) (Ok t) steps same good c settled text stopped =
      let done = lines_done x steps c in
      let infos : x.infos.items ≡ map (info_of first.store.limits) said.files = c.told ∙ ap (map (info_of first.store.limits)) (cleaned_files said.files first before x.infos.items c) in
      record {
        report = reports first before after said done x.infos.items ranges infos same good (Ok t) settled text;
        recorded = λ told. recorded_of first before after said.files done settled told;
        made = λ told. lines_made x steps c settled told;
        other = λ told. lines_other x steps c settled told;
      }
  lines_answer ranges (Ok x) (Err e) steps same good c settled text stopped = record { report = tt; recorded = λ told. tt; made = λ told. tt; other = λ told. tt }
  lines_answer ranges (Err e) (Ok t) steps same good c settled text (is_r, kept) = absurd (cc is_r)
  lines_answer ranges (Err e) (Err f) steps same good c settled text stopped = record { report = tt; recorded = λ told. tt; made = λ told. tt; other = λ told. tt }

-- ---- files by name

pub no_bounds : (cleaned : Result Cleaned Stop) → IfOk cleaned (λ x. All (λ (r : FileRange). (0 < r.file) × (r.file ≤ length x.infos.items)) [])
no_bounds (Ok x) = λ i d below. omega arith
no_bounds (Err e) = tt

settling_naming : (inputs_tell : Bool) (inputs : Named (List ℕ)) (names : List (List ℕ)) (first before after : RecordedState) (e : Stop) → before.store.tells ≡ first.store.tells → (inputs_tell ≡ true → (files : List (List ℕ)) × AreNamed inputs names files) → IsStop (settling_causes before.store.tells after) e
    → IsStop (naming_causes inputs_tell inputs names first after) e
settling_naming it is ns first before after stop.OutOfMemory same named h = tt
settling_naming it is ns first before after stop.Disk same named h = tt
settling_naming it is ns first before after stop.Malformed same named h = λ inputs_told. let n = named inputs_told in (n.0, n.1, λ told apart. not_told first before same h told)
settling_naming it is ns first before after stop.TooLarge same named h = inr (named, h)
settling_naming it is ns first before after stop.Input same named h = absurd h
settling_naming it is ns first before after stop.NotFound same named h = absurd h
settling_naming it is ns first before after (stop.BadLine n) same named h = absurd h
settling_naming it is ns first before after (stop.BadShard name) same named h = absurd h

module _ (first before after : RecordedState) (inputs_tell : Bool) (inputs : Named (List ℕ)) (names : List (List ℕ)) where
  pub stop_names : (cleaned : Result Cleaned Stop) (r : Answer) → before.store.tells ≡ first.store.tells → (inputs_tell ≡ true → (files : List (List ℕ)) × AreNamed inputs names files) → IfErr cleaned (IsStop (naming_causes inputs_tell inputs names first before))
      → OnOk cleaned (IfErr r (IsStop (settling_causes before.store.tells after))) → IfErr cleaned (λ e. IsErrOf r e × (after ≡ before)) → IfErr r (IsStop (naming_causes inputs_tell inputs names first after))
  stop_names (Ok x) (Ok t) same named a b stopped = tt
  stop_names (Ok x) (Err e) same named a b stopped = settling_naming inputs_tell inputs names first before after e same named b
  stop_names (Err e) (Ok t) same named a b stopped = tt
  stop_names (Err e) (Err f) same named a b (is_r, kept) =
      let here : f ≡ e = cc is_r in
      subst (λ (s : RecordedState). IsStop (naming_causes inputs_tell inputs names first s) f) (sym kept) (subst (IsStop (naming_causes inputs_tell inputs names first before)) (sym here) a)

  pub names_answer : {S : Type 0} (tells : S → Bool) (left : S → List ℕ) (faults : S → ℕ) (sources : List S) (cleaned : Result Cleaned Stop) (r : Answer) → AreSteps first before after
      → Opened inputs_tell inputs tells left faults names sources → IfOk cleaned (λ x. AreCleaned tells left sources first before x.infos.items) → OnOk cleaned (OnOk r (IsSettled before after))
      → IfOk cleaned (λ x. IfOk r (λ text. (lines : List ℕ) × AreRead after.store x.infos.items [] lines × (text.items ≡ flat_map info_line x.infos.items ++ lines)))
      → IfErr cleaned (λ e. IsErrOf r e × (after ≡ before)) → IfOk r (λ text. IsCleaned inputs_tell inputs names first.store after.store text.items)
  names_answer tells left faults sources (Ok x) (Ok t) steps opened c settled (lines, none, is) stopped = record {
    files = c.files;
    named = λ told.
        subst (AreNamed inputs names) (sym (files_of_sources tells left sources c.files c.each (opened_tell inputs_tell inputs tells left faults names sources told opened))) (opened_named inputs_tell inputs tells left faults names sources told opened);
    count = count_of_sources tells left sources c.files c.each ∙ opened_count inputs_tell inputs tells left faults names sources opened;
    short = λ told. c.short (opened_tell inputs_tell inputs tells left faults names sources told opened);
    lines = is ∙ ap (λ (l : List ℕ). flat_map info_line x.infos.items ++ l) none ∙ append-nil (flat_map info_line x.infos.items) ∙ ap (flat_map info_line) c.told ∙ lines_of_infos first.store.limits c.files;
    recorded = λ inputs_told told. recorded_of first before after c.files (done inputs_told) settled told;
    made = λ told. made_in first before after c.files c.entries c.steps c.only settled steps.flushed steps.recorded told c.recorded;
    other = λ told. no_other_settled first before after c.files c.entries c.steps c.by.changes c.only settled steps.recorded steps.fresh steps.folder told;
  }
    where
      done : inputs_tell ≡ true → IsDone first before after c.files
      done inputs_told = done_of tells left sources first before after x.infos.items steps (opened_tell inputs_tell inputs tells left faults names sources inputs_told opened) c
  names_answer tells left faults sources (Ok x) (Err e) steps opened c settled text stopped = tt
  names_answer tells left faults sources (Err e) (Ok t) steps opened c settled text (is_r, kept) = absurd (cc is_r)
  names_answer tells left faults sources (Err e) (Err f) steps opened c settled text stopped = tt
