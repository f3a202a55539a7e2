-- How `pack` ends, by what it has read.
use Rattle.std.proofs.Common.{◌≡◌, ◌≢◌, ◌∙◌, ℕ, ◌<◌, ◌≤◌, inl, inr, Bool, true, false, cond, List, [], length, subst, Option, Some, None, Result, Ok, Err, IfOk, IfErr, OnOk, Vec, Global, unwrap_or, refl, sym, ap, arith}
use Rattle.std.proofs.lemmas.Bool.{cases_lt, false≢true, lt-ltb, le-ltb}
use Rattle.std.proofs.Math.Nat.{le_trans}
use Rattle.xet_io.specs.Disk.{entry_at as get}
use Rattle.std.specs.Option.{option_map}
use Rattle.std.specs.Str.Lines.{lines}
use Rattle.xet_io.specs.Disk.{Files}
use Rattle.xet_io.specs.Whole.{ReadsAll}
use Rattle.xet_io.specs.declared.whole.Unread.{Unread}
use Rattle.xet_io.specs.declared.whole.Unread.TheVariants as unread
use Rattle.xet_folder.specs.declared.contents.Contents.{Contents}
use Rattle.xet_folder.specs.Contents.{HasTooMany}
use Rattle.xet_folder.specs.Names.{IsForeign}
use Rattle.xet_cut.specs.declared.limits.LimitSettings.{LimitSettings}
use Rattle.xet_program.specs.declared.ending.Stop.{Stop}
use Rattle.xet_program.specs.declared.ending.Stop.TheVariants.{OutOfMemory, Input, TooLarge, BadLine, NotFound, Disk, BadShard, Malformed}
use Rattle.xet_program.specs.Words.Command.{Pack}
use Rattle.xet_program.specs.Start.{Start}
use Rattle.xet_program.specs.Lines.{Line, first_bad, good_lines}
use Rattle.xet_program.specs.Early.{Outcome, bad_line_text, by_lines, lines_said, max_input, outcome, pack_early}
use Rattle.xet_program.specs.Tasks.{IsIdle, store_folder}
use Rattle.xet_program.specs.Allowed.{are_short}
use Rattle.xet_program.specs.Reasons.{AreApart, IsMalformed}
use Rattle.xet_store.specs.Recorded.{RecordedState}
use Rattle.xet_program.specs.internal.Answered.{Answered}
use Rattle.xet_program.specs.Answers.{PackAnswer}
use Rattle.xet_program.specs.Ending.{CanOpen, HasOpened, MayEnd}
use Rattle.xet_program.specs.internal.Parsing.{IsSaid, Said, are_good, parted}
use Rattle.xet_program.specs.internal.Stops.{IsStop, answer_outcome, parsing_causes, reading_causes, session_causes, stop_of_unread, storing_causes}
use Rattle.xet_program.specs.Stored.{AreStored, IsAdmittedAt, KeepsFolder, KeepsListed, Works}
use Rattle.xet_program.proofs.Answered.{busy_status, malformed_of_ten, works_idle}
use Rattle.xet_program.proofs.Lengths.{short_said}
use Rattle.xet_program.proofs.Said.{good_parted}

pub pack_too_long : (input : List ℕ) → max_input < length input → pack_early input ≡ Some (outcome 9 [])
unfolding pack_early
pack_too_long input long = rw (lt-ltb max_input (length input) long, pack_early) refl

pack_short : (input : List ℕ) → length input ≤ max_input → pack_early input ≡ by_lines (first_bad (lines input)) (lines_said (lines input))
unfolding pack_early
pack_short input short = rw (le-ltb max_input (length input) short, pack_early) refl

pub short_input : (input : List ℕ) → pack_early input ≡ None → length input ≤ max_input
short_input input none = elim (cases_lt max_input (length input)) [
  | inl long ↦ absurd (cc (sym (pack_too_long input long) ∙ none))
  | inr short ↦ short
]

-- an input that was not read
pub stop_unread : (tells : Bool) (left rest : List ℕ) (u : Unread) → (tells ≡ true → ReadsAll max_input left (Err u) rest) → IsStop (reading_causes tells left) (stop_of_unread u)
stop_unread tells left rest unread.OutOfMemory h = tt
stop_unread tells left rest unread.Failed h = tt
stop_unread tells left rest unread.TooLong h = λ told. pack_too_long left (h told).0

-- what is read of lines that are all good
abbrev Says : List (List ℕ) → Said → Type 0
Says ls said = (first_bad ls ≡ None) × (option_map parted (good_lines ls) ≡ Some said)

-- by the ranges of good lines
abbrev by_outcome : Bool → Option Outcome
by_outcome good = cond good None (Some (outcome 8 []))

-- an input that was read
module _ (input read : List ℕ) (same : read ≡ input) (short : length input ≤ max_input) where
  -- with a bad line
  early_bad : (n : ℕ) → first_bad (lines read) ≡ Some n → pack_early input ≡ Some (outcome 3 (bad_line_text n))
  early_bad n bad =
      pack_short input short ∙ ap (λ (o : Option ℕ). by_lines o (lines_said (lines input))) (ap (λ (x : List ℕ). first_bad (lines x)) (sym same) ∙ bad)

  -- whose lines are good
  said_parts : (said : Said) → Says (lines read) said → (good_lines (lines input) ≡ Some (lines_said (lines input))) × (parted (lines_said (lines input)) ≡ said)
  said_parts said (none, good) =
      let m = good_parted (lines input) said (subst (λ (x : List ℕ). option_map parted (good_lines (lines x)) ≡ Some said) same good) in
      let the_said : lines_said (lines input) ≡ m.0 = ap (λ (o : Option (List Line)). unwrap_or o []) m.1 in
      (m.1 ∙ ap (λ (l : List Line). Some l) (sym the_said), ap parted the_said ∙ m.2)

  by_good : (said : Said) → Says (lines read) said → (t : Bool) → are_good said ≡ t → pack_early input ≡ by_outcome t
  by_good said h t e =
      pack_short input short ∙ ap (λ (o : Option ℕ). by_lines o (lines_said (lines input))) (ap (λ (x : List ℕ). first_bad (lines x)) (sym same) ∙ h.0)
      ∙ ap by_outcome (ap are_good (said_parts said h).1 ∙ e)

  pub early_good : (said : Said) → Says (lines read) said → are_good said ≡ true → IsSaid input said
  early_good said h good = record { fine = by_good said h true good; good = (said_parts said h).0; parts = (said_parts said h).1 }

  -- with a bad range
  pub early_range : (said : Said) → Says (lines read) said → are_good said ≡ false → pack_early input ≡ Some (outcome 8 [])
  early_range said h bad = by_good said h false bad

-- a stop while its lines are parsed
pub stop_parsing : (tells : Bool) (input read : List ℕ) → (tells ≡ true → (read ≡ input) × (length input ≤ max_input)) → (stop : Stop) → IsStop (parsing_causes (lines read)) stop
    → IsStop (reading_causes tells input) stop
stop_parsing tells input read is OutOfMemory h = tt
stop_parsing tells input read is (BadLine n) h = λ told. early_bad input read (is told).0 (is told).1 n h
stop_parsing tells input read is Input h = absurd h
stop_parsing tells input read is TooLarge h = absurd h
stop_parsing tells input read is NotFound h = absurd h
stop_parsing tells input read is Disk h = absurd h
stop_parsing tells input read is (BadShard name) h = absurd h
stop_parsing tells input read is Malformed h = absurd h

-- ---- how a run is to end

-- where an input may be as long as a source, the files of its good lines are short
pub short_files : (s : LimitSettings) (input : List ℕ) (said : Said) → max_input ≤ s.max_source_bytes → IsSaid input said → are_short s said.files ≡ true
short_files s input said allowed is =
    subst (λ (x : Said). are_short s x.files ≡ true) is.parts (short_said s input (lines_said (lines input)) (le_trans (short_input input is.fine) allowed) is.good)

-- a session may have changed files at each of its stops
pub never_idle : (X : Type 0) (l : LimitSettings) (workers : ℕ) (s t : RecordedState) (said : Said) (r : Result (Vec ℕ Global) Stop) → IfErr r (IsStop (session_causes s t said)) → IsIdle (Some (Pack l workers)) (answer_outcome r).status → X
never_idle X l workers s t said (Ok x) stop = λ idle. absurd (busy_status l workers 0 (inl refl) idle)
never_idle X l workers s t said (Err OutOfMemory) stop = λ idle. absurd (busy_status l workers 1 (inr (inl refl)) idle)
never_idle X l workers s t said (Err Disk) stop = λ idle. absurd (busy_status l workers 6 (inr (inr (inr (inl refl)))) idle)
never_idle X l workers s t said (Err TooLarge) stop = λ idle. absurd (busy_status l workers 9 (inr (inr (inr (inr (inl refl))))) idle)
never_idle X l workers s t said (Err Malformed) stop = λ idle. absurd (busy_status l workers 10 (inr (inr (inr (inr (inr refl))))) idle)
never_idle X l workers s t said (Err Input) stop = absurd stop
never_idle X l workers s t said (Err NotFound) stop = absurd stop
never_idle X l workers s t said (Err (BadLine n)) stop = absurd stop
never_idle X l workers s t said (Err (BadShard name)) stop = absurd stop

-- ---- how `pack` ends if its input is not good

stop_status : (tells : Bool) (input : List ℕ) (stop : Stop) → IsStop (reading_causes tells input) stop → ((answer_outcome (Err stop)).status ≢ 0) × ((answer_outcome (Err stop)).status ≢ 10)
stop_status tells input OutOfMemory h = (λ e. omega arith, λ e. omega arith)
stop_status tells input Input h = (λ e. omega arith, λ e. omega arith)
stop_status tells input Disk h = absurd h
stop_status tells input Malformed h = absurd h
stop_status tells input (BadShard name) h = absurd h
stop_status tells input TooLarge h = (λ e. omega arith, λ e. omega arith)
stop_status tells input NotFound h = (λ e. omega arith, λ e. omega arith)
stop_status tells input (BadLine n) h = (λ e. omega arith, λ e. omega arith)

module _ (s : LimitSettings) (workers : ℕ) (start : Start) where
  end_unread : (stop : Stop) → IsStop (reading_causes start.input_tells start.input) stop → MayEnd (Some (Pack s workers)) start start.files (answer_outcome (Err stop))
  end_unread OutOfMemory h = MayEnd.stopped (inl refl) refl
  end_unread Input h = MayEnd.stopped (inr (inl (refl, tt))) refl
  end_unread Disk h = absurd h
  end_unread Malformed h = absurd h
  end_unread (BadShard name) h = absurd h
  end_unread TooLarge h = MayEnd.early (λ observes. h (observes.0 tt)) (inr (inl refl))
  end_unread NotFound h = MayEnd.early (λ observes. h (observes.0 tt)) (inl refl)
  end_unread (BadLine n) h = MayEnd.early (λ observes. h (observes.0 tt)) (inr (inr (n, refl)))

  pub answered_unread : (stop : Stop) → IsStop (reading_causes start.input_tells start.input) stop → Answered (Some (Pack s workers)) start start.files (answer_outcome (Err stop))
  answered_unread stop h = record {
    ends = end_unread stop h;
    works = works_idle (Some (Pack s workers)) start start.files (answer_outcome (Err stop)).status refl (stop_status start.input_tells start.input stop h).0 (stop_status start.input_tells start.input stop h).1;
  }

-- ---- how it ends if its input is good

-- with status 0 there is a report
pub on_nought : (X : Type 0) (r : Result (Vec ℕ Global) Stop) → (answer_outcome r).status ≡ 0 → OnOk r X → X
on_nought X (Ok t) nought is = is
on_nought X (Err OutOfMemory) nought is = absurd (omega arith)
on_nought X (Err Input) nought is = absurd (omega arith)
on_nought X (Err Disk) nought is = absurd (omega arith)
on_nought X (Err Malformed) nought is = absurd (omega arith)
on_nought X (Err TooLarge) nought is = absurd (omega arith)
on_nought X (Err NotFound) nought is = absurd (omega arith)
on_nought X (Err (BadLine n)) nought is = absurd (omega arith)
on_nought X (Err (BadShard name)) nought is = absurd (omega arith)

pub on_ok_given : {T E X : Type 0} (r : Result T E) → X → OnOk r X
on_ok_given (Ok t) x = x
on_ok_given (Err e) x = tt

pub on_ok_both : {T E A B X : Type 0} (r : Result T E) → (A → B → X) → OnOk r A → OnOk r B → OnOk r X
on_ok_both (Ok t) f a b = f a b
on_ok_both (Err e) f a b = tt

-- what storing its files does to those of the disk, by the result
pub record StandsAt (s : LimitSettings) (workers : ℕ) (start : Start) (new : Files) (said : Said) (r : Result (Vec ℕ Global) Stop) : Type 0 where
  pub stored : start.tells ≡ true → OnOk r (AreStored s said.files start.now start.files new)
  pub listed : start.tells ≡ true → KeepsListed start.now start.files new
  pub keeps : start.tells ≡ true → KeepsFolder start.now start.files new
  pub refused : start.tells ≡ true → (IsAdmittedAt start.now start.files → ⊥) → new ≡ start.files
  pub overfull : start.tells ≡ true → HasTooMany start.files store_folder start.now → new ≡ start.files
  pub kept : start.tells ≡ true → IsIdle (Some (Pack s workers)) (answer_outcome r).status → new ≡ start.files
  pub foreign : start.tells ≡ true → (name : List ℕ) → IsForeign store_folder name → get new name ≡ get start.files name

module _ (s : LimitSettings) (workers : ℕ) (start : Start) (new : Files) (said : Said) where
  abbrev Valid : Type 0
  Valid = (contents : Contents) × (start.tells ≡ true → CanOpen start.files start.now contents)

  -- collisions among its files are those of what the input says
  malformed_said : (start.input_tells ≡ true → IsSaid start.input said) → (start.tells ≡ true → AreApart new start.now s said.files → ⊥) → IsMalformed (Some (Pack s workers)) start new
  malformed_said is never = λ observes told apart. never told (subst (λ (x : Said). AreApart new start.now s x.files) (is (observes.0 tt)).parts apart)

  -- the folder was opened
  pack_opened : (start.input_tells ≡ true → IsSaid start.input said) → (contents : Contents) → (start.tells ≡ true → CanOpen start.files start.now contents) → HasOpened (Some (Pack s workers)) start
  pack_opened is contents can = record { early = λ observes. (is (observes.0 tt)).fine; folder = λ told. (contents, can told, tt); names = λ inputs_told lacks. lacks }

  end_read : (r : Result (Vec ℕ Global) Stop) → (start.input_tells ≡ true → IsSaid start.input said) → are_short s said.files ≡ true → OnOk r Valid
      → IfErr r (IsStop (storing_causes start.tells s said start.now start.files new)) → IfOk r (λ text. PackAnswer s start new (answer_outcome (Ok text))) → MayEnd (Some (Pack s workers)) start new (answer_outcome r)
  end_read (Ok t) is short valid stop report =
      MayEnd.answered (λ observes. (is (observes.0 tt)).fine) record { asked = Pack s workers; is = refl; contents = valid.0; valid = valid.1; answer = report }
  end_read (Err OutOfMemory) is short valid stop report = MayEnd.stopped (inl refl) refl
  end_read (Err Disk) is short valid stop report = MayEnd.stopped (inr (inr (inr (refl, tt, λ observes. (is (observes.0 tt)).fine)))) refl
  end_read (Err TooLarge) is short valid (inl long) report = absurd (false≢true (sym long ∙ short))
  end_read (Err TooLarge) is short valid (inr (inl many)) report = MayEnd.too_many tt (λ observes. (is (observes.0 tt)).fine) many refl
  end_read (Err TooLarge) is short valid (inr (inr (contents, can, many))) report = MayEnd.full tt (pack_opened is contents can) many refl
  end_read (Err (BadShard name)) is short valid stop report = MayEnd.refused tt (λ observes. (is (observes.0 tt)).fine) record { name = name; named = stop.0; fails = stop.1; is = refl }
  end_read (Err Malformed) is short valid (contents, can, never) report = MayEnd.malformed (pack_opened is contents can) (malformed_said is never) refl
  end_read (Err Input) is short valid stop report = absurd stop
  end_read (Err NotFound) is short valid stop report = absurd stop
  end_read (Err (BadLine n)) is short valid stop report = absurd stop

  works_read : (r : Result (Vec ℕ Global) Stop) → (start.input_tells ≡ true → IsSaid start.input said) → IfErr r (IsStop (storing_causes start.tells s said start.now start.files new)) → StandsAt s workers start new said r
      → Works (Some (Pack s workers)) start new (answer_outcome r).status
  works_read r is stop stands = record {
    stored = λ observes told nought.
        subst (λ (x : Said). AreStored s x.files start.now start.files new) (sym (is (observes.0 tt)).parts) (on_nought (AreStored s said.files start.now start.files new) r nought (stands.stored told));
    listed = stands.listed;
    keeps = stands.keeps;
    untouched = λ observes told some. absurd (some (is (observes.0 tt)).fine);
    refused = stands.refused;
    overfull = stands.overfull;
    absent = λ inputs_told told lacks. absurd lacks;
    kept = stands.kept;
    foreign = stands.foreign;
    malformed = λ ten. malformed_said is (malformed_of_ten (IsStop (storing_causes start.tells s said start.now start.files new)) r stop ten).2;
  }

  pub answered_read : (r : Result (Vec ℕ Global) Stop) → (start.input_tells ≡ true → IsSaid start.input said) → are_short s said.files ≡ true → OnOk r Valid
      → IfErr r (IsStop (storing_causes start.tells s said start.now start.files new)) → IfOk r (λ text. PackAnswer s start new (answer_outcome (Ok text))) → StandsAt s workers start new said r
      → Answered (Some (Pack s workers)) start new (answer_outcome r)
  answered_read r is short valid stop report stands = record { ends = end_read r is short valid stop report; works = works_read r is stop stands }
