-- How the commands end that are not `pack`.
use Rattle.std.proofs.Common.{◌≡◌, ◌∙◌, inl, inr, ℕ, ◌+◌, ◌-◌, ◌<◌, ◌≤◌, true, false, List, [], ◌∷◌, length, map, replicate, Option, Some, Result, Ok, Err, IfErr, IfOk, OnOk, Vec, Global, unwrap_or, subst, refl, sym, ap, arith}
use Rattle.std.proofs.lemmas.Bool.{false≢true}
use Rattle.std.proofs.lemmas.List.{length-replicate}
use Rattle.std.specs.FinMap.{get}
use Rattle.std.specs.List.{flat_map}
use Rattle.xet_cut.specs.Generator.{generated}
use Rattle.xet_group.specs.Groups.{grouped}
use Rattle.xet_io.specs.Disk.{Files, entry_at}
use Rattle.xet_io.specs.Named.{Named}
use Rattle.xet_folder.specs.Contents.{HasTooMany}
use Rattle.xet_folder.specs.Names.{IsForeign}
use Rattle.xet_folder.specs.declared.contents.Contents.{Contents}
use Rattle.xet_store_disk.specs.Store.{Differ, recorded_files}
use Rattle.xet_program.specs.declared.ending.Stop.{Stop}
use Rattle.xet_program.specs.declared.ending.Stop.TheVariants as stop
use Rattle.xet_program.specs.internal.Answered.{Answered}
use Rattle.xet_program.specs.Answers.{AreNamed, CleanAnswer, IsRangeOf, ReadAnswer, listed_line}
use Rattle.xet_program.specs.Early.{Outcome, group_outcome, max_input, outcome}
use Rattle.xet_program.specs.Ending.{CanOpen, HasOpened, MayEnd}
use Rattle.xet_program.specs.Start.{LacksName, Start}
use Rattle.xet_program.specs.Stored.{AreStored, IsAdmittedAt, KeepsFolder, KeepsListed}
use Rattle.xet_program.specs.Reasons.{AreApart, IsMalformed}
use Rattle.xet_program.specs.Making.{IsMadeText}
use Rattle.xet_program.specs.Tasks.{IsIdle, default_limits, store_folder}
use Rattle.xet_program.specs.Words.Command.{Clean, Group, ListFiles, Make, Read}
use Rattle.xet_program.specs.internal.Cleaned.{IsCleanText}
use Rattle.xet_program.specs.internal.Stops.{ForValid, IsStop, answer_outcome, cleaning_store_causes, folder_causes, grouping_causes, making_causes, reading_range_causes}
use Rattle.xet_program.proofs.Absent.{none_absent}
use Rattle.xet_program.proofs.Answered.{malformed_of_ten, none_stored, works_same}
use Rattle.xet_program.proofs.Endings.{group_long, group_short}
use Rattle.xet_program.proofs.Outcomes.{on_nought}

-- an input of a length
some_input : (n : ℕ) → (input : List ℕ) × (length input ≡ n)
some_input n = (replicate n 0, length-replicate n 0)

long_group : (n : ℕ) → max_input < n → (input : List ℕ) × (outcome 9 [] ≡ group_outcome input)
long_group n long = let some = some_input n in (some.0, sym (group_long some.0 (omega (arith, some.1, long))))

abbrev Answer : Type 0
Answer = Result (Vec ℕ Global) Stop

module _ (start : Start) (new : Files) where
  -- ---- `list`

  abbrev Listed : List ℕ → Type 0
  Listed text = ForValid start.tells start.files start.now (λ contents. Differ (recorded_files contents.records) × (text ≡ flat_map listed_line (recorded_files contents.records)))

  end_list : (r : Answer) → IfOk r (λ text. Listed text.items) → IfErr r (IsStop (folder_causes start.tells start.now start.files)) → MayEnd (Some ListFiles) start new (answer_outcome r)
  end_list (Ok t) (contents, valid, listed) stop = MayEnd.answered (λ observes. refl) record {
    asked = ListFiles;
    is = refl;
    contents = contents;
    valid = valid;
    answer = record { rows = recorded_files contents.records; listed = λ told. refl; differ = listed.0; is = ap (outcome 0) listed.1 };
  }
  end_list (Err stop.OutOfMemory) listed h = MayEnd.stopped (inl refl) refl
  end_list (Err stop.Disk) listed h = MayEnd.stopped (inr (inr (inr (refl, tt, λ observes. refl)))) refl
  end_list (Err (stop.BadShard name)) listed h = MayEnd.refused tt (λ observes. refl) record { name = name; named = h.0; fails = h.1; is = refl }
  end_list (Err stop.Input) listed h = absurd h
  end_list (Err stop.TooLarge) listed h = MayEnd.too_many tt (λ observes. refl) h refl
  end_list (Err stop.NotFound) listed h = absurd h
  end_list (Err stop.Malformed) listed h = absurd h
  end_list (Err (stop.BadLine n)) listed h = absurd h

  pub answered_list : (r : Answer) → new ≡ start.files → IfOk r (λ text. Listed text.items) → IfErr r (IsStop (folder_causes start.tells start.now start.files)) → Answered (Some ListFiles) start new (answer_outcome r)
  answered_list r same listed stop = record {
    ends = end_list r listed stop;
    works = works_same (Some ListFiles) start new (answer_outcome r).status same (λ nought. none_stored default_limits start.now start.files new same) (λ ten. absurd (malformed_of_ten (IsStop (folder_causes start.tells start.now start.files)) r stop ten));
  }

  -- ---- `read`

  module _ (h : List ℕ) (from to : ℕ) where
    abbrev IsRead : List ℕ → Type 0
    IsRead bytes = ForValid start.tells start.files start.now (λ contents. start.tells ≡ true → IsRangeOf start.files contents.records h from to bytes)

    abbrev Causes : Stop → Type 0
    Causes reason = IsStop (reading_range_causes start.tells start.now start.files h from to) reason

    -- no name is opened, and the folder could be opened if the disk were observable
    read_opened : start.tells ≡ false → HasOpened (Some (Read h from to)) start
    read_opened never = record { early = λ observes. refl; folder = λ told. absurd (false≢true (sym never ∙ told)); names = λ inputs_told lacks. lacks }

    end_read : (r : Answer) → OnOk r (from ≤ to) → IfOk r (λ bytes. length bytes.items ≡ to - from) → IfOk r (λ bytes. IsRead bytes.items) → IfErr r Causes → MayEnd (Some (Read h from to)) start new (answer_outcome r)
    end_read (Ok t) ordered len (contents, valid, is) stop = MayEnd.answered (λ observes. refl) record { asked = Read h from to; is = refl; contents = contents; valid = valid; answer = ReadAnswer.read refl ordered len is }
    end_read (Err stop.OutOfMemory) ordered len is c = MayEnd.stopped (inl refl) refl
    end_read (Err stop.Disk) ordered len is c = MayEnd.stopped (inr (inr (inr (refl, tt, λ observes. refl)))) refl
    end_read (Err (stop.BadShard name)) ordered len is c = MayEnd.refused tt (λ observes. refl) record { name = name; named = c.0; fails = c.1; is = refl }
    end_read (Err stop.NotFound) ordered len is (contents, valid, none) = MayEnd.answered (λ observes. refl) record { asked = Read h from to; is = refl; contents = contents; valid = valid; answer = ReadAnswer.none (λ told. none) refl }
    end_read (Err stop.Malformed) ordered len is c = MayEnd.malformed (read_opened c) c refl
    end_read (Err stop.Input) ordered len is c = absurd c
    end_read (Err stop.TooLarge) ordered len is c = MayEnd.too_many tt (λ observes. refl) c refl
    end_read (Err (stop.BadLine n)) ordered len is c = absurd c

    pub answered_read : (r : Answer) → new ≡ start.files → OnOk r (from ≤ to) → IfOk r (λ bytes. length bytes.items ≡ to - from) → IfOk r (λ bytes. IsRead bytes.items) → IfErr r Causes → Answered (Some (Read h from to)) start new (answer_outcome r)
    answered_read r same ordered len is stop = record {
      ends = end_read r ordered len is stop;
      works = works_same (Some (Read h from to)) start new (answer_outcome r).status same (λ nought. none_stored default_limits start.now start.files new same) (malformed_of_ten Causes r stop);
    }

  -- ---- `clean`

  module _ (names : List (List ℕ)) where
    abbrev IsCleanOf : List ℕ → Type 0
    IsCleanOf text = ForValid start.tells start.files start.now (λ contents. IsCleanText start.inputs_tell start.inputs names start.tells start.files new start.now text)

    abbrev CleanCauses : Stop → Type 0
    CleanCauses reason = IsStop (cleaning_store_causes start.inputs_tell start.inputs names start.tells start.now start.files new) reason

    named_are : (inputs : Named (List ℕ)) (ns files : List (List ℕ)) → AreNamed inputs ns files → map (λ name. unwrap_or (get inputs name) []) ns ≡ files
    named_are inputs [] [] named = refl
    named_are inputs [] (f ∷ fs) named = absurd (cc named)
    named_are inputs (n ∷ ns) [] named = absurd (cc named)
    named_are inputs (n ∷ ns) (f ∷ fs) named =
        let here : get inputs n ≡ Some f = cc named in
        let rest : map (get inputs) ns ≡ map Some fs = cc named in
        ap (λ (o : Option (List ℕ)). unwrap_or o [] ∷ map (λ name. unwrap_or (get inputs name) []) ns) here ∙ ap (λ (xs : List (List ℕ)). f ∷ xs) (named_are inputs ns fs rest)

    malformed_clean : CleanCauses stop.Malformed → IsMalformed (Some (Clean names)) start new
    malformed_clean (contents, valid, c) = λ observes told apart.
        let m = c (observes.1 tt) in m.2 told (subst (λ (fs : List (List ℕ)). AreApart new start.now default_limits fs) (named_are start.inputs names m.0 m.1) apart)

    -- the folder was opened, and all names were found
    clean_opened : (contents : Contents) → (start.tells ≡ true → CanOpen start.files start.now contents) → (start.inputs_tell ≡ true → (found : List (List ℕ)) × AreNamed start.inputs names found) → HasOpened (Some (Clean names)) start
    clean_opened contents valid named = record {
      early = λ observes. refl;
      folder = λ told. (contents, valid told, tt);
      names = λ inputs_told lacks. let n = named inputs_told in none_absent start.inputs names n.0 lacks.0 lacks.1 n.1 lacks.2 lacks.3 lacks.4;
    }

    end_clean : (r : Answer) → IfOk r (λ text. IsCleanOf text.items) → IfErr r CleanCauses → MayEnd (Some (Clean names)) start new (answer_outcome r)
    end_clean (Ok t) (contents, valid, is) stop = MayEnd.answered (λ observes. refl) record {
      asked = Clean names;
      is = refl;
      contents = contents;
      valid = valid;
      answer = CleanAnswer.reported record { files = is.files; named = is.named; count = is.count; short = is.short; status = refl; text = is.lines; stored = is.stored };
    }
    end_clean (Err stop.OutOfMemory) is c = MayEnd.stopped (inl refl) refl
    end_clean (Err stop.Input) is (contents, valid, done) = MayEnd.stopped (inr (inr (inl (refl, tt, λ told. (contents, valid told, tt))))) refl
    end_clean (Err stop.Disk) is c = MayEnd.stopped (inr (inr (inr (refl, tt, λ observes. refl)))) refl
    end_clean (Err (stop.BadShard name)) is c = MayEnd.refused tt (λ observes. refl) record { name = name; named = c.0; fails = c.1; is = refl }
    end_clean (Err stop.NotFound) is (contents, valid, none) = MayEnd.answered (λ observes. refl) record { asked = Clean names; is = refl; contents = contents; valid = valid; answer = CleanAnswer.absent none refl }
    end_clean (Err stop.TooLarge) is (inr (inl many)) = MayEnd.too_many tt (λ observes. refl) many refl
    end_clean (Err stop.TooLarge) is (inr (inr (contents, valid, (named, many)))) = MayEnd.full tt (clean_opened contents valid named) many refl
    end_clean (Err stop.TooLarge) is (inl (contents, valid, long)) = MayEnd.answered (λ observes. refl) record { asked = Clean names; is = refl; contents = contents; valid = valid; answer = CleanAnswer.too_long long refl }
    end_clean (Err stop.Malformed) is (contents, valid, c) =
        MayEnd.malformed (clean_opened contents valid (λ told. let m = c told in (m.0, m.1))) (malformed_clean (contents, valid, c)) refl
    end_clean (Err (stop.BadLine n)) is c = absurd c

    stored_clean : (r : Answer) → IfOk r (λ text. IsCleanOf text.items) → start.inputs_tell ≡ true → start.tells ≡ true → (answer_outcome r).status ≡ 0
        → AreStored default_limits (map (λ name. unwrap_or (get start.inputs name) []) names) start.now start.files new
    stored_clean (Ok t) (contents, valid, is) inputs told nought =
        subst (λ (fs : List (List ℕ)). AreStored default_limits fs start.now start.files new) (sym (named_are start.inputs names is.files (is.named inputs))) (is.stored inputs told)
    stored_clean (Err stop.OutOfMemory) is inputs told nought = absurd (omega arith)
    stored_clean (Err stop.Disk) is inputs told nought = absurd (omega arith)
    stored_clean (Err (stop.BadShard name)) is inputs told nought = absurd (omega arith)
    stored_clean (Err stop.NotFound) is inputs told nought = absurd (omega arith)
    stored_clean (Err stop.Malformed) is inputs told nought = absurd (omega arith)
    stored_clean (Err stop.Input) is inputs told nought = absurd (omega arith)
    stored_clean (Err stop.TooLarge) is inputs told nought = absurd (omega arith)
    stored_clean (Err (stop.BadLine n)) is inputs told nought = absurd (omega arith)

    pub answered_clean : (r : Answer) → IfOk r (λ text. IsCleanOf text.items) → IfErr r CleanCauses → (start.tells ≡ true → KeepsListed start.now start.files new) → (start.tells ≡ true → KeepsFolder start.now start.files new)
        → (start.tells ≡ true → (IsAdmittedAt start.now start.files → ⊥) → new ≡ start.files) → (start.tells ≡ true → HasTooMany start.files store_folder start.now → new ≡ start.files) → (start.inputs_tell ≡ true → start.tells ≡ true → LacksName (Some (Clean names)) start → new ≡ start.files)
        → (start.tells ≡ true → IsIdle (Some (Clean names)) (answer_outcome r).status → new ≡ start.files)
        → (start.tells ≡ true → (name : List ℕ) → IsForeign store_folder name → entry_at new name ≡ entry_at start.files name) → Answered (Some (Clean names)) start new (answer_outcome r)
    answered_clean r is stop listed keeps refused overfull absent kept foreign = record {
      ends = end_clean r is stop;
      works = record {
        stored = λ observes told nought. stored_clean r is (observes.1 tt) told nought;
        listed = listed;
        keeps = keeps;
        untouched = λ observes told some. absurd (some refl);
        refused = refused;
        overfull = overfull;
        absent = absent;
        kept = kept;
        foreign = foreign;
        malformed = λ ten. malformed_clean (malformed_of_ten CleanCauses r stop ten);
      };
    }

  -- ---- `make`

  module _ (seed bytes : ℕ) where
    abbrev IsMadeOf : List ℕ → Type 0
    IsMadeOf text = ForValid start.tells start.files start.now (λ contents. IsMadeText start.tells contents new (generated seed bytes) text)

    abbrev MakeCauses : Stop → Type 0
    MakeCauses reason = IsStop (making_causes start.tells start.now start.files new (generated seed bytes)) reason

    make_opened : (contents : Contents) → (start.tells ≡ true → CanOpen start.files start.now contents) → HasOpened (Some (Make seed bytes)) start
    make_opened contents valid = record { early = λ observes. refl; folder = λ told. (contents, valid told, tt); names = λ inputs_told lacks. lacks }

    end_make : (r : Answer) → IfOk r (λ text. IsMadeOf text.items) → IfErr r MakeCauses → MayEnd (Some (Make seed bytes)) start new (answer_outcome r)
    end_make (Ok t) (contents, valid, is) stop = MayEnd.answered (λ observes. refl) record { asked = Make seed bytes; is = refl; contents = contents; valid = valid; answer = record { status = refl; text = is } }
    end_make (Err stop.OutOfMemory) is c = MayEnd.stopped (inl refl) refl
    end_make (Err stop.Disk) is c = MayEnd.stopped (inr (inr (inr (refl, tt, λ observes. refl)))) refl
    end_make (Err (stop.BadShard name)) is c = MayEnd.refused tt (λ observes. refl) record { name = name; named = c.0; fails = c.1; is = refl }
    end_make (Err stop.TooLarge) is (inl many) = MayEnd.too_many tt (λ observes. refl) many refl
    end_make (Err stop.TooLarge) is (inr (contents, valid, many)) = MayEnd.full tt (make_opened contents valid) many refl
    end_make (Err stop.Malformed) is (contents, valid, c) = MayEnd.malformed (make_opened contents valid) c refl
    end_make (Err stop.Input) is c = absurd c
    end_make (Err stop.NotFound) is c = absurd c
    end_make (Err (stop.BadLine n)) is c = absurd c

    pub answered_make : (r : Answer) → IfOk r (λ text. IsMadeOf text.items) → IfErr r MakeCauses → (start.tells ≡ true → KeepsListed start.now start.files new) → (start.tells ≡ true → KeepsFolder start.now start.files new)
        → (start.tells ≡ true → (IsAdmittedAt start.now start.files → ⊥) → new ≡ start.files) → (start.tells ≡ true → HasTooMany start.files store_folder start.now → new ≡ start.files) → (start.tells ≡ true → (answer_outcome r).status ≡ 7 → new ≡ start.files)
        → (start.tells ≡ true → (name : List ℕ) → IsForeign store_folder name → entry_at new name ≡ entry_at start.files name) → (start.tells ≡ true → OnOk r (AreStored default_limits [] start.now start.files new))
        → Answered (Some (Make seed bytes)) start new (answer_outcome r)
    answered_make r is stop listed keeps refused overfull kept foreign stored = record {
      ends = end_make r is stop;
      works = record {
        stored = λ observes told nought. on_nought (AreStored default_limits [] start.now start.files new) r nought (stored told);
        listed = listed;
        keeps = keeps;
        untouched = λ observes told some. absurd (some refl);
        refused = refused;
        overfull = overfull;
        absent = λ inputs_told told lacks. absurd lacks;
        kept = kept;
        foreign = foreign;
        malformed = λ ten. (malformed_of_ten MakeCauses r stop ten).2;
      };
    }

  -- ---- `group`

  abbrev IsGroup : List ℕ → Type 0
  IsGroup text = (bytes : List ℕ) × (start.input_tells ≡ true → bytes ≡ start.input) × (length bytes ≤ max_input) × (text ≡ grouped bytes)

  abbrev GroupCauses : Stop → Type 0
  GroupCauses reason = IsStop (grouping_causes start.input_tells start.input) reason

  end_group : (r : Answer) → IfOk r (λ text. IsGroup text.items) → IfErr r GroupCauses → MayEnd (Some Group) start new (answer_outcome r)
  end_group (Ok t) (bytes, told, short, is) c =
      let is_group : answer_outcome (Ok t) ≡ group_outcome bytes = ap (outcome 0) is ∙ sym (group_short bytes short) in
      MayEnd.early (λ observes. ap (λ (x : Outcome). Some x) (ap group_outcome (sym (told (observes.0 tt))) ∙ sym is_group)) (bytes, is_group)
  end_group (Err stop.OutOfMemory) is c = MayEnd.stopped (inl refl) refl
  end_group (Err stop.Input) is c = MayEnd.stopped (inr (inl (refl, tt))) refl
  end_group (Err stop.TooLarge) is c = MayEnd.early (λ observes. ap (λ (x : Outcome). Some x) (group_long start.input (c (observes.0 tt))))
      (long_group (max_input + 1) (omega arith))
  end_group (Err stop.Disk) is c = absurd c
  end_group (Err (stop.BadShard name)) is c = absurd c
  end_group (Err stop.NotFound) is c = absurd c
  end_group (Err stop.Malformed) is c = absurd c
  end_group (Err (stop.BadLine n)) is c = absurd c

  pub answered_group : (r : Answer) → new ≡ start.files → IfOk r (λ text. IsGroup text.items) → IfErr r GroupCauses → Answered (Some Group) start new (answer_outcome r)
  answered_group r same is stop = record {
    ends = end_group r is stop;
    works = works_same (Some Group) start new (answer_outcome r).status same (λ nought. none_stored default_limits start.now start.files new same) (λ ten. absurd (malformed_of_ten GroupCauses r stop ten));
  }
