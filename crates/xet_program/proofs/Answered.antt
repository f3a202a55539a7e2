-- What a command answers, by how it may end.
use Rattle.std.proofs.Common.{◌≡◌, ◌≢◌, ◌⊎◌, ◌∙◌, ℕ, inl, inr, List, [], subst, Option, Some, None, IfSome, Result, Ok, Err, IfErr, Vec, Global, refl, sym, ap, arith}
use Rattle.xet_io.specs.Disk.{entry_at as get}
use Rattle.xet_io.specs.Disk.{Files}
use Rattle.xet_shard_file.specs.Names.{temp_name}
use Rattle.xet_cut.specs.declared.limits.LimitSettings.{LimitSettings}
use Rattle.xet_program.specs.declared.ending.Stop.{Stop}
use Rattle.xet_program.specs.declared.ending.Stop.TheVariants as stop
use Rattle.xet_program.specs.Words.{Command}
use Rattle.xet_program.specs.Words.Command.{Pack, Clean, Make, Read, ListFiles, Group}
use Rattle.xet_program.specs.Start.{Start}
use Rattle.xet_program.specs.internal.Answered.{Answered}
use Rattle.xet_program.specs.internal.Stops.{answer_outcome}
use Rattle.xet_program.specs.Early.{IsEarly, Outcome, early_outcome, outcome}
use Rattle.xet_program.specs.Ending.{IsCutShort, MayEnd}
use Rattle.xet_program.specs.Stored.{AreStored, KeepsFolder, KeepsListed, ListsHash, Works}
use Rattle.xet_program.specs.Reasons.{IsMalformed}
use Rattle.xet_program.specs.Tasks.{IsIdle, files_to_store, limits_of}

-- ---- the statuses with which files may have changed

pub none_of_six : (a b c d e f n status : ℕ) → status ≡ n → n ≢ a → n ≢ b → n ≢ c → n ≢ d → n ≢ e → n ≢ f → (status ≡ a) ⊎ (status ≡ b) ⊎ (status ≡ c) ⊎ (status ≡ d) ⊎ (status ≡ e) ⊎ (status ≡ f) → ⊥
none_of_six a b c d e f n status is na nb nc nd ne nf (inl x) = na (sym is ∙ x)
none_of_six a b c d e f n status is na nb nc nd ne nf (inr (inl x)) = nb (sym is ∙ x)
none_of_six a b c d e f n status is na nb nc nd ne nf (inr (inr (inl x))) = nc (sym is ∙ x)
none_of_six a b c d e f n status is na nb nc nd ne nf (inr (inr (inr (inl x)))) = nd (sym is ∙ x)
none_of_six a b c d e f n status is na nb nc nd ne nf (inr (inr (inr (inr (inl x))))) = ne (sym is ∙ x)
none_of_six a b c d e f n status is na nb nc nd ne nf (inr (inr (inr (inr (inr x))))) = nf (sym is ∙ x)

not_idle : (s : LimitSettings) (workers n status : ℕ) → status ≡ n → n ≢ 2 → n ≢ 3 → n ≢ 4 → n ≢ 7 → n ≢ 8 → IsIdle (Some (Pack s workers)) status → ⊥
not_idle s workers n status is a b c d e (inl x) = a (sym is ∙ x)
not_idle s workers n status is a b c d e (inr (inl x)) = b (sym is ∙ x)
not_idle s workers n status is a b c d e (inr (inr (inl x))) = c (sym is ∙ x)
not_idle s workers n status is a b c d e (inr (inr (inr (inl x)))) = d (sym is ∙ x)
not_idle s workers n status is a b c d e (inr (inr (inr (inr x)))) = e (sym is ∙ x)

pub busy_status : (s : LimitSettings) (workers status : ℕ) → (status ≡ 0) ⊎ (status ≡ 1) ⊎ (status ≡ 5) ⊎ (status ≡ 6) ⊎ (status ≡ 9) ⊎ (status ≡ 10) → IsIdle (Some (Pack s workers)) status → ⊥
busy_status s workers status (inl is) = not_idle s workers 0 status is (λ e. omega arith) (λ e. omega arith) (λ e. omega arith) (λ e. omega arith) (λ e. omega arith)
busy_status s workers status (inr (inl is)) = not_idle s workers 1 status is (λ e. omega arith) (λ e. omega arith) (λ e. omega arith) (λ e. omega arith) (λ e. omega arith)
busy_status s workers status (inr (inr (inl is))) = not_idle s workers 5 status is (λ e. omega arith) (λ e. omega arith) (λ e. omega arith) (λ e. omega arith) (λ e. omega arith)
busy_status s workers status (inr (inr (inr (inl is)))) = not_idle s workers 6 status is (λ e. omega arith) (λ e. omega arith) (λ e. omega arith) (λ e. omega arith) (λ e. omega arith)
busy_status s workers status (inr (inr (inr (inr (inl is))))) = not_idle s workers 9 status is (λ e. omega arith) (λ e. omega arith) (λ e. omega arith) (λ e. omega arith) (λ e. omega arith)
busy_status s workers status (inr (inr (inr (inr (inr is))))) = not_idle s workers 10 status is (λ e. omega arith) (λ e. omega arith) (λ e. omega arith) (λ e. omega arith) (λ e. omega arith)

cut_idle : (s : LimitSettings) (workers status : ℕ) → IsCutShort status → IsIdle (Some (Pack s workers)) status → ⊥
cut_idle s workers status (inl one) = busy_status s workers status (inr (inl one))
cut_idle s workers status (inr five) = busy_status s workers status (inr (inr (inl five)))

cut_clean : (names : List (List ℕ)) (status : ℕ) → IsCutShort status → IsIdle (Some (Clean names)) status → ⊥
cut_clean names status (inl one) (inl seven) = omega arith
cut_clean names status (inl one) (inr eight) = omega arith
cut_clean names status (inr five) (inl seven) = omega arith
cut_clean names status (inr five) (inr eight) = omega arith

cut_make : (seed bytes status : ℕ) → IsCutShort status → IsIdle (Some (Make seed bytes)) status → ⊥
cut_make seed bytes status (inl one) seven = omega arith
cut_make seed bytes status (inr five) seven = omega arith

cut_nought : (status : ℕ) → IsCutShort status → status ≡ 0 → ⊥
cut_nought status (inl one) nought = omega arith
cut_nought status (inr five) nought = omega arith

cut_ten : (status : ℕ) → IsCutShort status → status ≡ 10 → ⊥
cut_ten status (inl one) ten = omega arith
cut_ten status (inr five) ten = omega arith

-- a status that is cut short says no more of files than the one that was due
kept_cut : (command : Option Command) (X : Type 0) (status other : ℕ) → IsCutShort status → (IsIdle command other → X) → IsIdle command status → X
kept_cut None X status other cut kept idle = kept tt
kept_cut (Some (Pack s workers)) X status other cut kept idle = absurd (cut_idle s workers status cut idle)
kept_cut (Some (Clean names)) X status other cut kept idle = absurd (cut_clean names status cut idle)
kept_cut (Some (Make seed bytes)) X status other cut kept idle = absurd (cut_make seed bytes status cut idle)
kept_cut (Some (Read h from to)) X status other cut kept idle = kept tt
kept_cut (Some ListFiles) X status other cut kept idle = kept tt
kept_cut (Some Group) X status other cut kept idle = kept tt

-- status 10 is that of a stored xorb that changed
pub malformed_of_ten : (P : Stop → Type 0) (r : Result (Vec ℕ Global) Stop) → IfErr r P → (answer_outcome r).status ≡ 10 → P stop.Malformed
malformed_of_ten P (Ok t) stops ten = absurd (omega arith)
malformed_of_ten P (Err stop.OutOfMemory) stops ten = absurd (omega arith)
malformed_of_ten P (Err stop.Input) stops ten = absurd (omega arith)
malformed_of_ten P (Err stop.Disk) stops ten = absurd (omega arith)
malformed_of_ten P (Err stop.TooLarge) stops ten = absurd (omega arith)
malformed_of_ten P (Err stop.NotFound) stops ten = absurd (omega arith)
malformed_of_ten P (Err stop.Malformed) stops ten = stops
malformed_of_ten P (Err (stop.BadLine n)) stops ten = absurd (omega arith)
malformed_of_ten P (Err (stop.BadShard name)) stops ten = absurd (omega arith)

-- no files are stored
pub none_stored : (s : LimitSettings) (now : ℕ) (old new : Files) → new ≡ old → AreStored s [] now old new
none_stored s now old new same = record {
  recorded = λ apart. tt;
  made = tt;
  only = λ h listed. inl (subst (λ (x : Files). ListsHash x now h) same listed);
  tidy = λ name. inl (ap (λ (x : Files). get x (temp_name name)) same);
}

pub listed_same : (now : ℕ) (files : Files) → KeepsListed now files files
listed_same now files = record { listed = λ later since f is. is; resolves = λ later since f is chunks resolves. resolves }

pub folder_same : (now : ℕ) (files : Files) → KeepsFolder now files files
folder_same now files = record {
  xorbs = λ h is. inl refl;
  shards = λ h is. inl refl;
  valid = λ shard there v. refl;
  named = λ h is. refl;
  newly = λ h is. inl is;
  admitted = λ was. was;
}

module _ (command : Option Command) (start : Start) where
  abbrev Stored : Files → Type 0
  Stored new = IfSome command (λ c. AreStored (limits_of c) (files_to_store c start) start.now start.files new)

  -- a run that changes no file
  pub works_same : (new : Files) (status : ℕ) → new ≡ start.files → (status ≡ 0 → Stored new) → (status ≡ 10 → IsMalformed command start new) → Works command start new status
  works_same new status same stored fine = record {
    stored = λ observes told nought. stored nought;
    listed = λ told. subst (λ (x : Files). KeepsListed start.now start.files x) (sym same) (listed_same start.now start.files);
    keeps = λ told. subst (λ (x : Files). KeepsFolder start.now start.files x) (sym same) (folder_same start.now start.files);
    untouched = λ observes told some. same;
    refused = λ told never. same;
    overfull = λ told many. same;
    absent = λ inputs_told told lacks. same;
    kept = λ told idle. same;
    foreign = λ told name is. ap (λ (x : Files). get x name) same;
    malformed = fine;
  }

  pub works_idle : (new : Files) (status : ℕ) → new ≡ start.files → status ≢ 0 → status ≢ 10 → Works command start new status
  works_idle new status same some fine = works_same new status same (λ nought. absurd (some nought)) (λ ten. absurd (fine ten))

  module _ (new : Files) where
    -- one that is cut short
    works_cut : (status other : ℕ) → Works command start new other → IsCutShort status → Works command start new status
    works_cut status other works cut = record {
      stored = λ observes told nought. absurd (cut_nought status cut nought);
      listed = works.listed;
      keeps = works.keeps;
      untouched = works.untouched;
      refused = works.refused;
      overfull = works.overfull;
      absent = works.absent;
      kept = λ told idle. kept_cut command (new ≡ start.files) status other cut (works.kept told) idle;
      foreign = works.foreign;
      malformed = λ ten. absurd (cut_ten status cut ten);
    }

    pub works_printed : (status other : ℕ) → Works command start new other → (status ≡ other) ⊎ IsCutShort status → Works command start new status
    works_printed status other works (inl same) = subst (Works command start new) (sym same) works
    works_printed status other works (inr cut) = works_cut status other works cut

    -- an answer whose text found no memory is out of memory
    pub answered_told : (o e : Outcome) → Answered command start new o → (e ≡ o) ⊎ (e ≡ outcome 1 []) → Answered command start new e
    answered_told o e is (inl same) = subst (Answered command start new) (sym same) is
    answered_told o e is (inr none) = subst (Answered command start new) (sym none) (record { ends = MayEnd.stopped (inl refl) refl; works = works_cut 1 o.status is.works (inl refl) })

  -- ---- invalid arguments

  pub answered_words : command ≡ None → Answered command start start.files (outcome 2 [])
  answered_words none = record {
    ends = MayEnd.early (λ observes. ap (λ (c : Option Command). early_outcome c start.input) none) (subst (λ (c : Option Command). IsEarly c (outcome 2 [])) (sym none) refl);
    works = works_idle start.files 2 refl (λ e. omega arith) (λ e. omega arith);
  }

  -- ---- out of memory before the command is known

  pub answered_memory : Answered command start start.files (outcome 1 [])
  answered_memory = record {
    ends = MayEnd.stopped (inl refl) refl;
    works = works_idle start.files 1 refl (λ e. omega arith) (λ e. omega arith);
  }
