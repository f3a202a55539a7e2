-- A report of lines that were read is one of what the input says.
use Rattle.std.proofs.Common.{◌≡◌, ◌∙◌, ℕ, Bool, true, false, List, [], ◌∷◌, subst, Some, Result, Ok, Err, IfOk, Vec, Global, refl, sym, ap}
use Rattle.std.specs.Str.Lines.{lines}
use Rattle.xet_io.specs.Disk.{Files}
use Rattle.xet_cut.specs.declared.limits.LimitSettings.{LimitSettings}
use Rattle.xet_program.specs.declared.ending.Stop.{Stop}
use Rattle.xet_program.specs.declared.lines.FileRange.{FileRange}
use Rattle.xet_program.specs.Start.{Start}
use Rattle.xet_program.specs.Lines.{Line, files_of, good_lines, ranges_of}
use Rattle.xet_program.specs.Lines.Line.{FileLine, RangeLine}
use Rattle.xet_program.specs.Early.{lines_said}
use Rattle.xet_program.specs.Answers.{AreSeparate, PackAnswer}
use Rattle.xet_program.specs.internal.Parsing.{ForLines, IsSaid, Said, are_good, parted}
use Rattle.xet_program.specs.Report.{IsReport}
use Rattle.xet_program.specs.Stored.{AreStored}
use Rattle.xet_program.specs.internal.Stops.{answer_outcome}
use Rattle.xet_program.proofs.Outcomes.{StandsAt}

-- ---- lines that say what was read

abbrev range_lines : List FileRange → List Line
range_lines [] = []
range_lines (r ∷ rs) = RangeLine r ∷ range_lines rs

abbrev file_lines : List (List ℕ) → List Line → List Line
file_lines [] rest = rest
file_lines (f ∷ fs) rest = FileLine f ∷ file_lines fs rest

no_files : (rs : List FileRange) → files_of (range_lines rs) ≡ []
no_files [] = refl
no_files (r ∷ rs) = no_files rs

all_ranges : (rs : List FileRange) → ranges_of (range_lines rs) ≡ rs
all_ranges [] = refl
all_ranges (r ∷ rs) = ap (λ (qs : List FileRange). r ∷ qs) (all_ranges rs)

all_files : (fs : List (List ℕ)) (rest : List Line) → files_of rest ≡ [] → files_of (file_lines fs rest) ≡ fs
all_files [] rest none = none
all_files (f ∷ fs) rest none = ap (λ (gs : List (List ℕ)). f ∷ gs) (all_files fs rest none)

same_ranges : (fs : List (List ℕ)) (rest : List Line) → ranges_of (file_lines fs rest) ≡ ranges_of rest
same_ranges [] rest = refl
same_ranges (f ∷ fs) rest = same_ranges fs rest

abbrev lines_for : Said → List Line
lines_for said = file_lines said.files (range_lines said.ranges)

parted_for : (said : Said) → parted (lines_for said) ≡ said
parted_for said = λ i. record {
  files = all_files said.files (range_lines said.ranges) (no_files said.ranges) i;
  ranges = (same_ranges said.files (range_lines said.ranges) ∙ all_ranges said.ranges) i;
}

-- ---- reports

module _ (s : LimitSettings) (workers : ℕ) (start : Start) (new : Files) (said : Said) where
  abbrev IsReportOfLines : List ℕ → Type 0
  IsReportOfLines text = ForLines said (λ l. IsReport (AreSeparate start.tells new start.now s (files_of l)) s l text)

  of_these : (t : Vec ℕ Global) (l : List Line) → parted l ≡ said → (start.input_tells ≡ true → good_lines (lines start.input) ≡ Some l) → are_good said ≡ true → IsReportOfLines t.items
      → StandsAt s workers start new said (Ok t) → PackAnswer s start new (answer_outcome (Ok t))
  of_these t l parts is good report stands = record {
    said = l;
    good = is;
    ranges_good = subst (λ (x : Said). are_good x ≡ true) (sym parts) good;
    status = refl;
    report = report l parts;
    stored = λ told. subst (λ (x : Said). AreStored s x.files start.now start.files new) (sym parts) (stands.stored told);
  }

  -- of what the input says, where that is observable
  of_lines : (t : Vec ℕ Global) (input_tells : Bool) → start.input_tells ≡ input_tells → (start.input_tells ≡ true → IsSaid start.input said) → are_good said ≡ true → IsReportOfLines t.items
      → StandsAt s workers start new said (Ok t) → PackAnswer s start new (answer_outcome (Ok t))
  of_lines t true told is good report stands = of_these t (lines_said (lines start.input)) (is told).parts (λ _. (is told).good) good report stands
  of_lines t false told is good report stands = of_these t (lines_for said) (parted_for said) (λ here. absurd (cc (sym told ∙ here))) good report stands

  pub report_of_lines : (r : Result (Vec ℕ Global) Stop) → (start.input_tells ≡ true → IsSaid start.input said) → are_good said ≡ true → IfOk r (λ text. IsReportOfLines text.items)
      → StandsAt s workers start new said r → IfOk r (λ text. PackAnswer s start new (answer_outcome (Ok text)))
  report_of_lines (Ok t) is good report stands = of_lines t start.input_tells refl is good report stands
  report_of_lines (Err stop) is good report stands = tt
