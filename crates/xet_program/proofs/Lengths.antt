-- How long the files of an input's lines are: none is longer than the input.
use Rattle.std.proofs.Common.{◌≡◌, ◌∙◌, subst, ℕ, suc, ◌-◌, ◌≤◌, Bool, true, false, cond, leb, eqb, List, [], ◌∷◌, length, take, drop, Option, Some, None, Result, Ok, Err, codes, refl, sym, ap, arith}
use Rattle.std.proofs.lemmas.Bool.{le-leb}
use Rattle.std.proofs.lemmas.List.{length-take, length-drop}
use Rattle.std.specs.List.{AllByRecursion, list_all, onto_first, slice_split}
use Rattle.std.specs.Option.{option_map}
use Rattle.std.specs.Cmp.Lexicographic.{pointwise}
use Rattle.std.specs.Prelude.{slice_index}
use Rattle.std.specs.Str.Lines.{lines, lines_of_parts, strip_carriage_return}
use Rattle.hex.specs.Hex.{decode_of}
use Rattle.hex.specs.declared.error.FromHexError.{FromHexError}
use Rattle.hex.proofs.HexLemmas.{decode_of-ok}
use Rattle.xet_cut.specs.declared.limits.LimitSettings.{LimitSettings}
use Rattle.xet_program.specs.Allowed.{are_short}
use Rattle.xet_program.specs.declared.lines.FileRange.{FileRange}
use Rattle.xet_program.specs.Lines.{Line, decoded, file_bytes, files_of, good_lines, line_of, range_of, said, words_of}
use Rattle.xet_program.specs.Lines.Line.{FileLine, RangeLine}
use Rattle.xet_program.proofs.Said.{both_some, file_bare, file_digits, file_other, good_said}

-- each list has at most so many elements
abbrev pub AreWithin : ℕ → List (List ℕ) → Type 0
AreWithin most xs = AllByRecursion (λ x. length x ≤ most) xs

within_more : (few many : ℕ) (xs : List (List ℕ)) → few ≤ many → AreWithin few xs → AreWithin many xs
within_more few many [] more all = tt
within_more few many (x ∷ xs) more all = (omega (arith, all.0), within_more few many xs more all.1)

-- ---- lines

onto_first_within : (most b : ℕ) (parts : List (List ℕ)) → AreWithin most parts → AreWithin (suc most) (onto_first b parts)
onto_first_within most b [] all = (omega arith, tt)
onto_first_within most b (part ∷ parts) all = (omega (arith, all.0), within_more most (suc most) parts (omega arith) all.1)

parts_within : (p : ℕ → Bool) (bs : List ℕ) → AreWithin (length bs) (slice_split p bs)
parts_within p [] = (omega arith, tt)
parts_within p (b ∷ bs) = by_test (p b) (parts_within p bs)
  where
    by_test : (t : Bool) → AreWithin (length bs) (slice_split p bs) → AreWithin (suc (length bs)) (cond t ([] ∷ slice_split p bs) (onto_first b (slice_split p bs)))
    by_test true all = (omega arith, within_more (length bs) (suc (length bs)) (slice_split p bs) (omega arith) all)
    by_test false all = onto_first_within (length bs) b (slice_split p bs) all

strip_within : (line : List ℕ) → length (strip_carriage_return line) ≤ length line
strip_within line = by_test (eqb (slice_index line (length line - 1)) 13)
  where
    by_test : (t : Bool) → length (cond t (take (length line - 1) line) line) ≤ length line
    by_test true = omega (arith, length-take (length line - 1) line)
    by_test false = omega arith

lines_of_parts_within : (most : ℕ) (parts : List (List ℕ)) → AreWithin most parts → AreWithin most (lines_of_parts parts)
lines_of_parts_within most [] all = tt
lines_of_parts_within most (x ∷ []) all = by_test (eqb (length x) 0)
  where
    by_test : (t : Bool) → AreWithin most (cond t [] (x ∷ []))
    by_test true = tt
    by_test false = all
lines_of_parts_within most (x ∷ y ∷ more) all = (omega (arith, all.0, strip_within x), lines_of_parts_within most (y ∷ more) all.1)

lines_within : (input : List ℕ) → AreWithin (length input) (lines input)
lines_within input = lines_of_parts_within (length input) (slice_split (λ b. eqb b 10) input) (parts_within (λ b. eqb b 10) input)

-- ---- the files of lines

decoded_within : (digits bytes : List ℕ) (r : Result (List ℕ) FromHexError) → decode_of digits ≡ r → decoded r ≡ Some bytes → length bytes ≤ length digits
decoded_within digits bytes (Ok found) is e =
    let same : found ≡ bytes = cc e in
    omega (arith, (decode_of-ok digits found is).2, ap length same)
decoded_within digits bytes (Err error) is e = absurd (cc e)

file_bytes_within : (line bytes : List ℕ) → file_bytes line ≡ Some bytes → length bytes ≤ length line
file_bytes_within line bytes e = by_tests (pointwise eqb line (codes "file")) (pointwise eqb (take 5 line) (codes "file ")) refl refl
  where
    by_tests : (bare digits : Bool) → pointwise eqb line (codes "file") ≡ bare → pointwise eqb (take 5 line) (codes "file ") ≡ digits → length bytes ≤ length line
    by_tests true digits t u =
        let none : [] ≡ bytes = cc (sym (file_bare line t) ∙ e) in
        omega (arith, ap length none)
    by_tests false true t u =
        let within = decoded_within (drop 5 line) bytes (decode_of (drop 5 line)) refl (sym (file_digits line (decode_of (drop 5 line)) t u refl) ∙ e) in
        omega (arith, within, length-drop 5 line)
    by_tests false false t u = absurd (cc (sym (file_other line t u) ∙ e))

line_within : (most : ℕ) (line : List ℕ) (x : Line) (t : List Line) → length line ≤ most → line_of line ≡ Some x → AreWithin most (files_of t) → AreWithin most (files_of (x ∷ t))
line_within most line x t short is all = by_bytes (file_bytes line) refl is
  where
    by_range : (o : Option FileRange) → option_map RangeLine o ≡ Some x → AreWithin most (files_of (x ∷ t))
    by_range None e = absurd (cc e)
    by_range (Some r) e =
        let same : RangeLine r ≡ x = cc e in subst (λ (y : Line). AreWithin most (files_of (y ∷ t))) same all

    by_bytes : (o : Option (List ℕ)) → file_bytes line ≡ o → elim o [ Some bytes ↦ Some (FileLine bytes) | None ↦ option_map RangeLine (range_of (words_of line)) ] ≡ Some x → AreWithin most (files_of (x ∷ t))
    by_bytes None here e = by_range (range_of (words_of line)) e
    by_bytes (Some bytes) here e =
        let same : FileLine bytes ≡ x = cc e in
        let within = file_bytes_within line bytes here in
        subst (λ (y : Line). AreWithin most (files_of (y ∷ t))) same (omega (arith, short, within), all)

said_within : (most : ℕ) (ls : List (List ℕ)) (s : List Line) → AreWithin most ls → said ls ≡ Some s → AreWithin most (files_of s)
unfolding said
said_within most [] s all e =
    let none : [] ≡ s = cc e in
    rw (← none) tt
said_within most ([] ∷ ls) s all e = said_within most ls s all.1 e
said_within most ((b ∷ bs) ∷ ls) s all e =
    let (x, t, here, rest, is) = both_some (line_of (b ∷ bs)) (said ls) s e in
    rw is (line_within most (b ∷ bs) x t all.0 here (said_within most ls t all.1 rest))

-- the files of good lines
pub files_within : (input : List ℕ) (s : List Line) → good_lines (lines input) ≡ Some s → AreWithin (length input) (files_of s)
files_within input s good = said_within (length input) (lines input) s (lines_within input) (good_said (said (lines input)) s good).0

-- ---- limits

short_all : (most : ℕ) (files : List (List ℕ)) → AreWithin most files → list_all (λ f. leb (length f) most) files ≡ true
short_all most [] all = refl
short_all most (f ∷ fs) all = rw (le-leb (length f) most all.0) (short_all most fs all.1)

-- files that an input gives are short where an input may be as long
pub short_said : (s : LimitSettings) (input : List ℕ) (said : List Line) → length input ≤ s.max_source_bytes → good_lines (lines input) ≡ Some said → are_short s (files_of said) ≡ true
short_said s input said allowed good =
    short_all s.max_source_bytes (files_of said) (within_more (length input) s.max_source_bytes (files_of said) allowed (files_within input said good))
