-- Words as numbers, gear tables and commands.
use Rattle.std.proofs.Common.{◌≡◌, ◌≢◌, ◌∙◌, ℕ, zero, suc, ◌*◌, ◌/◌, ◌^◌, ◌<◌, ◌≤◌, Bool, true, false, cond, eqb, ltb, leb, nat_lt, min, lit<, lit≤, List, [], ◌∷◌, length, map, replicate, Option, Some, None, Result, Ok, Err, IsTrue, codes, refl, sym, ap, inl, inr, arith, rules}
use Rattle.std.proofs.lemmas.Bool.{and_parts, false≢true, leb-true, lt-ltb, cases_lt, le-ltb}
use Rattle.std.proofs.lemmas.Bool.Decides.{nat_tests}
use Rattle.std.proofs.lemmas.Str.{IsUtf8-from_ascii}
use Rattle.std.proofs.lemmas.Str.Parse.{IsNumeralModel, not_in_digits, numerals_by_value, parse_plain}
use Rattle.std.proofs.Math.Nat.{div-lt_iff_lt-mul}
use Rattle.std.specs.Bool.{then_some}
use Rattle.std.specs.Char.{is_ascii_digit}
use Rattle.std.specs.Int.{is_power_of_two}
use Rattle.std.specs.List.{list_all, list_any}
use Rattle.std.specs.Option.{option_map, option_and_then}
use Rattle.std.specs.Prelude.{IfSome, ◌||◌}
use Rattle.std.specs.Result.{OkIff, result_ok}
use Rattle.std.specs.Str.{IsAscii, IsUtf8, bytes_eq}
use Rattle.std.specs.Str.Parse.{ParsesUnsigned, digits_value}
use Rattle.std.specs.Cmp.Lexicographic.{bytes_decides}
use Rattle.xet_cut.specs.Limits.{bad_field, is_between, shown_settings}
use Rattle.xet_cut.specs.Generator.{gear_table}
use Rattle.xet_cut.specs.theorems.Ranges.{none_bad}
use Rattle.xet_arguments.specs.Arguments.{is_option, three_of, two_of, two_or_three_of}
use Rattle.xet_program.specs.Words.{Command}
use Rattle.xet_program.specs.Words.Command.{Clean, ListFiles, Make, Group}
use Rattle.xet_program.specs.declared.words.Command.{Command as Parsed}
use Rattle.xet_program.specs.internal.Asked.{AllowsInput, asked, workers_given}
use Rattle.xet_program.specs.Early.{max_input}
use Rattle.xet_program.specs.Words.{alone, clean_of, command_by, command_of, gear_of, hash_of_text, is_digits, is_target, make_by, make_of, max_generated, max_names, number_of, pack_by, pack_of, pack_settings, read_by, read_of, target_if, target_of, workers_if, workers_of}

-- ---- numbers

own : IsNumeralModel (λ ds. list_all is_ascii_digit ds ≡ true) (digits_value 10)
own = numerals_by_value _ (search rules)

abbrev Fits : List ℕ → Type 0
Fits word = (list_all is_ascii_digit word ≡ true) × (0 < length word) × (digits_value 10 word < 2 ^ 64)

number_value : {E : Type 0} (word : List ℕ) (r : Result ℕ E) → OkIff r (Fits word) (digits_value 10 word) → list_all is_ascii_digit word ≡ true → 0 < length word
    → result_ok r ≡ cond (ltb (digits_value 10 word) (2 ^ 64)) (Some (digits_value 10 word)) None
number_value word (Ok x) (fits, is) digits some = rw (lt-ltb (digits_value 10 word) (2 ^ 64) fits.2) (ap (λ (n : ℕ). Some n) is)
number_value word (Err e) refused digits some = elim (cases_lt (digits_value 10 word) (2 ^ 64)) [
  | inl low ↦ absurd (refused (digits, some, low))
  | inr high ↦ rw (le-ltb (digits_value 10 word) (2 ^ 64) high) refl
]

-- what `parse` reads of a word of digits
pub number_read : {E : Type 0} (word : List ℕ) (r : Result ℕ E) → ParsesUnsigned 64 10 word r → is_digits word ≡ true → result_ok r ≡ number_of word
unfolding number_of
number_read word r parsed e =
    let parts = and_parts (is_between 1 20 (length word)) (list_all is_ascii_digit word) e in
    let some : 1 ≤ length word = leb-true 1 (length word) (and_parts (leb 1 (length word)) (leb (length word) 20) parts.0).0 in
    let no_sign = not_in_digits own word 43 parts.1 (λ within. absurd (omega (arith, within.0))) 0 (omega arith) in
    rw e (number_value word r (parse_plain own 64 word r parsed no_sign) parts.1 (omega arith))

pub number_refused : (word : List ℕ) → is_digits word ≡ false → number_of word ≡ None
unfolding number_of
number_refused word e = rw e refl

digits_ascii : (word : List ℕ) → list_all is_ascii_digit word ≡ true → IsAscii word
digits_ascii [] all i = omega arith
digits_ascii (b ∷ bs) all zero = let digit = (and_parts (is_ascii_digit b) (list_all is_ascii_digit bs) all).0 in grind (arith, nat_tests)
digits_ascii (b ∷ bs) all (suc i) = digits_ascii bs (and_parts (is_ascii_digit b) (list_all is_ascii_digit bs) all).1 i

-- a number is text
pub number_not_text : (word : List ℕ) → (IsUtf8 word → ⊥) → number_of word ≡ None
number_not_text word never = by_test (is_digits word) refl
  where
    by_test : (t : Bool) → is_digits word ≡ t → number_of word ≡ None
    by_test true e = absurd (never (IsUtf8-from_ascii word (digits_ascii word (and_parts (is_between 1 20 (length word)) (list_all is_ascii_digit word) e).1)))
    by_test false e = number_refused word e

-- ---- commands

-- the words after one that passes no test
pub rest_passes_none : (word : List ℕ) (words : List (List ℕ)) → list_any is_option (word ∷ words) ≡ false → list_any is_option words ≡ false
rest_passes_none word words e = go (is_option word) e
  where
    go : (t : Bool) → (t || list_any is_option words) ≡ false → list_any is_option words ≡ false
    go false h = h
    go true h = cc

abbrev pack_found : Option (List ℕ × List ℕ × Option (List ℕ)) → Option Command
pack_found None = None
pack_found (Some (target, gear, workers)) = pack_by (target_of target) (gear_of gear) (workers_given workers)

pack_words : (words : List (List ℕ)) → pack_found (two_or_three_of words) ≡ pack_of words
pack_words [] = refl
pack_words (a ∷ []) = refl
pack_words (a ∷ b ∷ []) = refl
pack_words (a ∷ b ∷ c ∷ []) = refl
pack_words (a ∷ b ∷ c ∷ d ∷ words) = refl

pub pack_some : (target gear : List ℕ) (workers : Option (List ℕ)) (words : List (List ℕ)) → Some (target, gear, workers) ≡ two_or_three_of words
    → pack_by (target_of target) (gear_of gear) (workers_given workers) ≡ pack_of words
pack_some target gear workers words e = ap pack_found e ∙ pack_words words

pub pack_none : (words : List (List ℕ)) → None ≡ two_or_three_of words → None ≡ pack_of words
pack_none words e = ap pack_found e ∙ pack_words words

abbrev make_found : Option (List ℕ × List ℕ) → Option Command
make_found None = None
make_found (Some (seed, bytes)) = make_by (number_of seed) (number_of bytes)

make_two : (words : List (List ℕ)) → make_found (two_of words) ≡ make_of words
make_two [] = refl
make_two (a ∷ []) = refl
make_two (a ∷ b ∷ []) = refl
make_two (a ∷ b ∷ c ∷ words) = refl

pub make_some : (seed bytes : List ℕ) (words : List (List ℕ)) → Some (seed, bytes) ≡ two_of words → make_by (number_of seed) (number_of bytes) ≡ make_of words
make_some seed bytes words e = ap make_found e ∙ make_two words

pub make_none : (words : List (List ℕ)) → None ≡ two_of words → None ≡ make_of words
make_none words e = ap make_found e ∙ make_two words

abbrev read_found : Option (List ℕ × List ℕ × List ℕ) → Option Command
read_found None = None
read_found (Some (hash, from, to)) = read_by (hash_of_text hash) (number_of from) (number_of to)

read_three : (words : List (List ℕ)) → read_found (three_of words) ≡ read_of words
read_three [] = refl
read_three (a ∷ []) = refl
read_three (a ∷ b ∷ []) = refl
read_three (a ∷ b ∷ c ∷ []) = refl
read_three (a ∷ b ∷ c ∷ d ∷ words) = refl

pub read_some : (hash from to : List ℕ) (words : List (List ℕ)) → Some (hash, from, to) ≡ three_of words → read_by (hash_of_text hash) (number_of from) (number_of to) ≡ read_of words
read_some hash from to words e = ap read_found e ∙ read_three words

pub read_none : (words : List (List ℕ)) → None ≡ three_of words → None ≡ read_of words
read_none words e = ap read_found e ∙ read_three words

pub clean_some : {X : Type 0} (names : List X) → nat_lt 0 (length names) ≡ true → 1 ≤ length names
clean_some [] e = absurd (false≢true e)
clean_some (name ∷ names) e = omega arith

pub clean_none : {X : Type 0} (f : X → List ℕ) (names : List X) → nat_lt 0 (length names) ≡ false → None ≡ clean_of (map f names)
clean_none f [] e = refl
clean_none f (name ∷ names) e = absurd (false≢true (sym e ∙ lt-ltb 0 (length (name ∷ names)) (omega arith)))

-- a text that is not another
other_bytes : (xs ys : List ℕ) → xs ≢ ys → bytes_eq xs ys ≡ false
other_bytes xs ys n = by_cases (bytes_eq xs ys) (λ e. n ((bytes_decides xs ys).0 e))
  where
    by_cases : (b : Bool) → (b ≡ true → ⊥) → b ≡ false
    by_cases true h = absurd (h refl)
    by_cases false h = refl

pub gear_zero : (word : List ℕ) → word ≡ codes "zero" → gear_of word ≡ Some (replicate 256 0)
unfolding gear_of
gear_zero word e = rw e refl

pub gear_one : (word : List ℕ) → word ≡ codes "one" → gear_of word ≡ Some (replicate 256 1)
unfolding gear_of
gear_one word e = rw e refl

pub gear_seed : (word : List ℕ) → word ≢ codes "zero" → word ≢ codes "one" → gear_of word ≡ option_map gear_table (number_of word)
unfolding gear_of
gear_seed word n m = rw (other_bytes word (codes "zero") n, other_bytes word (codes "one") m) refl

-- ---- limits

allows_target : (n : ℕ) (gear : List ℕ) → IsTrue (is_target n) → max_input ≤ (pack_settings n gear).max_source_bytes
allows_target n gear t =
    let range = and_parts (leb 128 n) (leb n 2097152) (and_parts (is_power_of_two n) (is_between 128 2097152 n) t).1 in
    let low : 128 ≤ n = leb-true 128 n range.0 in
    let eighth : 16 ≤ n / 8 = omega arith in
    omega arith

abbrev Allows : Option Command → Type 0
Allows command = IfSome command AllowsInput

abbrev AreAllowed : Option ℕ → Type 0
AreAllowed workers = IfSome workers (λ n. (1 ≤ n) × (n ≤ 256))

allowed_workers : (word : List ℕ) → AreAllowed (workers_of word)
allowed_workers word = by_number (number_of word)
  where
    by_test : (n : ℕ) (t : Bool) → is_between 1 256 n ≡ t → AreAllowed (cond t (Some n) None)
    by_test n true is = let range = and_parts (leb 1 n) (leb n 256) is in (leb-true 1 n range.0, leb-true n 256 range.1)
    by_test n false is = tt

    by_number : (found : Option ℕ) → AreAllowed (option_and_then workers_if found)
    by_number (Some n) = by_test n (is_between 1 256 n) refl
    by_number None = tt

allows_pack : (target gear : List ℕ) (workers : Option ℕ) → AreAllowed workers → Allows (pack_by (target_of target) (gear_of gear) workers)
allows_pack target gear workers allowed = by_number (number_of target)
  where
    by_target : (n : ℕ) (t : Bool) (o : Option (List ℕ)) (w : Option ℕ) → is_target n ≡ t → AreAllowed w → Allows (pack_by (cond t (Some n) None) o w)
    by_target n true (Some table) (Some w) is a = (allows_target n table is, a.0, a.1)
    by_target n true (Some table) None is a = tt
    by_target n true None w is a = tt
    by_target n false o w is a = tt

    by_number : (found : Option ℕ) → Allows (pack_by (option_and_then target_if found) (gear_of gear) workers)
    by_number (Some n) = by_target n (is_target n) (gear_of gear) workers refl allowed
    by_number None = tt

allows_clean : (names : List (List ℕ)) (t : Bool) → is_between 1 max_names (length names) ≡ t → Allows (cond t (Some (Clean names)) None)
allows_clean names true is =
    leb-true (length names) max_names (and_parts (leb 1 (length names)) (leb (length names) max_names) is).1
allows_clean names false is = tt

allows_make : (seed bytes : Option ℕ) → Allows (make_by seed bytes)
allows_make None bytes = tt
allows_make (Some seed) None = tt
allows_make (Some seed) (Some n) = by_test (is_between 1 max_generated n) refl
  where
    by_test : (t : Bool) → is_between 1 max_generated n ≡ t → Allows (cond t (Some (Make seed n)) None)
    by_test true is = leb-true n max_generated (and_parts (leb 1 n) (leb n max_generated) is).1
    by_test false is = tt

allows_read : (hash : Option (List ℕ)) (from to : Option ℕ) → Allows (read_by hash from to)
allows_read None from to = tt
allows_read (Some h) None to = tt
allows_read (Some h) (Some m) None = tt
allows_read (Some h) (Some m) (Some n) = tt

allows_either : (t : Bool) (a b : Option Command) → Allows a → Allows b → Allows (cond t a b)
allows_either true a b ha hb = ha
allows_either false a b ha hb = hb

allows_pack_of : (words : List (List ℕ)) → Allows (pack_of words)
allows_pack_of [] = tt
allows_pack_of (a ∷ []) = tt
allows_pack_of (a ∷ b ∷ []) = allows_pack a b (Some 1) (omega arith, omega arith)
allows_pack_of (a ∷ b ∷ c ∷ []) = allows_pack a b (workers_of c) (allowed_workers c)
allows_pack_of (a ∷ b ∷ c ∷ d ∷ words) = tt

allows_make_of : (words : List (List ℕ)) → Allows (make_of words)
allows_make_of [] = tt
allows_make_of (a ∷ []) = tt
allows_make_of (a ∷ b ∷ []) = allows_make (number_of a) (number_of b)
allows_make_of (a ∷ b ∷ c ∷ words) = tt

allows_read_of : (words : List (List ℕ)) → Allows (read_of words)
allows_read_of [] = tt
allows_read_of (a ∷ []) = tt
allows_read_of (a ∷ b ∷ []) = tt
allows_read_of (a ∷ b ∷ c ∷ []) = allows_read (hash_of_text a) (number_of b) (number_of c)
allows_read_of (a ∷ b ∷ c ∷ d ∷ words) = tt

allows_alone : (command : Command) (words : List (List ℕ)) → AllowsInput command → Allows (alone command words)
allows_alone command [] allows = allows
allows_alone command (w ∷ words) allows = tt

allows_by : (name : List ℕ) (words : List (List ℕ)) → Allows (command_by name words)
unfolding command_by
allows_by name words =
    allows_either (bytes_eq name (codes "pack")) _ _ (allows_pack_of words)
    (allows_either (bytes_eq name (codes "clean")) _ _ (allows_clean words (is_between 1 max_names (length words)) refl)
    (allows_either (bytes_eq name (codes "make")) _ _ (allows_make_of words)
    (allows_either (bytes_eq name (codes "read")) _ _ (allows_read_of words)
    (allows_either (bytes_eq name (codes "list")) _ _ (allows_alone ListFiles words tt)
    (allows_either (bytes_eq name (codes "group")) _ _ (allows_alone Group words tt) tt)))))

-- a command allows any input
pub allows_command : (ws : List (List ℕ)) → Allows (command_of ws)
unfolding command_of
allows_command [] = tt
allows_command (name ∷ words) = allows_either (list_any is_option (name ∷ words)) _ _ tt (allows_by name words)

pub allows_asked : (o : Option Parsed) → Allows (option_map asked o) → IfSome o (λ command. AllowsInput (asked command))
allows_asked None allows = tt
allows_asked (Some command) allows = allows

-- ---- the command of a name

pub alone_by : {X : Type 0} (f : X → List ℕ) (ws : List X) (b : Bool) (command : Parsed) (o : Option Parsed) → b ≡ eqb (length ws) 0 → o ≡ then_some b command → option_map asked o ≡ alone (asked command) (map f ws)
alone_by f [] b command o is e = ap (option_map asked) (e ∙ ap (λ (t : Bool). then_some t command) is)
alone_by f (w ∷ ws) true command o is e = absurd (grind (arith, nat_tests))
alone_by f (w ∷ ws) false command o is e = ap (option_map asked) e

pub command_empty : {X : Type 0} (f : X → List ℕ) (ws : List X) → length ws ≡ 0 → command_of (map f ws) ≡ None
unfolding command_of
command_empty f [] e = refl
command_empty f (w ∷ ws) e = absurd (omega arith)

pub command_first : (name : List ℕ) (words : List (List ℕ)) → list_any is_option (name ∷ words) ≡ false → command_of (name ∷ words) ≡ command_by name words
unfolding command_of
command_first name words e = rw e refl

pub command_option : (words : List (List ℕ)) → list_any is_option words ≡ true → command_of words ≡ None
unfolding command_of
command_option [] e = refl
command_option (name ∷ words) e = rw e refl

pub pack_in_range : (target : ℕ) (gear : List ℕ) → IsTrue (is_target target) → bad_field (pack_settings target gear) ≡ None
pack_in_range target gear t =
    let parts = and_parts (is_power_of_two target) (is_between 128 2097152 target) t in
    let range = and_parts (leb 128 target) (leb target 2097152) parts.1 in
    let low : 128 ≤ target = leb-true 128 target range.0 in
    let high : target ≤ 2097152 = leb-true target 2097152 range.1 in
    let most : ℕ = min (2 ^ 29 * (target / 8)) (2 ^ 42) in
    let some : 0 < target / 8 = omega arith in
    let chunks : most / (target / 8) < 2 ^ 30 = (div-lt_iff_lt-mul some).1 (omega arith) in
    none_bad (pack_settings target gear) record {
      target_power = parts.0;
      target_from = low;
      target_to = omega arith;
      minimum_from = omega arith;
      minimum_to = omega arith;
      maximum_to = omega arith;
      cut_bytes_from = omega arith;
      cut_bytes_to = lit≤ tt;
      cut_chunks_from = lit≤ tt;
      cut_chunks_to = lit≤ tt;
      shard_target_to = lit< tt;
      guard_window_from = lit≤ tt;
      guard_window_to = lit≤ tt;
      min_range_from = lit≤ tt;
      low_factor_from = lit≤ tt;
      block_bytes_from = lit≤ tt;
      block_bytes_to = lit≤ tt;
      source_from = omega arith;
      source_to = omega arith;
      source_chunks = chunks;
      scheme_plain = refl;
    }

-- the default settings are those of a target of 65,536
pub shown_in_range : (gear : List ℕ) → bad_field (shown_settings gear) ≡ None
unfolding lib.Count.ones
shown_in_range gear = pack_in_range 65536 gear refl
