-- Range lines, and the ranges that they say.
use Rattle.std.proofs.Common.{◌≡◌, ◌∙◌, ℕ, zero, suc, ◌+◌, ◌-◌, ◌<◌, ◌≤◌, ◌&&◌, Bool, true, false, not, cond, eqb, leb, List, [], ◌∷◌, length, take, drop, map, get_or, Option, Some, None, is_some, codes, refl, sym, ap, arith}
use Rattle.std.proofs.lemmas.Bool.{and_parts}
use Rattle.std.proofs.lemmas.Bool.Decides.{nat_tests}
use Rattle.std.specs.Char.{is_ascii_digit}
use Rattle.std.specs.List.{list_all}
use Rattle.std.specs.Option.{option_and_then}
use Rattle.std.specs.Str.{bytes_eq}
use Rattle.xet_cut.specs.Limits.{is_between}
use Rattle.xet_program.specs.declared.lines.FileRange.{FileRange}
use Rattle.xet_program.specs.Lines.{and_byte, bytes_in, numbered, range_by, range_bytes, range_of, words_of}
use Rattle.xet_program.specs.Words.{is_digits, number_of}
use Rattle.xet_program.proofs.Commands.{number_refused}

-- ---- the words of a line

abbrev is_space : ℕ → Bool
is_space b = eqb b 32

-- a first word that ends at a space
pub words_first : (bs rest : List ℕ) (e : ℕ) → e < length bs → ((k : ℕ) → k < e → is_space (get_or bs k 0) ≡ false) → is_space (get_or bs e 0) ≡ true → rest ≡ drop (e + 1) bs
    → words_of bs ≡ take e bs ∷ words_of rest
unfolding words_of
words_first [] rest e here before at is = absurd (omega arith)
words_first (b ∷ bs) rest zero here before at is =
    ap (λ (t : Bool). cond t ([] ∷ words_of bs) (and_byte b (words_of bs))) at ∙ ap (λ (r : List ℕ). [] ∷ words_of r) (sym is)
words_first (b ∷ bs) rest (suc e) here before at is =
    let next : suc e + 1 ≡ suc (e + 1) = omega arith in
    ap (λ (t : Bool). cond t ([] ∷ words_of bs) (and_byte b (words_of bs))) (before 0 (omega arith))
    ∙ ap (and_byte b) (words_first bs rest e (omega arith) (λ k h. before (suc k) (omega arith)) at (is ∙ ap (λ (k : ℕ). drop k (b ∷ bs)) next))

-- the only word
pub words_only : (bs : List ℕ) → ((k : ℕ) → k < length bs → is_space (get_or bs k 0) ≡ false) → words_of bs ≡ bs ∷ []
unfolding words_of
words_only [] none = refl
words_only (b ∷ bs) none =
    ap (λ (t : Bool). cond t ([] ∷ words_of bs) (and_byte b (words_of bs))) (none 0 (omega arith))
    ∙ ap (and_byte b) (words_only bs (λ k h. none (suc k) (omega arith)))

-- a word of digits has no space
digit_no_space : (b : ℕ) → is_ascii_digit b ≡ true → is_space b ≡ false
digit_no_space b e = grind (arith, nat_tests)

digits_only : (bs : List ℕ) → list_all is_ascii_digit bs ≡ true → words_of bs ≡ bs ∷ []
unfolding words_of
digits_only [] all = refl
digits_only (b ∷ bs) all =
    let parts = and_parts (is_ascii_digit b) (list_all is_ascii_digit bs) all in
    ap (λ (t : Bool). cond t ([] ∷ words_of bs) (and_byte b (words_of bs))) (digit_no_space b parts.0) ∙ ap (and_byte b) (digits_only bs parts.1)

-- there is a word always
words_some : (bs : List ℕ) → words_of bs ≡ [] → ⊥
unfolding words_of
words_some [] e = absurd (cc e)
words_some (b ∷ bs) e = by_test (is_space b) (words_of bs) e
  where
    by_word : (ws : List (List ℕ)) → and_byte b ws ≡ [] → ⊥
    by_word [] is = absurd (cc is)
    by_word (v ∷ ws) is = absurd (cc is)

    by_test : (t : Bool) (ws : List (List ℕ)) → cond t ([] ∷ ws) (and_byte b ws) ≡ [] → ⊥
    by_test true ws is = absurd (cc is)
    by_test false ws is = by_word ws is

-- words that are one are the line
one_word : (bs w : List ℕ) → words_of bs ≡ w ∷ [] → w ≡ bs
unfolding words_of
one_word [] w e = cc e
one_word (b ∷ bs) w e = by_test (is_space b) (words_of bs) (words_some bs) (λ v is. one_word bs v is) e
  where
    by_word : (ws : List (List ℕ)) → (ws ≡ [] → ⊥) → ((v : List ℕ) → ws ≡ v ∷ [] → v ≡ bs) → and_byte b ws ≡ w ∷ [] → w ≡ b ∷ bs
    by_word [] some more is = absurd (some refl)
    by_word (v ∷ []) some more is = let same : v ≡ bs = more v refl in cc (is, same)
    by_word (v ∷ u ∷ us) some more is = absurd (cc is)

    by_test : (t : Bool) (ws : List (List ℕ)) → (ws ≡ [] → ⊥) → ((v : List ℕ) → ws ≡ v ∷ [] → v ≡ bs) → cond t ([] ∷ ws) (and_byte b ws) ≡ w ∷ [] → w ≡ b ∷ bs
    by_test true ws some more is =
        let none : ws ≡ [] = cc is in absurd (some none)
    by_test false ws some more is = by_word ws some more is

-- ---- ranges that lines say

pub from_not : (t : Bool) → not t ≡ false → t ≡ true
from_not true e = refl
from_not false e = cc e

no_last : (a b : Option ℕ) → range_by a b None ≡ None
no_last None b = refl
no_last (Some n) None = refl
no_last (Some n) (Some m) = refl

abbrev four : List ℕ → Option FileRange → Option FileRange
four name found = cond (bytes_eq name (codes "range")) found None

none_four : (name : List ℕ) → None ≡ four name None
none_four name = by_test (bytes_eq name (codes "range"))
  where
    by_test : (t : Bool) → ◌≡◌ {A = Option FileRange} None (cond t None None)
    by_test true = refl
    by_test false = refl

-- the words of a range line, of which the last is what follows the third space
pub range_four : (name file from to : List ℕ) → range_of (name ∷ file ∷ from ∷ words_of to) ≡ four name (range_by (number_of file) (number_of from) (number_of to))
range_four name file from to = by_test (is_digits to) refl
  where
    refused : is_digits to ≡ false → None ≡ four name (range_by (number_of file) (number_of from) (number_of to))
    refused e = none_four name ∙ ap (four name) (sym (no_last (number_of file) (number_of from)) ∙ ap (range_by (number_of file) (number_of from)) (sym (number_refused to e)))

    by_words : (ws : List (List ℕ)) → ((w : List ℕ) → ws ≡ w ∷ [] → w ≡ to) → is_digits to ≡ false → range_of (name ∷ file ∷ from ∷ ws) ≡ four name (range_by (number_of file) (number_of from) (number_of to))
    by_words [] one e = refused e
    by_words (w ∷ []) one e = ap (λ (x : List ℕ). four name (range_by (number_of file) (number_of from) (number_of x))) (one w refl)
    by_words (w ∷ v ∷ vs) one e = refused e

    by_test : (t : Bool) → is_digits to ≡ t → range_of (name ∷ file ∷ from ∷ words_of to) ≡ four name (range_by (number_of file) (number_of from) (number_of to))
    by_test true e = ap (λ (ws : List (List ℕ)). range_of (name ∷ file ∷ from ∷ ws)) (digits_only to (and_parts (is_between 1 20 (length to)) (list_all is_ascii_digit to) e).1)
    by_test false e = by_words (words_of to) (one_word to) e

-- ---- ranges of files

pub numbered_zero : (files : List (List ℕ)) → numbered files 0 ≡ None
numbered_zero [] = refl
numbered_zero (f ∷ fs) = refl

pub numbered_past : (files : List (List ℕ)) (n : ℕ) → length files < n → numbered files n ≡ None
numbered_past [] n past = refl
numbered_past (f ∷ fs) zero past = absurd (omega arith)
numbered_past (f ∷ fs) (suc zero) past = absurd (omega arith)
numbered_past (f ∷ fs) (suc (suc n)) past = numbered_past fs (suc n) (omega arith)

numbered_map : {X : Type 0} (f : X → List ℕ) (xs : List X) (k : ℕ) (d : X) → k < length xs → numbered (map f xs) (suc k) ≡ Some (f (get_or xs k d))
numbered_map f [] k d here = absurd (omega arith)
numbered_map f (x ∷ xs) zero d here = refl
numbered_map f (x ∷ xs) (suc k) d here = numbered_map f xs k d (omega arith)

pub numbered_at : {X : Type 0} (f : X → List ℕ) (xs : List X) (n : ℕ) (x : X) → 0 < n → n ≤ length xs → x ≡ get_or xs (n - 1) x → numbered (map f xs) n ≡ Some (f x)
numbered_at f xs n x low high is =
    let next : n ≡ suc (n - 1) = omega arith in
    ap (numbered (map f xs)) next ∙ numbered_map f xs (n - 1) x (omega arith) ∙ ap (λ y. Some (f y)) (sym is)

pub range_none : (files : List (List ℕ)) (r : FileRange) → numbered files r.file ≡ None → is_some (range_bytes files r) ≡ false
unfolding range_bytes
range_none files r e = ap (λ (o : Option (List ℕ)). is_some (option_and_then (bytes_in r.from r.to) o)) e

some_if : {X : Type 0} (t : Bool) (x : X) → is_some (cond t (Some x) None) ≡ t
some_if true x = refl
some_if false x = refl

pub range_some : (files : List (List ℕ)) (r : FileRange) (bytes : List ℕ) → numbered files r.file ≡ Some bytes → is_some (range_bytes files r) ≡ (leb r.from r.to && leb r.to (length bytes))
unfolding range_bytes
range_some files r bytes e = ap (λ (o : Option (List ℕ)). is_some (option_and_then (bytes_in r.from r.to) o)) e ∙ some_if (leb r.from r.to && leb r.to (length bytes)) _
