-- What lines say, one more at a time.
use Rattle.std.proofs.Common.{◌≡◌, ◌∙◌, inl, inr, ℕ, ◌+◌, ◌<◌, ◌≤◌, Bool, true, false, cond, leb, eqb, codes, Result, List, [], ◌∷◌, ◌++◌, length, take, drop, Option, Some, None, is_none, refl, sym, ap, arith}
use Rattle.std.proofs.lemmas.Bool.{cases_lt, le-leb, lt-leb, le-ltb, lt-ltb, leb-true}
use Rattle.std.proofs.lemmas.List.{append-nil, length-append}
use Rattle.std.proofs.Math.Seq.{take-add, drop-drop}
use Rattle.std.specs.Option.{option_map, option_and_then}
use Rattle.std.specs.Cmp.Lexicographic.{pointwise}
use Rattle.hex.specs.Hex.{decode_of}
use Rattle.hex.specs.declared.error.FromHexError.{FromHexError}
use Rattle.xet_base.specs.theorems.FirstOf.{first_of_here, first_of_none}
use Rattle.xet_program.specs.declared.lines.FileRange.{FileRange}
use Rattle.xet_program.specs.Lines.{Line, decoded, file_bytes, files_of, first_bad, good_lines, is_bad_at, limited, line_of, max_files, ranges_of, said, with_line}
use Rattle.xet_program.specs.Lines.Line.{FileLine, RangeLine}
use Rattle.xet_program.specs.internal.Parsing.{Said, and_line, parted, with_next}

same_said : {a b : List (List ℕ)} {r q : List FileRange} → a ≡ b → r ≡ q → ◌≡◌ {A = Said} (record { files = a; ranges = r }) (record { files = b; ranges = q })
same_said e f = λ i. record { files = e i; ranges = f i }

some-injective : {X : Type 0} (x y : X) → Some x ≡ Some y → x ≡ y
some-injective x y e = cc e

none-some : {X : Type 0} (x : X) → None ≡ Some x → ⊥
none-some x e = cc e

-- ---- one line

pub file_bare : (line : List ℕ) → pointwise eqb line (codes "file") ≡ true → file_bytes line ≡ Some []
unfolding file_bytes
file_bare line e = rw e refl

pub file_other : (line : List ℕ) → pointwise eqb line (codes "file") ≡ false → pointwise eqb (take 5 line) (codes "file ") ≡ false → file_bytes line ≡ None
unfolding file_bytes
file_other line e f = rw (e, f) refl

pub file_digits : (line : List ℕ) (r : Result (List ℕ) FromHexError) → pointwise eqb line (codes "file") ≡ false → pointwise eqb (take 5 line) (codes "file ") ≡ true
    → decode_of (drop 5 line) ≡ r → file_bytes line ≡ decoded r
unfolding file_bytes
file_digits line r e f d = rw (e, f) (ap decoded d)

-- ---- all lines

abbrev appended : List Line → List ℕ → Option (List Line)
appended s [] = Some s
appended s (b ∷ bs) = option_map (λ x. s ++ x ∷ []) (line_of (b ∷ bs))

abbrev BothSome : Option Line → Option (List Line) → List Line → Type 0
BothSome o m s = (x : Line) × (t : List Line) × (o ≡ Some x) × (m ≡ Some t) × (s ≡ x ∷ t)

pub both_some : (o : Option Line) (m : Option (List Line)) (s : List Line) → with_line o m ≡ Some s → BothSome o m s
both_some None m s e = absurd (none-some s e)
both_some (Some x) None s e = absurd (none-some s e)
both_some (Some x) (Some t) s e = (x, t, refl, refl, sym (some-injective (x ∷ t) s e))

with_line-appended : (x : Line) (t : List Line) (l : List ℕ) → with_line (Some x) (appended t l) ≡ appended (x ∷ t) l
with_line-appended x t [] = refl
with_line-appended x t (b ∷ bs) = by_line (line_of (b ∷ bs))
  where
    by_line : (o : Option Line) → with_line (Some x) (option_map (λ y. t ++ y ∷ []) o) ≡ option_map (λ y. (x ∷ t) ++ y ∷ []) o
    by_line None = refl
    by_line (Some y) = refl

said_first : (l : List ℕ) → said (l ∷ []) ≡ appended [] l
unfolding said
said_first [] = refl
said_first (b ∷ bs) = by_line (line_of (b ∷ bs))
  where
    by_line : (o : Option Line) → with_line o (Some []) ≡ option_map (λ y. [] ++ y ∷ []) o
    by_line None = refl
    by_line (Some y) = refl

said-push : (ls : List (List ℕ)) (l : List ℕ) (s : List Line) → said ls ≡ Some s → said (ls ++ l ∷ []) ≡ appended s l
unfolding said
said-push [] l s e =
    let none : [] ≡ s = some-injective [] s e in said_first l ∙ ap (λ (t : List Line). appended t l) none
said-push ([] ∷ ls) l s e = said-push ls l s e
said-push ((b ∷ bs) ∷ ls) l s e =
    let (x, t, eo, em, es) = both_some (line_of (b ∷ bs)) (said ls) s e in
    ap (with_line (line_of (b ∷ bs))) (said-push ls l t em) ∙ ap (λ (o : Option Line). with_line o (appended t l)) eo
    ∙ with_line-appended x t l ∙ ap (λ (u : List Line). appended u l) (sym es)

limited_some : (t s : List Line) (b : Bool) → cond b (Some t) None ≡ Some s → (t ≡ s) × (b ≡ true)
limited_some t s true e = (some-injective t s e, refl)
limited_some t s false e = absurd (none-some s e)

-- what good lines say, and that it is not too much
pub good_said : (o : Option (List Line)) (s : List Line) → option_and_then limited o ≡ Some s → (o ≡ Some s) × (limited s ≡ Some s)
good_said None s e = absurd (none-some s e)
good_said (Some t) s e =
    let same : t ≡ s = (limited_some t s (leb (length (files_of t)) max_files) e).0 in
    (ap (λ (u : List Line). Some u) same, ap limited (sym same) ∙ e)

few_files : (s : List Line) → limited s ≡ Some s → length (files_of s) ≤ max_files
few_files s e = leb-true (length (files_of s)) max_files (limited_some s s (leb (length (files_of s)) max_files) e).1

-- good lines and one more
good_next : (ls : List (List ℕ)) (l : List ℕ) (s : List Line) → good_lines ls ≡ Some s → good_lines (ls ++ l ∷ []) ≡ option_and_then limited (appended s l)
good_next ls l s e = ap (option_and_then limited) (said-push ls l s (good_said (said ls) s e).0)

files_more : (s : List Line) (x : Line) → files_of (s ++ x ∷ []) ≡ files_of s ++ files_of (x ∷ [])
files_more [] x = refl
files_more (FileLine b ∷ s) x = ap (λ (fs : List (List ℕ)). b ∷ fs) (files_more s x)
files_more (RangeLine r ∷ s) x = files_more s x

ranges_more : (s : List Line) (x : Line) → ranges_of (s ++ x ∷ []) ≡ ranges_of s ++ ranges_of (x ∷ [])
ranges_more [] x = refl
ranges_more (FileLine b ∷ s) x = ranges_more s x
ranges_more (RangeLine r ∷ s) x = ap (λ (rs : List FileRange). r ∷ rs) (ranges_more s x)

-- what good lines say with one more, by files and ranges
parted_more : (s : List Line) (o : Option Line) → limited s ≡ Some s → option_map parted (option_and_then limited (option_map (λ x. s ++ x ∷ []) o)) ≡ and_line (parted s) o
parted_more s None few = refl
parted_more s (Some (FileLine b)) few =
    let count : length (files_of (s ++ FileLine b ∷ [])) ≡ length (files_of s) + 1 = ap length (files_more s (FileLine b)) ∙ length-append (files_of s) (b ∷ []) in
    elim (cases_lt (length (files_of s)) max_files) [
      | inl low ↦ rw (le-leb (length (files_of (s ++ FileLine b ∷ []))) max_files (omega arith), lt-ltb (length (files_of s)) max_files low) (ap (λ (x : Said). Some x) (same_said (files_more s (FileLine b)) (ranges_more s (FileLine b) ∙ append-nil (ranges_of s))))
      | inr high ↦ rw (lt-leb (length (files_of (s ++ FileLine b ∷ []))) max_files (omega arith), le-ltb (length (files_of s)) max_files high) refl
    ]
parted_more s (Some (RangeLine r)) few =
    let same : files_of (s ++ RangeLine r ∷ []) ≡ files_of s = files_more s (RangeLine r) ∙ append-nil (files_of s) in
    let count : length (files_of (s ++ RangeLine r ∷ [])) ≤ max_files = omega (arith, ap length same, few_files s few) in
    rw (le-leb (length (files_of (s ++ RangeLine r ∷ []))) max_files count) (ap (λ (x : Said). Some x) (same_said same (ranges_more s (RangeLine r))))

parted_next : (s : List Line) (l : List ℕ) → limited s ≡ Some s → option_map parted (option_and_then limited (appended s l)) ≡ with_next (parted s) l
parted_next s [] few = ap (option_map parted) few
parted_next s (b ∷ bs) few = parted_more s (line_of (b ∷ bs)) few

mapped : (o : Option (List Line)) (x : Said) → option_map parted o ≡ Some x → (s : List Line) × (o ≡ Some s) × (parted s ≡ x)
mapped None x e = absurd (cc e)
mapped (Some s) x e =
    let same : parted s ≡ x = cc e in (s, refl, same)

-- what good lines say, as lines
pub good_parted : (ls : List (List ℕ)) (x : Said) → option_map parted (good_lines ls) ≡ Some x → (s : List Line) × (good_lines ls ≡ Some s) × (parted s ≡ x)
good_parted ls x e = mapped (good_lines ls) x e

pub good_none : option_map parted (good_lines []) ≡ Some (parted [])
unfolding said
good_none = refl

-- ---- the first bad line

pub take_next : {X : Type 0} (xs : List X) (n : ℕ) (x : X) (ys : List X) → drop n xs ≡ x ∷ ys → take (n + 1) xs ≡ take n xs ++ x ∷ []
take_next xs n x ys e = take-add n 1 xs ∙ ap (λ (zs : List _). take n xs ++ take 1 zs) e

pub drop_next : {X : Type 0} (xs : List X) (n : ℕ) (x : X) (ys : List X) → drop n xs ≡ x ∷ ys → ys ≡ drop (n + 1) xs
drop_next xs n x ys e = ap (λ (zs : List _). drop 1 zs) (sym e) ∙ drop-drop 1 n xs

-- the lines so far with one more
pub good_more : (all : List (List ℕ)) (n : ℕ) (l : List ℕ) (more : List (List ℕ)) (x : Said) → drop n all ≡ l ∷ more
    → option_map parted (good_lines (take n all)) ≡ Some x → option_map parted (good_lines (take (n + 1) all)) ≡ with_next x l
good_more all n l more x e good =
    let m = good_parted (take n all) x good in
    ap (λ (ls : List (List ℕ)). option_map parted (good_lines ls)) (take_next all n l more e) ∙ ap (option_map parted) (good_next (take n all) l m.0 m.1)
    ∙ parted_next m.0 l (good_said (said (take n all)) m.0 m.1).1 ∙ ap (λ (y : Said). with_next y l) m.2

none_mapped : (o : Option (List Line)) → is_none (option_map parted o) ≡ is_none o
none_mapped None = refl
none_mapped (Some s) = refl

-- lines that are good, and lines that are not
pub good_here : (all : List (List ℕ)) (n : ℕ) (o : Option Said) → option_map parted (good_lines (take n all)) ≡ o → is_bad_at all n ≡ is_none o
good_here all n o e = sym (none_mapped (good_lines (take n all))) ∙ ap is_none e

pub bad_here : (all : List (List ℕ)) (n : ℕ) → 1 ≤ n → n ≤ length all → ((j : ℕ) → 1 ≤ j → j < n → is_bad_at all j ≡ false)
    → option_map parted (good_lines (take n all)) ≡ None → first_bad all ≡ Some n
unfolding first_bad
bad_here all n low high before bad = first_of_here (is_bad_at all) 1 (length all) n low (omega arith) before (good_here all n None bad)

pub bad_nowhere : (all : List (List ℕ)) → ((j : ℕ) → 1 ≤ j → j ≤ length all → is_bad_at all j ≡ false) → first_bad all ≡ None
unfolding first_bad
bad_nowhere all none = first_of_none (is_bad_at all) 1 (length all) (λ j low high. none j low (omega arith))
