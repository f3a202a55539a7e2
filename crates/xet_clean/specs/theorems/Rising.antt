-- No entry is named by two chunks: the entries of a file's queries come after those of the files before it.
use Rattle.std.proofs.Common.{◌≡◌, ◌∙◌, ℕ, zero, suc, ◌+◌, ◌<◌, List, [], ◌∷◌, ◌++◌, get_or, length, map, Option, Some, None, refl, sym, ap, subst, append-nil, arith}
use Rattle.std.specs.Prelude.{slice_get, slice_index}
use Rattle.std.proofs.lemmas.List.Concat.{flat_map-append}
use Rattle.std.proofs.lemmas.List.Elements.{Contains-append_right}
use Rattle.std.proofs.lemmas.Option.{slice_get-get_or, slice_get_within}
use Rattle.std.specs.List.{AllByRecursion, flat_map}
use Rattle.std.specs.List.Sorted.{IsStrictlyIncreasing}
use Rattle.xet_base.specs.theorems.Elements.{all_both, all_more}
use Rattle.xet_choices.specs.Calls.{Call, IsAskedIn}
use Rattle.xet_choices.specs.Calls.Call.{Asked}
use Rattle.xet_choices.specs.Choices.{EntriesRise, no_place_entries}
use Rattle.xet_choices.specs.declared.choice.Choice.{Choice}
use Rattle.xet_choices.specs.declared.choice.Choice.TheVariants.{Reused, NoPlace, Refused, Inside}
use Rattle.xet_choices.specs.theorems.Calls.{asked_before}
use Rattle.xet_choices.specs.theorems.Entries.{no_place_entries-append}
use Rattle.xet_store.specs.Holders.{Follows, Holder, calls_in, calls_of}
use Rattle.xet_store.specs.theorems.Following.{calls_in-append}
use Rattle.xet_clean.specs.Planning.{IsPlanned}
use Rattle.xet_clean.specs.Working.{Planned, WasPlanned}

-- ---- numbers that rise

-- each number is below all later ones
abbrev Rises : List ℕ → Type 0
Rises [] = Unit {0}
Rises (x ∷ xs) = AllByRecursion (λ y. x < y) xs × Rises xs

tail_increases : (x : ℕ) (xs : List ℕ) → IsStrictlyIncreasing (x ∷ xs) → IsStrictlyIncreasing xs
tail_increases x xs up k below =
    let e : suc k + 1 ≡ suc (k + 1) = omega arith in
    subst (λ (m : ℕ). slice_index (x ∷ xs) (suc k) < slice_index (x ∷ xs) m) e (up (suc k) (omega (arith, below)))

all_above : (x : ℕ) (xs : List ℕ) → IsStrictlyIncreasing (x ∷ xs) → AllByRecursion (λ y. x < y) xs
all_above x [] up = tt
all_above x (y ∷ ys) up =
    let next : x < y = up 0 (omega arith) in
    (next, all_more (λ z. y < z) (λ z. x < z) ys (λ z lt. omega (arith, next, lt)) (all_above y ys (tail_increases x (y ∷ ys) up)))

to_rises : (xs : List ℕ) → IsStrictlyIncreasing xs → Rises xs
to_rises [] up = tt
to_rises (x ∷ xs) up = (all_above x xs up, to_rises xs (tail_increases x xs up))

from_rises : (xs : List ℕ) → Rises xs → IsStrictlyIncreasing xs
from_rises [] rises k below = absurd (omega (arith, below))
from_rises (x ∷ []) rises k below = absurd (omega (arith, below))
from_rises (x ∷ y ∷ ys) rises zero below = rises.0.0
from_rises (x ∷ y ∷ ys) rises (suc k) below =
    let e : suc (k + 1) ≡ suc k + 1 = omega arith in
    subst (λ (m : ℕ). slice_index (x ∷ y ∷ ys) (suc k) < slice_index (x ∷ y ∷ ys) m) e (from_rises (y ∷ ys) rises.1 k (omega (arith, below)))

rises_both : (xs ys : List ℕ) → Rises xs → Rises ys → AllByRecursion (λ x. AllByRecursion (λ y. x < y) ys) xs → Rises (xs ++ ys)
rises_both [] ys first second all = second
rises_both (x ∷ xs) ys first second all = (all_both (λ y. x < y) xs ys first.0 all.0, rises_both xs ys first.1 second all.1)

-- ---- the entries of choices

-- what holds of each entry that a choice names holds of each entry
pub all_entries : (P : ℕ → Type 0) (cs : List Choice) → ((i e : ℕ) → slice_get cs i ≡ Some (NoPlace e) → P e) → AllByRecursion P (no_place_entries cs)
all_entries P [] each = tt
all_entries P (Reused segment ∷ cs) each = all_entries P cs (λ i e at. each (suc i) e at)
all_entries P (NoPlace entry ∷ cs) each = (each 0 entry refl, all_entries P cs (λ i e at. each (suc i) e at))
all_entries P (Refused run ∷ cs) each = all_entries P cs (λ i e at. each (suc i) e at)
all_entries P (Inside start ∷ cs) each = all_entries P cs (λ i e at. each (suc i) e at)

abbrev Ascend : List Choice → Type 0
Ascend cs = (i j m n : ℕ) → i < j → slice_get cs i ≡ Some (NoPlace m) → slice_get cs j ≡ Some (NoPlace n) → m < n

ascend_later : (c : Choice) (cs : List Choice) → Ascend (c ∷ cs) → Ascend cs
ascend_later c cs ascend i j m n lt first second = ascend (suc i) (suc j) m n (omega (arith, lt)) first second

entries_rise : (cs : List Choice) → Ascend cs → Rises (no_place_entries cs)
entries_rise [] ascend = tt
entries_rise (Reused segment ∷ cs) ascend = entries_rise cs (ascend_later (Reused segment) cs ascend)
entries_rise (NoPlace entry ∷ cs) ascend =
    (all_entries (λ n. entry < n) cs (λ j n at. ascend 0 (suc j) entry n (omega arith) refl at), entries_rise cs (ascend_later (NoPlace entry) cs ascend))
entries_rise (Refused run ∷ cs) ascend = entries_rise cs (ascend_later (Refused run) cs ascend)
entries_rise (Inside start ∷ cs) ascend = entries_rise cs (ascend_later (Inside start) cs ascend)

pub flat_push : {X Y : Type 0} (f : X → List Y) (xs : List X) (x : X) → flat_map f (xs ++ x ∷ []) ≡ flat_map f xs ++ f x
flat_push {X} {Y} f xs x = flat_map-append f xs (x ∷ []) ∙ ap (λ (l : List Y). flat_map f xs ++ l) (append-nil (f x))

-- ---- the entries of planned files

-- a call stays where a holder goes on
pub calls_stay : (a b : Holder) (f : Follows a b) → calls_of b ≡ calls_of a ++ calls_in f.own
calls_stay a b f = ap (λ (h : Holder). calls_in h.own) f.is ∙ calls_in-append a.own f.own

pub asked_still : (a b : Holder) → Follows a b → (n : ℕ) (h : List ℕ) (reply : Option ℕ) → IsAskedIn (calls_of a) n h reply → IsAskedIn (calls_of b) n h reply
asked_still a b f n h reply is = subst (λ (cs : List Call). IsAskedIn cs n h reply) (sym (calls_stay a b f)) (asked_before (calls_of a) (calls_in f.own) n h reply is)

-- the entry of a choice is that of a query of the deduplication
pub asked_of : (first last : Holder) (f : Planned) → IsPlanned first last f.bytes f.plan → (i e : ℕ) → slice_get f.plan.choices i ≡ Some (NoPlace e)
    → (h : List ℕ) × IsAskedIn (calls_of last) e h None
asked_of first last f is i e at =
    let since = is.deduped.plan in
    let below : i < length f.plan.leaves = omega (arith, slice_get_within f.plan.choices i (NoPlace e) at, since.plan.one_each) in
    let leaf : List ℕ × ℕ = get_or f.plan.leaves i ([], 0) in
    let asked : IsAskedIn since.since e leaf.0 None = (since.plan.choices i leaf (NoPlace e) at (slice_get-get_or f.plan.leaves i ([], 0) below)).0 in (
      leaf.0,
      subst (λ (cs : List Call). IsAskedIn cs e leaf.0 None) (sym since.added) (asked.0, Contains-append_right (calls_of first) since.since (Asked e (leaf.0 ∷ asked.0) None) asked.1),
    )

module _ (start first now : Holder) (f : Planned) (is : IsPlanned first now f.bytes f.plan) where
  -- below all entries of the next file
  abbrev IsBelow : ℕ → Type 0
  IsBelow x = AllByRecursion (λ y. x < y) (no_place_entries f.plan.choices)

  entry_below : (g : Planned) → WasPlanned start first g → (i e : ℕ) → slice_get g.plan.choices i ≡ Some (NoPlace e) → IsBelow e
  entry_below g was i e at =
      let asked = asked_of was.first was.last g was.planned i e at in
      all_entries (λ y. e < y) f.plan.choices (λ j n there. is.deduped.plan.later j n e asked.0 None there (asked_still was.last first was.to e asked.0 None asked.1))

  all_below : (files : List Planned) → AllByRecursion (WasPlanned start first) files
      → AllByRecursion IsBelow (no_place_entries (flat_map (λ (cs : List Choice). cs) (map (λ (g : Planned). g.plan.choices) files)))
  all_below [] planned = tt
  all_below (g ∷ gs) planned =
      subst (AllByRecursion IsBelow) (sym (no_place_entries-append g.plan.choices (flat_map (λ (cs : List Choice). cs) (map (λ (h : Planned). h.plan.choices) gs))))
      (all_both IsBelow (no_place_entries g.plan.choices) (no_place_entries (flat_map (λ (cs : List Choice). cs) (map (λ (h : Planned). h.plan.choices) gs)))
      (all_entries IsBelow g.plan.choices (entry_below g planned.0)) (all_below gs planned.1))

  -- one more file
  pub once_next : (files : List Planned) (choices : List (List Choice)) → AllByRecursion (WasPlanned start first) files → choices ≡ map (λ g. g.plan.choices) files
      → EntriesRise (flat_map (λ (cs : List Choice). cs) choices) → EntriesRise (flat_map (λ (cs : List Choice). cs) (choices ++ f.plan.choices ∷ []))
  once_next files choices planned are once =
      let before : List Choice = flat_map (λ (cs : List Choice). cs) choices in
      let below : AllByRecursion IsBelow (no_place_entries before) =
      subst (λ (css : List (List Choice)). AllByRecursion IsBelow (no_place_entries (flat_map (λ (cs : List Choice). cs) css))) (sym are) (all_below files planned) in
      let rises : Rises (no_place_entries before ++ no_place_entries f.plan.choices) =
      rises_both (no_place_entries before) (no_place_entries f.plan.choices) (to_rises (no_place_entries before) once) (entries_rise f.plan.choices is.deduped.plan.plan.ascend) below in
      subst IsStrictlyIncreasing (sym (ap no_place_entries (flat_push (λ (cs : List Choice). cs) choices f.plan.choices) ∙ no_place_entries-append before f.plan.choices))
      (from_rises (no_place_entries before ++ no_place_entries f.plan.choices) rises)
