-- Files that were opened by name, and what is cleaned of them.
use Rattle.std.proofs.Common.{◌≡◌, ◌⊎◌, ◌∙◌, inl, inr, ℕ, zero, suc, ◌<◌, ◌≤◌, Bool, true, List, [], ◌∷◌, ◌++◌, length, map, Option, Some, None, IfSome, Result, Ok, Err, OnOk, subst, refl, sym, ap, arith}
use Rattle.std.proofs.lemmas.List.{length-map}
use Rattle.std.specs.FinMap.{get}
use Rattle.std.specs.List.{Any, AllByRecursion}
use Rattle.xet_io.specs.Faults.{Rose}
use Rattle.xet_io.specs.Named.{Named}
use Rattle.xet_store_disk.specs.Cleaning.{RoseAt}
use Rattle.xet_clean.specs.Cleaning.{AreApartUnder, NoneEnds}
use Rattle.xet_store.specs.Recorded.{RecordedState}
use Rattle.xet_program.specs.declared.ending.Stop.{Stop}
use Rattle.xet_program.specs.declared.ending.Stop.TheVariants as stop
use Rattle.xet_program.specs.Answers.{AreNamed}
use Rattle.xet_program.specs.internal.Cleaned.{AreOpened}
use Rattle.xet_program.specs.internal.Stops.{IsStop, cleaning_causes, naming_causes, opening_causes}
use Rattle.xet_program.proofs.Cleaned.{chunked_map, long_one}

module _ {S : Type 0} (inputs_tell : Bool) (inputs : Named (List ℕ)) (tells : S → Bool) (left : S → List ℕ) (faults : S → ℕ) where
  abbrev pub Opened : List (List ℕ) → List S → Type 0
  Opened names sources = AreOpened inputs_tell inputs tells left faults names sources

  pub opened_named : (names : List (List ℕ)) (sources : List S) → inputs_tell ≡ true → Opened names sources → AreNamed inputs names (map left sources)
  opened_named [] [] told opened = refl
  opened_named [] (s ∷ ss) told opened = absurd opened
  opened_named (n ∷ ns) [] told opened = absurd opened
  opened_named (n ∷ ns) (s ∷ ss) told opened =
      ap (λ (o : Option (List ℕ)). o ∷ map (get inputs) ns) (opened.1 told).1 ∙ ap (λ (os : List (Option (List ℕ))). Some (left s) ∷ os) (opened_named ns ss told opened.2)

  pub opened_tell : (names : List (List ℕ)) (sources : List S) → inputs_tell ≡ true → Opened names sources → AllByRecursion (λ s. tells s ≡ true) sources
  opened_tell [] [] told opened = tt
  opened_tell [] (s ∷ ss) told opened = absurd opened
  opened_tell (n ∷ ns) [] told opened = absurd opened
  opened_tell (n ∷ ns) (s ∷ ss) told opened = ((opened.1 told).0, opened_tell ns ss told opened.2)

  pub opened_count : (names : List (List ℕ)) (sources : List S) → Opened names sources → length sources ≡ length names
  opened_count [] [] opened = refl
  opened_count [] (s ∷ ss) opened = absurd opened
  opened_count (n ∷ ns) [] opened = absurd opened
  opened_count (n ∷ ns) (s ∷ ss) opened = ap suc (opened_count ns ss opened.2)

  -- one source more
  pub opened_more : (names : List (List ℕ)) (sources : List S) (name : List ℕ) (source : S) → Opened names sources → faults source ≡ 0 → (inputs_tell ≡ true → (tells source ≡ true) × (get inputs name ≡ Some (left source)))
      → Opened (names ++ name ∷ []) (sources ++ source ∷ [])
  opened_more [] [] name source opened whole told = (whole, told, tt)
  opened_more [] (s ∷ ss) name source opened whole told = absurd opened
  opened_more (n ∷ ns) [] name source opened whole told = absurd opened
  opened_more (n ∷ ns) (s ∷ ss) name source opened whole told = (opened.0, opened.1, opened_more ns ss name source opened.2 whole told)

  -- a source that has failed since it was opened
  pub some_failed : (names : List (List ℕ)) (old new : List S) (i : ℕ) → Opened names old → RoseAt faults old new i → Any (λ s. 0 < faults s) new
  some_failed names [] new i opened rose = absurd rose
  some_failed names (s ∷ ss) [] i opened rose = absurd rose
  some_failed [] (s ∷ ss) (t ∷ ts) i opened rose = absurd opened
  some_failed (n ∷ ns) (s ∷ ss) (t ∷ ts) zero opened rose = (0, t, omega arith, refl, omega (arith, opened.0, rose))
  some_failed (n ∷ ns) (s ∷ ss) (t ∷ ts) (suc i) opened rose =
      let a = some_failed ns ss ts i opened.2 rose in (suc a.0, a.1, omega (arith, a.2), a.3, a.4)

  -- why cleaning by name stops
  pub stop_of_names : (names : List (List ℕ)) (sources after : List S) (s t : RecordedState) (reason : Stop) → Opened names sources → IsStop (cleaning_causes tells left faults sources after s t) reason
      → IsStop (naming_causes inputs_tell inputs names s t) reason
  stop_of_names names sources after s t stop.OutOfMemory opened h = tt
  stop_of_names names sources after s t stop.Input opened h = tt
  stop_of_names names sources after s t stop.TooLarge opened (inl (i, long)) = inl (λ told.
      (map left sources, opened_named names sources told opened, long_one tells left s.store.limits.max_source_bytes sources i (opened_tell names sources told opened) long))
  stop_of_names names sources after s t stop.TooLarge opened (inr full) = inr (λ told. (map left sources, opened_named names sources told opened), full)
  stop_of_names names sources after s t stop.Disk opened h = tt
  stop_of_names names sources after s t stop.Malformed opened h = λ inputs_told.
      let e = sym (chunked_map left s.store.limits sources) in
      (map left sources, opened_named names sources inputs_told opened, λ told apart. h told (opened_tell names sources inputs_told opened) (subst (AreApartUnder t) e apart.0) (subst NoneEnds e apart.1))
  stop_of_names names sources after s t stop.NotFound opened h = absurd h
  stop_of_names names sources after s t (stop.BadLine n) opened h = absurd h
  stop_of_names names sources after s t (stop.BadShard name) opened h = absurd h

-- why opening by name stops
pub stop_of_opening : (tells : Bool) (inputs : Named (List ℕ)) (names : List (List ℕ)) (s : RecordedState) (reason : Stop) → IsStop (opening_causes tells inputs names) reason → IsStop (naming_causes tells inputs names s s) reason
stop_of_opening tells inputs names s stop.OutOfMemory h = tt
stop_of_opening tells inputs names s stop.Input h = tt
stop_of_opening tells inputs names s stop.NotFound h = h
stop_of_opening tells inputs names s stop.TooLarge h = absurd h
stop_of_opening tells inputs names s stop.Disk h = tt
stop_of_opening tells inputs names s stop.Malformed h = absurd h
stop_of_opening tells inputs names s (stop.BadLine n) h = absurd h
stop_of_opening tells inputs names s (stop.BadShard name) h = absurd h

pub on_ok_here : {T E P : Type 0} {r : Result T E} {x : T} → r ≡ Ok x → OnOk r P → P
on_ok_here {r = Ok y} is p = p
on_ok_here {r = Err e} is p = absurd (cc is)

pub some_here : {T : Type 0} (P : T → Type 0) (o : Option T) (x : T) → o ≡ Some x → IfSome o P → P x
some_here P (Some y) x is p = let here : y ≡ x = cc is in subst P here p
some_here P None x is p = absurd (cc is)

-- ---- closing

-- what holds of some of a list's elements holds of some before the last, or of the last
pub any_last : {S : Type 0} (P : S → Type 0) (xs : List S) (x : S) → Any P (xs ++ x ∷ []) → Any P xs ⊎ P x
any_last P [] x (zero, y, below, is, p) = inr (subst P (sym is) p)
any_last P [] x (suc k, y, below, is, p) = absurd (omega arith)
any_last P (z ∷ xs) x (zero, y, below, is, p) = inl (0, y, omega arith, is, p)
any_last P (z ∷ xs) x (suc k, y, below, is, p) = later (any_last P xs x (k, y, omega arith, is, p))
  where
    later : Any P xs ⊎ P x → Any P (z ∷ xs) ⊎ P x
    later (inl (j, w, low, e, q)) = inl (suc j, w, omega arith, e, q)
    later (inr q) = inr q

pub rose_then : (a b c : ℕ) → Rose a b → b ≤ c → Rose a c
rose_then a b c rose later = omega (arith, rose, later)

pub rose_after : (a b c : ℕ) → a ≤ b → Rose b c → Rose a c
rose_after a b c later rose = omega (arith, later, rose)

-- ---- a list that is lent and returned

-- the sources that were opened, once they are lent
pub opened_lent : {S T E : Type 0} (inputs_tell : Bool) (inputs : Named (List ℕ)) (tells : S → Bool) (left : S → List ℕ) (faults : S → ℕ) (names : List (List ℕ)) {r : Result T E} {x : T} (sources lent : List S) → r ≡ Ok x
    → OnOk r (AreOpened inputs_tell inputs tells left faults names sources) → lent ≡ sources → AreOpened inputs_tell inputs tells left faults names lent
opened_lent inputs_tell inputs tells left faults names sources lent is opened same = subst (AreOpened inputs_tell inputs tells left faults names) (sym same) (on_ok_here is opened)

-- lists whose elements have the same values under a function are equally long
pub same_length : {S X : Type 0} (f : S → X) (old new : List S) → map f new ≡ map f old → length new ≡ length old
same_length f old new same = sym (length-map new f) ∙ ap length same ∙ length-map old f
