-- Sources of which nothing was taken; and the part of one worker.
use Rattle.std.proofs.Common.{◌≡◌, ℕ, zero, suc, ◌+◌, ◌^◌, ◌<◌, ◌≤◌, Bool, false, List, [], ◌∷◌, length, refl, sym, subst, arith, Some}
use Rattle.std.specs.Prelude.{Err, IfErr, IfOk, Ok, Result}
use Rattle.xet_clean.specs.Sources.{HasCleaned, IsLoopError}
use Rattle.xet_clean.specs.declared.policy.Sha256Policy.TheVariants.{Compute}
use Rattle.xet_clean.specs.declared.working.Working.{Working}
use Rattle.xet_hash.specs.declared.error.Place.{Place}
use Rattle.xet_hash.specs.declared.error.Place.TheVariants.{Source}
use Rattle.xet_hash.specs.declared.error.StoreError.{StoreError}
use Rattle.xet_hash.specs.declared.error.StoreError.TheVariants.{Io, TooLarge}
use Rattle.xet_hash.specs.declared.error.What.{What}
use Rattle.xet_hash.specs.declared.error.What.TheVariants as what
use Rattle.xet_locked_session.specs.Passing.{passing_of}
use Rattle.xet_store.specs.Holders.{Holder}
use Rattle.xet_store.specs.Recorded.{RecordedState}
use Rattle.xet_store_disk.specs.Cleaning.{AreTaken, IsLongAt, Later, RoseAt}
use Rattle.xet_workers.specs.Workers.{EndsAs, HasEnded, HasPassed, HasStopped, HasWorked, NamesWithin, Worked, later_source, worked}
use Rattle.xet_workers.proofs.Begun.{IsRefused, MayHavePassed}

-- ---- errors that name sources

pub within_later : (first count most : ℕ) (e : StoreError) → first + count ≤ most → NamesWithin count e → NamesWithin most (later_source first e)
within_later first count most (Io (Source i)) fits within = omega (arith, fits, within)
within_later first count most (TooLarge (what.Source i)) fits within = omega (arith, fits, within)
within_later first count most e fits within = tt

-- the number of a source that such an error names
pub fits_source : (first number most : ℕ) (p : Place) (e : StoreError) → e ≡ Io p → p ≡ Source number → NamesWithin most (later_source first e) → first + number < most
fits_source first number most p e is at within =
    subst (λ (q : Place). NamesWithin most (later_source first (Io q))) at (subst (λ (x : StoreError). NamesWithin most (later_source first x)) is within)

pub fits_large : (first number most : ℕ) (w : What) (e : StoreError) → e ≡ TooLarge w → w ≡ what.Source number → NamesWithin most (later_source first e) → first + number < most
fits_large first number most w e is at within =
    subst (λ (q : What). NamesWithin most (later_source first (TooLarge q))) at (subst (λ (x : StoreError). NamesWithin most (later_source first x)) is within)

module _ {S : Type 0} (tells : S → Bool) (left : S → List ℕ) (faults : S → ℕ) where
  rose_within : (ss ts : List S) (i : ℕ) → RoseAt faults ss ts i → i < length ss
  rose_within [] ts i rose = absurd rose
  rose_within (s ∷ ss) [] i rose = absurd rose
  rose_within (s ∷ ss) (t ∷ ts) zero rose = omega arith
  rose_within (s ∷ ss) (t ∷ ts) (suc i) rose = omega (arith, rose_within ss ts i rose)

  long_within : (ss : List S) (most i : ℕ) → IsLongAt tells left ss most i → i < length ss
  long_within [] most i long = absurd long
  long_within (s ∷ ss) most zero long = omega arith
  long_within (s ∷ ss) most (suc i) long = omega (arith, long_within ss most i long)

  names_within : (ss ts : List S) (old new : Holder) (e : StoreError) → IsLoopError tells left faults ss ts old new e → NamesWithin (length ss) e
  names_within ss ts old new (Io (Source i)) why = rose_within ss ts i why.0
  names_within ss ts old new (TooLarge (what.Source i)) why = long_within ss old.limits.max_source_bytes i why.0
  names_within ss ts old new e why = tt

  -- ---- nothing was taken

  pub taken_same : (ss : List S) → AreTaken tells left ss ss
  taken_same [] = tt
  taken_same (s ∷ ss) = (λ told. (0, refl), taken_same ss)

  pub later_same : (ss : List S) → Later faults ss ss
  later_same [] = tt
  later_same (s ∷ ss) = (omega arith, later_same ss)

  -- ---- one worker

  module _ (store : RecordedState) (begun : Holder) (ss ts : List S) where
    -- the number of the source fits
    pub small_later : (pass : Holder) (first : ℕ) (e : StoreError) → first + length ss ≤ 2 ^ 20 → MayHavePassed store begun pass (IsRefused tells left faults ss ts begun pass e)
        → NamesWithin (2 ^ 32) (later_source first e)
    small_later pass first e fits why =
        within_later first (length ss) (2 ^ 32) e (omega (arith, fits)) (names_within ss ts (passing_of begun begun false) (passing_of begun pass why.0) e why.2.0)

    -- it cleaned its sources
    pub worked_by : (number : ℕ) (w : Worked) → begun.number ≡ number → HasPassed store begun.number begun w.pass false × HasCleaned Compute tells left faults ss ts (passing_of begun begun false) (passing_of begun w.pass false) w.infos w.choices w.metrics w.left
        → HasWorked tells left faults store number ss ts w
    worked_by number w same made = record {
      begun = begun;
      passed = subst (λ (k : ℕ). HasPassed store k begun w.pass false) same made.0;
      cleaned = made.1;
    }

    -- it did not
    pub stopped_by : (number : ℕ) (pass : Holder) (cause : StoreError) → begun.number ≡ number → MayHavePassed store begun pass (IsRefused tells left faults ss ts begun pass cause) → HasStopped tells left faults store number ss ts pass cause
    stopped_by number pass cause same why = record {
      begun = begun;
      stopped = why.0;
      passed = subst (λ (k : ℕ). HasPassed store k begun pass why.0) same why.1;
      why = why.2.0;
      short = why.2.1;
    }

    -- its pass is back in its seat
    pub ended_by : (number first : ℕ) (pass : Holder) (made put : Result Working StoreError) → begun.number ≡ number
        → IfOk made (λ w. HasPassed store begun.number begun pass false × HasCleaned Compute tells left faults ss ts (passing_of begun begun false) (passing_of begun pass false) w.cleaned.infos.items w.cleaned.choices.items w.cleaned.metrics w.aggregate)
        → IfErr made (λ e. MayHavePassed store begun pass (IsRefused tells left faults ss ts begun pass e)) → IfOk made (λ w. put ≡ Ok w) → IfErr made (λ e. put ≡ Err (later_source first e))
        → HasEnded tells left faults store number first ss ts (record { pass = Some pass; made = put })
    ended_by number first pass (Ok w) put same cleaned refused ok err = record {
      pass = pass;
      there = refl;
      ended = subst (EndsAs tells left faults store number first ss ts pass) (sym ok) (worked_by number (worked pass w) same cleaned);
    }
    ended_by number first pass (Err e) put same cleaned refused ok err = record {
      pass = pass;
      there = refl;
      ended = subst (EndsAs tells left faults store number first ss ts pass) (sym err) (e, refl, stopped_by number pass e same refused);
    }
