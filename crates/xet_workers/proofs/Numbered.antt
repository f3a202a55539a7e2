-- The passes of workers: they have consecutive numbers, and the entries since the session began are their own ones.
use Rattle.std.proofs.Common.{◌≡◌, ◌≢◌, ◌∙◌, ℕ, suc, ◌+◌, ◌≤◌, Bool, false, List, [], ◌∷◌, ◌++◌, Some, Result, Ok, Err, drop, length, map, sym, ap, subst, arith}
use Rattle.std.specs.List.{AllByRecursion, sum_by}
use mathlib.Core.List.{IsPrefix}
use Rattle.xet_base.specs.theorems.Elements.{all_more}
use Rattle.xet_clean.specs.Cleaning.{entries_since}
use Rattle.xet_clean.specs.declared.working.Working.{Working}
use Rattle.xet_hash.specs.declared.error.StoreError.{StoreError}
use Rattle.xet_history.specs.declared.entry.Entry.{Entry}
use Rattle.xet_locked_session.specs.Passes.{IsSeen, NumbersDiffer, own_numbers}
use Rattle.xet_locked_session.specs.Passing.{passing_of}
use Rattle.xet_shared_history.specs.Owned.{HasEachOnce}
use Rattle.xet_store.specs.Holders.{Follows, Holder, numbered, seen}
use Rattle.xet_store.specs.theorems.Following.{length-numbered}
use Rattle.xet_store.specs.Recorded.{RecordedState}
use Rattle.xet_workers.specs.Workers.{EndsAs, HasPassed, HaveEnded, SeatState}
use Rattle.xet_workers.proofs.Parting.{IsFrom, parted}
use Rattle.xet_workers.proofs.Sums.{length_parted}

-- ---- one pass

module _ (store : RecordedState) (number : ℕ) (begun pass : Holder) (stopped : Bool) (is : HasPassed store number begun pass stopped) where
  pub passed_number : pass.number ≡ number
  passed_number = ap (λ (h : Holder). h.number) is.passing.follows.is ∙ is.number

  pub passed_limits : begun.limits ≡ store.store.limits
  passed_limits = ap (λ (h : Holder). h.limits) is.of.is

  -- the entries that it added are its own ones
  pub passed_own : (f : Follows (passing_of begun begun false) (passing_of begun pass stopped)) → f.own ≡ pass.own
  passed_own f =
      ap (λ (l : List (ℕ × Entry)). drop (length l) l ++ f.own) (sym is.none)
      ∙ sym (ap (λ (h : Holder). h.own) f.is)
      ∙ ap (λ (l : List (ℕ × Entry)). drop (length l) pass.own) is.none

-- ---- several

module _ (store : RecordedState) where
  -- The passes have consecutive numbers from this one on, and have made steps since they began without own entries.
  abbrev pub HavePassed : ℕ → List Holder → Type 0
  HavePassed number [] = Unit {0}
  HavePassed number (pass ∷ passes) = ((begun : Holder) × (stopped : Bool) × HasPassed store number begun pass stopped) × HavePassed (suc number) passes

  numbers_after : (number : ℕ) (passes : List Holder) → HavePassed number passes → AllByRecursion (λ h. number ≤ h.number) passes
  numbers_after number [] passed = tt
  numbers_after number (pass ∷ passes) passed = (
    omega (arith, passed_number store number passed.0.0 pass passed.0.1 passed.0.2),
    all_more (λ (h : Holder). suc number ≤ h.number) (λ h. number ≤ h.number) passes (λ h le. omega (arith, le)) (numbers_after (suc number) passes passed.1),
  )

  pub passed_differ : (number : ℕ) (passes : List Holder) → HavePassed number passes → NumbersDiffer passes
  passed_differ number [] passed = tt
  passed_differ number (pass ∷ passes) passed =
      let is : pass.number ≡ number = passed_number store number passed.0.0 pass passed.0.1 passed.0.2 in (
        all_more (λ (h : Holder). suc number ≤ h.number) (λ h. h.number ≢ pass.number) passes (λ h le same. absurd (omega (arith, le, same, is))) (numbers_after (suc number) passes passed.1),
        passed_differ (suc number) passes passed.1,
      )

  pub passed_from : (history : List Entry) (number : ℕ) (passes : List Holder) → HavePassed number passes → AllByRecursion IsSeen passes → AllByRecursion (λ p. IsPrefix (seen p) history) passes
      → AllByRecursion (IsFrom history (length store.history)) passes
  passed_from history number [] passed known prefix = tt
  passed_from history number (pass ∷ passes) passed known prefix = (
    record { sees = known.0; prefix = prefix.0; begins = ap (λ (h : Holder). length h.before) passed.0.2.end.is },
    passed_from history (suc number) passes passed.1 known.1 prefix.1,
  )

  -- how many entries there are since then
  pub passed_count : (new : RecordedState) (number : ℕ) (passes : List Holder) → HavePassed number passes → AllByRecursion IsSeen passes → AllByRecursion (λ p. IsPrefix (seen p) new.history) passes
      → HasEachOnce (length store.history) (length new.history) (own_numbers passes) → length (entries_since store new) ≡ sum_by (λ p. length p.own) passes
  passed_count new number passes passed known prefix once =
      sym (length-numbered (length store.history) (entries_since store new))
      ∙ length_parted (numbered (length store.history) (entries_since store new)) passes
      (parted new.history (length store.history) passes (passed_from new.history number passes passed known prefix) (passed_differ number passes passed) once)

-- ---- those of workers that have ended

module _ {S : Type 0} (tells : S → Bool) (left : S → List ℕ) (faults : S → ℕ) (store : RecordedState) where
  ended_passed : (number first : ℕ) (ss ts : List S) (pass : Holder) (made : Result Working StoreError) → EndsAs tells left faults store number first ss ts pass made
      → (begun : Holder) × (stopped : Bool) × HasPassed store number begun pass stopped
  ended_passed number first ss ts pass (Ok w) is = (is.begun, false, is.passed)
  ended_passed number first ss ts pass (Err e) is = (is.2.begun, is.2.stopped, is.2.passed)

  pub all_passed : (number first : ℕ) (sources now : List S) (seats : List SeatState) (passes : List Holder) → HaveEnded tells left faults store number first sources now seats → map (λ s. s.pass) seats ≡ map Some passes
      → HavePassed store number passes
  all_passed number first sources now [] [] ended there = tt
  all_passed number first sources now [] (pass ∷ passes) ended there = absurd (cc there)
  all_passed number first sources now (seat ∷ seats) [] ended there = absurd (cc there)
  all_passed number first sources now (seat ∷ seats) (pass ∷ passes) (part, rest, part_now, rest_now, order, order_now, one, others) there =
      let same : one.pass ≡ pass = cc (one.there, there) in
      let more : map (λ (s : SeatState). s.pass) seats ≡ map Some passes = cc there in (
        ended_passed number first part part_now pass seat.made (subst (λ (h : Holder). EndsAs tells left faults store number first part part_now h seat.made) same one.ended),
        all_passed (suc number) (first + length part) rest rest_now seats passes others more,
      )
