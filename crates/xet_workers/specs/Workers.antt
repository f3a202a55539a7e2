-- Workers that clean parts of the sources, each over a pass of one session.
use Rattle.std.specs.Prelude.{◌≡◌, ◌<◌, ◌+◌, ◌++◌, ℕ, suc, Bool, false, List, [], ◌∷◌, Option, Some, Result, Ok, Err, length}
use Rattle.xet_aggregate.specs.Aggregate.{Aggregate}
use Rattle.xet_aggregate.specs.declared.metrics.DeduplicationMetrics.{DeduplicationMetrics}
use Rattle.xet_choices.specs.declared.choice.Choice.{Choice}
use Rattle.xet_clean.specs.Sources.{HasCleaned, IsCutShort, IsLoopError}
use Rattle.xet_clean.specs.declared.policy.Sha256Policy.TheVariants.{Compute}
use Rattle.xet_clean.specs.declared.working.Working.{Working}
use Rattle.xet_hash.specs.declared.error.Place.TheVariants.{Source}
use Rattle.xet_hash.specs.declared.error.StoreError.{StoreError}
use Rattle.xet_hash.specs.declared.error.StoreError.TheVariants.{Io, TooLarge}
use Rattle.xet_hash.specs.declared.error.What.TheVariants as what
use Rattle.xet_locked_session.specs.Passes.{IsPassOf}
use Rattle.xet_locked_session.specs.Passing.{IsPassing, passing_of}
use Rattle.xet_store.specs.Holders.{Holder}
use Rattle.xet_store.specs.Recorded.{RecordedState}
use Rattle.xet_store_disk.specs.declared.info.XetFileInfo.{XetFileInfo}

-- what a worker has at its end: its pass, and what it made of its sources
pub record Worked : Type 0 where
  pub pass : Holder
  pub infos : List XetFileInfo
  pub choices : List (List Choice)
  pub metrics : DeduplicationMetrics
  pub left : Aggregate

-- of these parts
abbrev pub worked : Holder → Working → Worked
worked pass w = record { pass = pass; infos = w.cleaned.infos.items; choices = w.cleaned.choices.items; metrics = w.cleaned.metrics; left = w.aggregate }

-- A pass of a session of this store has this number, and began without own entries. It has made steps since then.
pub record HasPassed (store : RecordedState) (given : ℕ) (begun pass : Holder) (stopped : Bool) : Type 0 where
  pub of : IsPassOf store begun
  pub number : begun.number ≡ given
  pub none : begun.own ≡ []
  pub passing : IsPassing begun pass stopped
  pub end : IsPassOf store pass

-- The worker whose pass has this number cleaned these sources.
pub record HasWorked {S : Type 0} (tells : S → Bool) (left : S → List ℕ) (faults : S → ℕ) (store : RecordedState) (number : ℕ) (sources now : List S) (w : Worked) : Type 0 where
  pub begun : Holder
  pub passed : HasPassed store number begun w.pass false
  pub cleaned : HasCleaned Compute tells left faults sources now (passing_of begun begun false) (passing_of begun w.pass false) w.infos w.choices w.metrics w.left

-- the error, with the number of a source so much higher
abbrev pub later_source : ℕ → StoreError → StoreError
later_source n (Io (Source i)) = Io (Source (n + i))
later_source n (TooLarge (what.Source i)) = TooLarge (what.Source (n + i))
later_source n e = e

-- an error that names a source names one of the first so many
abbrev pub NamesWithin : ℕ → StoreError → Type 0
NamesWithin n (Io (Source i)) = i < n
NamesWithin n (TooLarge (what.Source i)) = i < n
NamesWithin n e = Unit {0}

-- The worker whose pass has this number did not clean these sources: it read them in order up to one, and stopped for this cause,
-- which names them from 0 on.
pub record HasStopped {S : Type 0} (tells : S → Bool) (left : S → List ℕ) (faults : S → ℕ) (store : RecordedState) (number : ℕ) (sources now : List S) (pass : Holder) (cause : StoreError) : Type 0 where
  pub begun : Holder
  pub stopped : Bool
  pub passed : HasPassed store number begun pass stopped
  pub why : IsLoopError tells left faults sources now (passing_of begun begun false) (passing_of begun pass stopped) cause
  pub short : IsCutShort [] Compute tells left sources now (passing_of begun begun false) (passing_of begun pass stopped) cause

-- ---- seats

-- The seat of a worker: its pass, if that lies there, and what the worker made of its part of the sources, or why not.
pub record SeatState : Type 0 where
  pub pass : Option Holder
  pub made : Result Working StoreError

-- The pass with this number lies in the seat, and has no own entries.
pub record IsReady (store : RecordedState) (given : ℕ) (seat : SeatState) : Type 0 where
  pub pass : Holder
  pub there : seat.pass ≡ Some pass
  pub of : IsPassOf store pass
  pub number : pass.number ≡ given
  pub none : pass.own ≡ []

-- the passes of these seats have consecutive numbers from this one on
abbrev pub AreReady : RecordedState → ℕ → List SeatState → Type 0
AreReady store number [] = Unit {0}
AreReady store number (seat ∷ seats) = IsReady store number seat × AreReady store (suc number) seats

-- The worker cleaned its part of the sources, or stopped. Its error names them from `first` on.
abbrev pub EndsAs : {S : Type 0} → (S → Bool) → (S → List ℕ) → (S → ℕ) → RecordedState → ℕ → ℕ → List S → List S → Holder → Result Working StoreError → Type 0
EndsAs tells left faults store number first sources now pass (Ok w) = HasWorked tells left faults store number sources now (worked pass w)
EndsAs tells left faults store number first sources now pass (Err e) = (cause : StoreError) × (e ≡ later_source first cause) × HasStopped tells left faults store number sources now pass cause

-- Its pass is back in its seat.
pub record HasEnded {S : Type 0} (tells : S → Bool) (left : S → List ℕ) (faults : S → ℕ) (store : RecordedState) (number first : ℕ) (sources now : List S) (seat : SeatState) : Type 0 where
  pub pass : Holder
  pub there : seat.pass ≡ Some pass
  pub ended : EndsAs tells left faults store number first sources now pass seat.made

-- The same of the workers of these seats, whose passes have consecutive numbers from this one on, and whose parts of the sources
-- follow each other.
abbrev pub HaveEnded : {S : Type 0} → (S → Bool) → (S → List ℕ) → (S → ℕ) → RecordedState → ℕ → ℕ → List S → List S → List SeatState → Type 0
HaveEnded tells left faults store number first sources now [] = (sources ≡ []) × (now ≡ [])
HaveEnded {S} tells left faults store number first sources now (seat ∷ seats) =
    (part rest part_now rest_now : List S) × (sources ≡ part ++ rest) × (now ≡ part_now ++ rest_now) × HasEnded tells left faults store number first part part_now seat
    × HaveEnded tells left faults store (suc number) (first + length part) rest rest_now seats
