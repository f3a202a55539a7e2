-- What is true of a pass that makes steps.
use Rattle.std.specs.Prelude.{◌≡◌, ℕ, Bool, List, [], ◌∷◌, ◌++◌}
use Rattle.xet_choices.specs.Calls.{entries_of}
use Rattle.xet_locked_session.specs.Passes.{IsPassOf}
use Rattle.xet_store.specs.Holders.{Holder, calls_of}
use Rattle.xet_store.specs.Recorded.{RecordedState}
use Rattle.xet_locked_session.specs.Passing.{IsPassing, passing_of}

-- If a holder has made queries, this is the number of the entry of the latest one.
abbrev pub IsLast : Holder → ℕ → Type 0
IsLast h last = (before : List ℕ) (entry : ℕ) → entries_of (calls_of h) ≡ before ++ entry ∷ [] → last ≡ entry

-- The pass is one of a session of this store.
pub record IsKept (store : RecordedState) (start now : Holder) (stopped : Bool) (last : ℕ) : Type 0 where
  pub passing : IsPassing start now stopped
  pub of : IsPassOf store start
  pub latest : IsLast (passing_of start now stopped) last
