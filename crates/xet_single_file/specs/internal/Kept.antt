-- What is true of one file that is cleaned over a pass.
use Rattle.std.specs.Prelude.{◌≡◌, ℕ, Bool, false, List}
use Rattle.xet_clean.specs.Cleaner.{IsCleaning}
use Rattle.xet_clean.specs.Policies.{HasBytesBy}
use Rattle.xet_clean.specs.declared.policy.Sha256Generator.{Sha256Generator}
use Rattle.xet_clean.specs.declared.policy.Sha256Policy.{Sha256Policy}
use Rattle.xet_cut.specs.Streams.{Splitting}
use Rattle.xet_file_plan.specs.Moves.{PlanState}
use Rattle.xet_locked_session.specs.Passes.{IsPassOf}
use Rattle.xet_locked_session.specs.Passing.{IsPassing, PassingState, passing_of, passing_state}
use Rattle.xet_store.specs.Holders.{Holder}
use Rattle.xet_store.specs.Recorded.{RecordedState}

-- what a pass that makes steps has seen and done, as a holder
abbrev pub holder_in : PassingState → Holder
holder_in s = passing_of s.start s.pass s.stopped

-- The pass began as one of a session of this store, and has made steps since then. The file has the number of its source.
pub record IsKept (store : RecordedState) (start now : PassingState) (id number : ℕ) : Type 0 where
  pub begun : start ≡ passing_state start.start start.start false
  pub same : now.start ≡ start.start
  pub of : IsPassOf store start.start
  pub passing : IsPassing now.start now.pass now.stopped
  pub named : id ≡ number

-- These bytes of the file came since then, and the generator was given them, if the SHA-256 is computed.
pub record IsWhole (start now : PassingState) (whole : Bool) (plan : PlanState) (global : ℕ × ℕ) (splitting : Splitting) (count : ℕ) (policy : Sha256Policy) (generator : Sha256Generator) (bytes : List ℕ) : Type 0 where
  pub cleaning : IsCleaning (holder_in start) (holder_in now) whole plan global splitting count bytes
  pub hashed : HasBytesBy policy generator bytes
