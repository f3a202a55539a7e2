-- What a command answers before it prints, for private functions.
use Rattle.std.specs.Prelude.{ℕ, Bool, List, Option, Some}
use Rattle.xet_io.specs.Disk.{Files}
use Rattle.xet_io.specs.Named.{Named}
use Rattle.xet_program.specs.Words.{Command}
use Rattle.xet_program.specs.Start.{Start, start}
use Rattle.xet_program.specs.Early.{Outcome}
use Rattle.xet_program.specs.Ending.{MayEnd}
use Rattle.xet_program.specs.Stored.{Works}

-- What a command answers from a start, over a disk whose files become `new`.
pub record Answered (command : Option Command) (start : Start) (new : Files) (o : Outcome) : Type 0 where
  pub ends : MayEnd command start new o
  pub works : Works command start new o.status

-- What a command answers that reads the input and opens no other, whatever the others are.
abbrev pub AnsweredByInput : Command → Bool → List ℕ → ℕ → Bool → Files → Files → Outcome → Type 0
AnsweredByInput command input_tells input now tells old new o =
    (inputs_tell : Bool) (inputs : Named (List ℕ)) → Answered (Some command) (start input_tells input inputs_tell inputs now tells old) new o
