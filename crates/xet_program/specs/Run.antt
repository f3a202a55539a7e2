-- What a run of the program promises.
use Rattle.std.specs.Prelude.{◌≡◌, ◌⊎◌, ℕ, ◌≤◌, Bool, true, List, ◌++◌, Option, None}
use Rattle.xet_io.specs.Disk.{Files}
use Rattle.xet_hash.specs.declared.error.StoreError.{StoreError}
use Rattle.xet_folder.specs.Admission.{Refuses}
use Rattle.xet_program.specs.Words.{Command}
use Rattle.xet_program.specs.Start.{Observes, Start}
use Rattle.xet_program.specs.Early.{Outcome, bad_line_text}
use Rattle.xet_program.specs.Tasks.{store_folder}
use Rattle.xet_program.specs.Ending.{IsFaultless, IsShardName, IsSilent, IsStopped, MayEnd, Prints, bad_shard_text}
use Rattle.xet_program.specs.Stored.{IsAdmittedAt, Works}

-- A run of a command, from a start. It has written from `before` to `after` on its output, the files of its disk
-- have become `new`, and it has ended with a status. A clause about what was written holds if the output is
-- observable.
pub record Run (command : Option Command) (start : Start) (output_tells : Bool) (before after : List ℕ) (new : Files) (status : ℕ) : Type 0 where
  -- status 2 only for invalid arguments
  pub invalid : status ≡ 2 → command ≡ None
  -- invalid arguments end with status 2 or 1
  pub words : command ≡ None → (status ≡ 2) ⊎ (status ≡ 1)
  -- how it has ended, and what it has printed
  pub ends : (o : Outcome) × MayEnd command start new o × Prints output_tells o before after status
  pub bounded : status ≤ 10
  pub silent : output_tells ≡ true → IsSilent status → after ≡ before
  pub bad_line : output_tells ≡ true → status ≡ 3 → (n : ℕ) × (after ≡ before ++ bad_line_text n)
  -- a shard of the folder is the first with which a check fails, and its name was printed
  pub bad_shard : status ≡ 7 → (name : List ℕ) × IsShardName name × (start.tells ≡ true → (e : StoreError) × Refuses start.files store_folder start.now e name)
      × (output_tells ≡ true → after ≡ before ++ bad_shard_text name)
  -- without a cause for another status it is 0, unless the run was stopped
  pub complete : Observes start command → start.tells ≡ true → IsFaultless command start new → (status ≡ 0) ⊎ IsStopped status
  -- what it does to the files of its disk
  pub works : Works command start new status
  -- a folder that is valid stays so
  pub admitted : start.tells ≡ true → (later : ℕ) → start.now ≤ later → IsAdmittedAt start.now start.files → IsAdmittedAt later new
