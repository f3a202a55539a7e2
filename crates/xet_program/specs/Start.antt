-- What a run starts from.
use Rattle.std.specs.Prelude.{◌≡◌, ℕ, Bool, true, List, Option, Some, None, Any}
use Rattle.std.specs.FinMap.{get}
use Rattle.xet_io.specs.Disk.{Files}
use Rattle.xet_io.specs.Named.{Named}
use Rattle.xet_program.specs.Words.{Command}
use Rattle.xet_program.specs.Words.Command.{Pack, Clean, Group}

-- The bytes that are left in the input, and those under each name, each observable or not; the time, in seconds
-- since 1970; and the files of the disk, observable or not.
pub record Start : Type 0 where
  pub input_tells : Bool
  pub input : List ℕ
  pub inputs_tell : Bool
  pub inputs : Named (List ℕ)
  pub now : ℕ
  pub tells : Bool
  pub files : Files

abbrev pub start : Bool → List ℕ → Bool → Named (List ℕ) → ℕ → Bool → Files → Start
start input_tells input inputs_tell inputs now tells files =
    record { input_tells = input_tells; input = input; inputs_tell = inputs_tell; inputs = inputs; now = now; tells = tells; files = files }

-- The command reads the input.
abbrev pub ReadsInput : Option Command → Type 0
ReadsInput (Some (Pack s workers)) = Unit {0}
ReadsInput (Some Group) = Unit {0}
ReadsInput _ = ⊥

-- The command opens files by name.
abbrev pub OpensInputs : Option Command → Type 0
OpensInputs (Some (Clean names)) = Unit {0}
OpensInputs _ = ⊥

-- What the command reads besides the disk is observable.
abbrev pub Observes : Start → Option Command → Type 0
Observes start command = (ReadsInput command → start.input_tells ≡ true) × (OpensInputs command → start.inputs_tell ≡ true)

-- The command opens files by name, and one of the names is absent.
abbrev pub LacksName : Option Command → Start → Type 0
LacksName (Some (Clean names)) start = Any (λ name. get start.inputs name ≡ None) names
LacksName _ start = ⊥
