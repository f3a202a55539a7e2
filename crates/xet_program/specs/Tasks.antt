-- What each command works on: its folder, its limits and the files that it stores.
use Rattle.std.specs.Prelude.{◌≡◌, ◌⊎◌, ℕ, List, [], map, codes, Option, Some, unwrap_or}
use Rattle.std.specs.FinMap.{get}
use Rattle.std.specs.Str.Lines.{lines}
use Rattle.xet_cut.specs.declared.limits.LimitSettings.{LimitSettings}
use Rattle.xet_cut.specs.Limits.{shown_settings}
use Rattle.xet_cut.specs.Generator.{gear_table}
use Rattle.xet_program.specs.Words.{Command}
use Rattle.xet_program.specs.Words.Command.{Pack, Clean, Make}
use Rattle.xet_program.specs.Start.{Start}
use Rattle.xet_program.specs.Lines.{files_of}
use Rattle.xet_program.specs.Early.{lines_said}

-- the folder of the store
abbrev pub store_folder : List ℕ
store_folder = codes "store"

-- the limits of all commands but `pack`: the default ones, with the Gear table of seed 0
unfoldable pub default_limits : LimitSettings
default_limits = shown_settings (gear_table 0)

-- the limits under which a command works
abbrev pub limits_of : Command → LimitSettings
limits_of (Pack s workers) = s
limits_of _ = default_limits

-- the files that a command stores and records in the folder, in order: those of the file lines, or those under the names
abbrev pub files_to_store : Command → Start → List (List ℕ)
files_to_store (Pack s workers) start = files_of (lines_said (lines start.input))
files_to_store (Clean names) start = map (λ name. unwrap_or (get start.inputs name) []) names
files_to_store _ start = []

-- The statuses with which no file of the disk has changed. The commands that only read never change one.
abbrev pub IsIdle : Option Command → ℕ → Type 0
IsIdle (Some (Pack s workers)) status = (status ≡ 2) ⊎ (status ≡ 3) ⊎ (status ≡ 4) ⊎ (status ≡ 7) ⊎ (status ≡ 8)
IsIdle (Some (Clean names)) status = (status ≡ 7) ⊎ (status ≡ 8)
IsIdle (Some (Make seed bytes)) status = status ≡ 7
IsIdle _ status = Unit {0}
