-- What a command of the program asks for, for private functions.
use Rattle.std.specs.Prelude.{ℕ, ◌≤◌, List, Option, None, Some, length, map, string_bytes}
use Rattle.xet_program.specs.Words.{Command, max_generated, max_names, workers_of}
use Rattle.xet_program.specs.Words.Command.{Pack, Clean, Make, Read, ListFiles, Group}
use Rattle.xet_program.specs.Early.{max_input}
use Rattle.xet_program.specs.declared.words.Command.{Command as Parsed}
use Rattle.xet_program.specs.declared.words.Command.TheVariants as parsed

abbrev pub asked : Parsed → Command
asked (parsed.Pack s workers) = Pack s workers
asked (parsed.Clean names) = Clean (map string_bytes names.now)
asked (parsed.Make seed bytes) = Make seed bytes
asked (parsed.Read h from to) = Read h from to
asked parsed.ListFiles = ListFiles
asked parsed.Group = Group

-- the number of workers that is asked for: 1 if none is given
abbrev pub workers_given : Option (List ℕ) → Option ℕ
workers_given None = Some 1
workers_given (Some word) = workers_of word

-- A source of `pack` may be as long as the longest input, and it has from 1 to 256 workers; `clean` has at most as many names as
-- are allowed, and the file of `make` has at most as many bytes as are allowed.
abbrev pub AllowsInput : Command → Type 0
AllowsInput (Pack s workers) = (max_input ≤ s.max_source_bytes) × (1 ≤ workers) × (workers ≤ 256)
AllowsInput (Clean names) = length names ≤ max_names
AllowsInput (Make seed bytes) = bytes ≤ max_generated
AllowsInput _ = Unit {0}
