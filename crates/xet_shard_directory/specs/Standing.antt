-- What is at a path where the bytes of a shard are to be.
use Rattle.std.specs.Prelude.{◌≡◌, ◌≢◌, ℕ, Bool, true, false, List, Option, Some, None}
use Rattle.xet_shard_directory.specs.declared.standing.Standing.{Standing}
use Rattle.xet_shard_directory.specs.declared.standing.Standing.TheVariants.{Absent, Other, Same}

-- whether the bytes that are there are these
abbrev pub IsSame : Option (List ℕ) → List ℕ → Bool → Type 0
IsSame found bytes true = found ≡ Some bytes
IsSame found bytes false = (b : List ℕ) × (found ≡ Some b) × (b ≢ bytes)

-- no bytes are there, or these, or others
abbrev pub IsStanding : Option (List ℕ) → List ℕ → Standing → Type 0
IsStanding found bytes Absent = found ≡ None
IsStanding found bytes Same = IsSame found bytes true
IsStanding found bytes Other = IsSame found bytes false
