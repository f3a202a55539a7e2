-- The errors of writing a shard.
use Rattle.std.specs.Prelude.{◌≡◌}
use Rattle.xet_hash.specs.declared.error.Place.TheVariants.{Output}
use Rattle.xet_hash.specs.declared.error.StoreError.{StoreError}
use Rattle.xet_hash.specs.declared.error.StoreError.TheVariants.{Io, OutOfMemory}

-- out of memory, or a failed sink
abbrev pub IsWriteError : StoreError → Type 0
IsWriteError OutOfMemory = Unit {0}
IsWriteError (Io place) = place ≡ Output
IsWriteError e = ⊥
