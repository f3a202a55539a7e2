-- What is put through a buffer, for private functions.
use Rattle.std.specs.Prelude.{List, OnErr, OnOk, Result, ℕ}
use Rattle.xet_hash.specs.declared.error.StoreError.{StoreError}
use Rattle.xet_codec.specs.Written.{Moves, WritesPrefix}

-- These bytes were put: written or buffered, or, after an error, a prefix of them was written.
pub record Puts {T : Type 0} (result : Result T StoreError) (before now behind bytes : List ℕ) : Type 0 where
  pub moved : OnOk result (Moves before now behind bytes)
  pub prefix : OnErr result (WritesPrefix before now bytes)
