-- What was written, and what is still buffered.
use Rattle.std.specs.Prelude.{◌≡◌, ℕ, List, ◌++◌, drop, take}

-- a prefix of these bytes was written
pub record WritesPrefix (before now bytes : List ℕ) : Type 0 where
  pub count : ℕ
  pub written : now ≡ before ++ take count bytes

-- a prefix of these bytes was written, and the others are buffered
pub record Moves (before now behind bytes : List ℕ) : Type 0 where
  pub count : ℕ
  pub written : now ≡ before ++ take count bytes
  pub held : behind ≡ drop count bytes
