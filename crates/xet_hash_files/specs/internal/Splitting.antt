-- A block of a stream that is split in order.
use Rattle.std.specs.Prelude.{◌≡◌, ℕ, ◌≤◌, List, ◌++◌, length, drop}
use Rattle.xet_cut.specs.declared.limits.LimitSettings.{LimitSettings}
use Rattle.xet_cut.specs.Chunking.{chunking}
use Rattle.xet_hash.specs.Merkle.{leaves_of}

-- Chunks took so many of these bytes: whatever follows, the chunks of the whole are these, and then those of the bytes that are
-- left with what follows. Their leaves were appended.
pub record AreCut (s : LimitSettings) (bytes : List ℕ) (taken : ℕ) (before after : List (List ℕ × ℕ)) : Type 0 where
  pub within : taken ≤ length bytes
  pub parts : List (List ℕ)
  pub joined : (rest : List ℕ) → chunking s (bytes ++ rest) ≡ parts ++ chunking s (drop taken bytes ++ rest)
  pub made : after ≡ before ++ leaves_of parts
