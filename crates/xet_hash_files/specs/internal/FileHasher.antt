-- A file whose bytes come in pieces.
use Rattle.std.specs.Prelude.{◌≡◌, ◌⊎◌, ℕ, ◌+◌, ◌<◌, ◌≤◌, List, length}
use Rattle.xet_cut.specs.Limits.{AreInRange}
use Rattle.xet_cut.specs.Streams.{IsSplit, Splitting}
use Rattle.xet_hash.specs.Merkle.{leaves_of}
use Rattle.xet_hash.specs.declared.error.StoreError.{StoreError}
use Rattle.xet_hash.specs.declared.error.StoreError.TheVariants.{OutOfMemory, TooLarge}
use Rattle.xet_hash.specs.declared.error.What.TheVariants as what

-- These bytes of a file came. They are split into chunks, of which the leaves are kept, and into what is buffered.
pub record IsHashing (splitting : Splitting) (leaves : List (List ℕ × ℕ)) (count most : ℕ) (bytes : List ℕ) : Type 0 where
  pub range : AreInRange splitting.settings
  pub limit : most ≡ splitting.settings.max_source_bytes
  pub counted : count ≡ length bytes
  pub short : length bytes ≤ most
  pub parts : List (List ℕ)
  pub split : IsSplit splitting.settings bytes parts splitting.buffered
  pub made : leaves ≡ leaves_of parts

-- Why the next bytes were not added: memory is out, or the file has more bytes than the limits allow.
abbrev pub IsAddError : ℕ → ℕ → ℕ → List ℕ → StoreError → Type 0
IsAddError number count most bytes e = (e ≡ OutOfMemory) ⊎ ((e ≡ TooLarge (what.Source number)) × (most < count + length bytes))
