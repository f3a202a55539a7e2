-- Reading a footer and its length, from one field on, for private functions.
use Rattle.std.specs.Prelude.{◌≡◌, ◌⊎◌, ℕ, ◌+◌, ◌-◌, false, List, ◌++◌, length, Err}
use Rattle.xet_hash.specs.declared.error.StoreError.{StoreError}
use Rattle.xet_hash.specs.declared.error.StoreError.TheVariants.{OutOfMemory}
use Rattle.xet_xorb_footer.specs.declared.decoder.Joined.{Joined}
use Rattle.xet_xorb_footer.specs.Joining.{rest_whole}

-- There are `total` bytes in all, of which `bytes` is left.
abbrev pub IsTotal : Joined → List ℕ → ℕ → Type 0
IsTotal j bytes total = j.ended ≡ false → total ≡ j.count + length bytes

-- Between the states `old` and `new`, `bytes` was read up to `rest`.
pub record ReadsUpTo (old new : Joined) (bytes rest : List ℕ) : Type 0 where
  pub moved : (more : List ℕ) (total : ℕ) → IsTotal old (bytes ++ more) total → rest_whole old total (bytes ++ more) ≡ rest_whole new total (rest ++ more)
  pub count : new.ended ≡ false → (old.ended ≡ false) × (new.count + length rest ≡ old.count + length bytes)

-- Errors of reading `bytes` next: out of memory, or the error of reading, whatever follows.
abbrev pub Stops : Joined → List ℕ → StoreError → Type 0
Stops j bytes e = (e ≡ OutOfMemory) ⊎ ((more : List ℕ) (total : ℕ) → IsTotal j (bytes ++ more) total → rest_whole j total (bytes ++ more) ≡ Err e)
