-- The SHA-256 of a file that is computed on another thread, some blocks behind.
use Rattle.std.specs.Prelude.{◌≡◌, ℕ, List, ◌++◌, Option, None, Some}
use Rattle.std.specs.List.{concat}
use Rattle.xet_clean.specs.Policies.{HasBytes}
use Rattle.xet_clean.specs.declared.policy.Sha256Generator.{Sha256Generator}
use Rattle.xet_workers.specs.declared.behind.Running.{Running}

-- The generator was given these bytes. If a thread is at work, it returns a generator that was given them.
abbrev pub HasBefore : Sha256Generator → Option Running → List ℕ → Type 0
HasBefore g None bytes = HasBytes g bytes
HasBefore g (Some r) bytes =
    (before : List ℕ) × HasBytes r.handle.promise.was.value before × (bytes ≡ before ++ concat r.handle.promise.blocks.value.items)

-- The bytes of the file so far: those that the generator was given, or is given, and then the blocks that wait.
abbrev pub HasBehind : Sha256Generator → Option Running → List (List ℕ) → List ℕ → Type 0
HasBehind g running waiting bytes = (before : List ℕ) × HasBefore g running before × (bytes ≡ before ++ concat waiting)
