-- Bytes in four groups by their index modulo 4.
use Rattle.std.specs.Prelude.{◌≡◌, ℕ, zero, suc, List, [], ◌∷◌, ◌++◌}

-- the bytes at the indices n, n + 4, n + 8, ..
unfoldable pub every_fourth : ℕ → List ℕ → List ℕ
every_fourth n [] = []
every_fourth zero (b ∷ bs) = b ∷ every_fourth 3 bs
every_fourth (suc n) (b ∷ bs) = every_fourth n bs

-- the four groups of some bytes: byte i belongs to group i modulo 4, in order
abbrev pub groups_of : List ℕ → List (List ℕ)
groups_of bytes =
    every_fourth 0 bytes ∷ every_fourth 1 bytes ∷ every_fourth 2 bytes ∷ every_fourth 3 bytes ∷ []

-- the groups concatenated, group 0 first
abbrev pub grouped : List ℕ → List ℕ
grouped bytes =
    every_fourth 0 bytes ++ every_fourth 1 bytes ++ every_fourth 2 bytes ++ every_fourth 3 bytes

-- these are the groups of some bytes
abbrev pub AreGroups : List (List ℕ) → Type 0
AreGroups groups = (bytes : List ℕ) × (groups ≡ groups_of bytes)
