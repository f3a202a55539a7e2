-- A reader of a file whose length is known.
use Rattle.std.specs.Prelude.{ℕ, nat_eq, Bool, ◌&&◌, List, length}

-- The bytes are observable if the disk is, and if they are as many as is known.
abbrev pub is_observable : Bool → ℕ → List ℕ → Bool
is_observable tells size bytes = tells && nat_eq size (length bytes)
