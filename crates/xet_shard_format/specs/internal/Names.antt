-- File names of shards, for private functions.
use Rattle.std.specs.Prelude.{ℕ, Bool, List}
use Rattle.std.specs.Char.{is_ascii_uppercase}
use Rattle.std.specs.List.{list_any}

-- whether a text has letters from A to Z
abbrev pub has_capitals : List ℕ → Bool
has_capitals text = list_any is_ascii_uppercase text
