-- How long the files of a command may be.
use Rattle.std.specs.Prelude.{ℕ, nat_le, Bool, List, length}
use Rattle.std.specs.List.{list_all}
use Rattle.xet_cut.specs.declared.limits.LimitSettings.{LimitSettings}

-- whether no file is longer than the limits allow a source to be
abbrev pub are_short : LimitSettings → List (List ℕ) → Bool
are_short s files = list_all (λ bytes. nat_le (length bytes) s.max_source_bytes) files
