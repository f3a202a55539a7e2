-- Properties of each record of a table.
use Rattle.std.proofs.Common.{ℕ, Bool, not, List, filter, nat_eq}
use Rattle.std.specs.Cmp.Lexicographic.{pointwise}
use Rattle.std.specs.List.{AllByRecursion}
use Rattle.xet_shard.specs.Held.{with_last}
use Rattle.xet_base.specs.theorems.Elements.{all_filtered, all_push}

-- whether a record has another hash
abbrev pub is_other : {X : Type 0} → (X → List ℕ) → List ℕ → X → Bool
is_other hash h y = not (pointwise nat_eq (hash y) h)

pub all_last : {X : Type 0} (P : X → Type 0) (hash : X → List ℕ) (xs : List X) (x : X) → AllByRecursion P xs → P x → AllByRecursion P (with_last hash xs x)
all_last P hash xs x all here = all_push P (filter (is_other hash (hash x)) xs) x (all_filtered P (is_other hash (hash x)) xs all) here
