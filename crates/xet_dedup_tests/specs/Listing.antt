-- The xorbs that a store in memory knows.
use Rattle.std.specs.Prelude.{ℕ, nat_eq, List, [], ◌∷◌, map, Option, Some, None, if◌then◌else◌}
use Rattle.std.specs.Cmp.Lexicographic.{pointwise}
use Rattle.xet_dedup_tests.specs.declared.known.KnownXorb.{KnownXorb}

-- the lengths of the chunks of a xorb
abbrev pub lengths_of : KnownXorb → List ℕ
lengths_of x = map (λ m. m.1) x.leaves

-- the lengths of the chunks of the first xorb that has a hash
abbrev pub listing : List KnownXorb → List ℕ → Option (List ℕ)
listing [] h = None
listing (x ∷ xs) h = if pointwise nat_eq x.hash h then Some (lengths_of x) else listing xs h
