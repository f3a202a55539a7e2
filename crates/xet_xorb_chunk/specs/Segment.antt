-- Chunk offsets of a read in several parts.
use Rattle.std.specs.Prelude.{ℕ, ◌+◌, ◌<◌, ◌^◌, List, [], ◌∷◌, map, drop}
use Rattle.std.specs.List.{All}

-- The offsets that a part adds to those of the parts before it, which have `before` bytes: all of its own if
-- there are no offsets yet, otherwise all but the first, each plus `before`.
abbrev pub joined_places : List ℕ → ℕ → List ℕ → List ℕ
joined_places [] before places = places
joined_places (at ∷ ats) before places = map (λ place. before + place) (drop 1 places)

-- These sums are below 2 ^ 32.
abbrev pub SumsFit : List ℕ → ℕ → List ℕ → Type 0
SumsFit [] before places = Unit {0}
SumsFit (at ∷ ats) before places = All (λ place. before + place < 2 ^ 32) (drop 1 places)
