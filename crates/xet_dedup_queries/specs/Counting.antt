-- What the calls of the deduplication of a file leave behind: history entries, and registered chunks.
use Rattle.std.specs.Prelude.{◌≡◌, ◌≢◌, ◌<◌, ◌+◌, ◌++◌, [], ◌∷◌, ℕ, List, length}
use Rattle.xet_choices.specs.Calls.{Call}
use Rattle.xet_choices.specs.Calls.Call.{Asked, Registered}

-- At most so many history entries are of these calls: one of each query, and two of each registration, before whose own entry
-- there may be that of a flush.
abbrev pub entries_at_most : List Call → ℕ
entries_at_most [] = 0
entries_at_most (Asked entry hashes reply ∷ calls) = 1 + entries_at_most calls
entries_at_most (Registered leaves next ∷ calls) = 2 + entries_at_most calls

-- A xorb was registered with chunks that did not fit into it. One of the chunks that are left in the end has none. Of a query
-- this says nothing.
abbrev pub HasNext : Call → Type 0
HasNext (Asked entry hashes reply) = Unit {0}
HasNext (Registered leaves next) = next ≢ []

-- A xorb that was registered has chunks. Of a query this says nothing.
abbrev pub HasChunks : Call → Type 0
HasChunks (Asked entry hashes reply) = Unit {0}
HasChunks (Registered leaves next) = 0 < length leaves

-- the chunks of the registered xorbs, in order
abbrev pub registered_leaves : List Call → List (List ℕ × ℕ)
registered_leaves [] = []
registered_leaves (Asked entry hashes reply ∷ calls) = registered_leaves calls
registered_leaves (Registered leaves next ∷ calls) = leaves ++ registered_leaves calls

-- the chunks of the first xorb that was registered, or these if there is none
abbrev pub first_registered : List Call → List (List ℕ × ℕ) → List (List ℕ × ℕ)
first_registered [] last = last
first_registered (Asked entry hashes reply ∷ calls) last = first_registered calls last
first_registered (Registered leaves next ∷ calls) last = leaves

-- the first list begins with the second
abbrev pub BeginsWith : List (List ℕ × ℕ) → List (List ℕ × ℕ) → Type 0
BeginsWith xs prefix = (rest : List (List ℕ × ℕ)) × (xs ≡ prefix ++ rest)

-- The chunks that did not fit into a xorb begin the one that was registered after it; those that did not fit into the last one
-- begin `last`.
abbrev pub LandsIn : List (List ℕ × ℕ) → List Call → Type 0
LandsIn last [] = Unit {0}
LandsIn last (Asked entry hashes reply ∷ calls) = LandsIn last calls
LandsIn last (Registered leaves next ∷ calls) = BeginsWith (first_registered calls last) next × LandsIn last calls
