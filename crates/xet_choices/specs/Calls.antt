-- What the deduplication of a file asked and registered.
use Rattle.std.specs.Prelude.{ℕ, ◌+◌, List, [], ◌∷◌, length, Option}
use Rattle.std.specs.List.{Contains}

-- One call. Asked: a query, by the number of its history entry, with the length in chunks of the run that was found, if
-- any. It states the hashes of that run and the next hash of the query, if there is one; if nothing was found, the first
-- hash alone. Registered: the registration of a xorb, by its chunks and those that did not fit into it.
pub data Call : Type 0 where
  Asked : (entry : ℕ) (hashes : List (List ℕ)) (reply : Option ℕ) → Call
  Registered : (leaves next : List (List ℕ × ℕ)) → Call

-- the history entries of the queries, in order
abbrev pub entries_of : List Call → List ℕ
entries_of [] = []
entries_of (Asked entry hashes reply ∷ calls) = entry ∷ entries_of calls
entries_of (Registered leaves next ∷ calls) = entries_of calls

-- the number of queries
abbrev pub queries_of : List Call → ℕ
queries_of [] = 0
queries_of (Asked entry hashes reply ∷ calls) = queries_of calls + 1
queries_of (Registered leaves next ∷ calls) = queries_of calls

-- the number of chunks of the registered xorbs
abbrev pub registered_chunks : List Call → ℕ
registered_chunks [] = 0
registered_chunks (Asked entry hashes reply ∷ calls) = registered_chunks calls
registered_chunks (Registered leaves next ∷ calls) = length leaves + registered_chunks calls

-- A query with this history entry began with this chunk hash, and had this reply.
abbrev pub IsAskedIn : List Call → ℕ → List ℕ → Option ℕ → Type 0
IsAskedIn calls entry first reply = (others : List (List ℕ)) × Contains calls (Asked entry (first ∷ others) reply)
