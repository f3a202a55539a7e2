-- Calls, those of a list before those of another: their history entries, and what they register.
use Rattle.std.proofs.Common.{◌≡◌, ◌∙◌, ℕ, ◌+◌, ◌*◌, ◌≤◌, List, [], ◌∷◌, ◌++◌, append_assoc, length, length-append, refl, sym, ap, arith}
use Rattle.std.proofs.lemmas.List.{append-nil}
use Rattle.std.specs.List.{AllByRecursion}
use Rattle.xet_choices.specs.Calls.{Call, queries_of, registered_chunks}
use Rattle.xet_choices.specs.Calls.Call.{Asked, Registered}
use Rattle.xet_dedup_queries.specs.Asking.{AreQueries}
use Rattle.xet_dedup_queries.specs.Counting.{BeginsWith, HasChunks, HasNext, LandsIn, entries_at_most, first_registered, registered_leaves}

-- ---- counts

pub entries_at_most-append : (xs ys : List Call) → entries_at_most (xs ++ ys) ≡ entries_at_most xs + entries_at_most ys
entries_at_most-append [] ys = omega arith
entries_at_most-append (Asked entry hashes reply ∷ xs) ys = omega (arith, entries_at_most-append xs ys)
entries_at_most-append (Registered leaves next ∷ xs) ys = omega (arith, entries_at_most-append xs ys)

pub registered_leaves-append : (xs ys : List Call) → registered_leaves (xs ++ ys) ≡ registered_leaves xs ++ registered_leaves ys
registered_leaves-append [] ys = refl
registered_leaves-append (Asked entry hashes reply ∷ xs) ys = registered_leaves-append xs ys
registered_leaves-append (Registered leaves next ∷ xs) ys =
    ap (λ (l : List (List ℕ × ℕ)). leaves ++ l) (registered_leaves-append xs ys) ∙ sym (append_assoc leaves (registered_leaves xs) (registered_leaves ys))

-- there are as many as `registered_chunks` counts
pub length-registered_leaves : (calls : List Call) → length (registered_leaves calls) ≡ registered_chunks calls
length-registered_leaves [] = refl
length-registered_leaves (Asked entry hashes reply ∷ calls) = length-registered_leaves calls
length-registered_leaves (Registered leaves next ∷ calls) = omega (arith, length-append leaves (registered_leaves calls), length-registered_leaves calls)

-- If each registered xorb has chunks, the entries of the registrations are at most two for each of these.
pub entries_at_most-chunks : (calls : List Call) → AllByRecursion HasChunks calls → entries_at_most calls ≤ queries_of calls + 2 * length (registered_leaves calls)
entries_at_most-chunks [] have = omega arith
entries_at_most-chunks (Asked entry hashes reply ∷ calls) have = omega (arith, entries_at_most-chunks calls have.1)
entries_at_most-chunks (Registered leaves next ∷ calls) have = omega (arith, entries_at_most-chunks calls have.1, have.0, length-append leaves (registered_leaves calls))

-- ---- queries

-- queries have one entry each,
pub entries_at_most-queries : (calls : List Call) → AreQueries calls → entries_at_most calls ≡ queries_of calls
entries_at_most-queries [] are = refl
entries_at_most-queries (Asked entry hashes reply ∷ calls) are = omega (arith, entries_at_most-queries calls are)
entries_at_most-queries (Registered leaves next ∷ calls) are = absurd are

-- and register nothing
pub registered_leaves-queries : (calls more : List Call) → AreQueries calls → registered_leaves (calls ++ more) ≡ registered_leaves more
registered_leaves-queries [] more are = refl
registered_leaves-queries (Asked entry hashes reply ∷ calls) more are = registered_leaves-queries calls more are
registered_leaves-queries (Registered leaves next ∷ calls) more are = absurd are

pub first_registered-queries : (calls more : List Call) (last : List (List ℕ × ℕ)) → AreQueries calls → first_registered (calls ++ more) last ≡ first_registered more last
first_registered-queries [] more last are = refl
first_registered-queries (Asked entry hashes reply ∷ calls) more last are = first_registered-queries calls more last are
first_registered-queries (Registered leaves next ∷ calls) more last are = absurd are

pub has_next-queries : (calls more : List Call) → AreQueries calls → AllByRecursion HasNext more → AllByRecursion HasNext (calls ++ more)
has_next-queries [] more are have = have
has_next-queries (Asked entry hashes reply ∷ calls) more are have = (tt, has_next-queries calls more are have)
has_next-queries (Registered leaves next ∷ calls) more are have = absurd are

pub lands_in-queries : (calls more : List Call) (last : List (List ℕ × ℕ)) → AreQueries calls → LandsIn last more → LandsIn last (calls ++ more)
lands_in-queries [] more last are lands = lands
lands_in-queries (Asked entry hashes reply ∷ calls) more last are lands = lands_in-queries calls more last are lands
lands_in-queries (Registered leaves next ∷ calls) more last are lands = absurd are

-- ---- what did not fit

-- a list begins with itself
pub begins_itself : (xs : List (List ℕ × ℕ)) → BeginsWith xs xs
begins_itself xs = ([], sym (append-nil xs))

pub begins_more : (xs ys zs : List (List ℕ × ℕ)) → BeginsWith xs ys → BeginsWith ys zs → BeginsWith xs zs
begins_more xs ys zs first second =
    (second.0 ++ first.0, first.1 ∙ ap (λ (l : List (List ℕ × ℕ)). l ++ first.0) second.1 ∙ append_assoc zs second.0 first.0)

-- What begins the first xorb, or `mid`, begins it also after more calls, of which the first xorb begins with `mid`.
pub first_registered-begins : (xs ys : List Call) (mid last prefix : List (List ℕ × ℕ)) → BeginsWith (first_registered xs mid) prefix → BeginsWith (first_registered ys last) mid
    → BeginsWith (first_registered (xs ++ ys) last) prefix
first_registered-begins [] ys mid last prefix begins goes_on = begins_more (first_registered ys last) mid prefix goes_on begins
first_registered-begins (Asked entry hashes reply ∷ xs) ys mid last prefix begins goes_on = first_registered-begins xs ys mid last prefix begins goes_on
first_registered-begins (Registered leaves next ∷ xs) ys mid last prefix begins goes_on = begins

-- Chunks that did not fit begin the next xorb also after more calls, of which the first xorb begins with `mid`.
pub lands_in-append : (xs ys : List Call) (mid last : List (List ℕ × ℕ)) → LandsIn mid xs → LandsIn last ys → BeginsWith (first_registered ys last) mid → LandsIn last (xs ++ ys)
lands_in-append [] ys mid last first second goes_on = second
lands_in-append (Asked entry hashes reply ∷ xs) ys mid last first second goes_on = lands_in-append xs ys mid last first second goes_on
lands_in-append (Registered leaves next ∷ xs) ys mid last first second goes_on =
    (first_registered-begins xs ys mid last next first.0 goes_on, lands_in-append xs ys mid last first.1 second goes_on)
