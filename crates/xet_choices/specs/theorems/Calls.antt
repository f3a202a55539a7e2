-- Calls, those of a list before those of another.
use Rattle.std.proofs.Common.{◌≡◌, ℕ, ◌+◌, List, [], ◌∷◌, ◌++◌, length, Option, refl, ap, arith}
use Rattle.std.proofs.lemmas.List.Elements.{Contains-append_left, Contains-push}
use Rattle.xet_choices.specs.Calls.{Call, IsAskedIn, entries_of, queries_of, registered_chunks}
use Rattle.xet_choices.specs.Calls.Call.{Asked, Registered}

pub entries_of-append : (xs ys : List Call) → entries_of (xs ++ ys) ≡ entries_of xs ++ entries_of ys
entries_of-append [] ys = refl
entries_of-append (Asked entry hashes reply ∷ xs) ys = ap (λ (l : List ℕ). entry ∷ l) (entries_of-append xs ys)
entries_of-append (Registered leaves next ∷ xs) ys = entries_of-append xs ys

pub queries_of-append : (xs ys : List Call) → queries_of (xs ++ ys) ≡ queries_of xs + queries_of ys
queries_of-append [] ys = omega arith
queries_of-append (Asked entry hashes reply ∷ xs) ys = omega (arith, queries_of-append xs ys)
queries_of-append (Registered leaves next ∷ xs) ys = queries_of-append xs ys

pub registered_chunks-append : (xs ys : List Call) → registered_chunks (xs ++ ys) ≡ registered_chunks xs + registered_chunks ys
registered_chunks-append [] ys = omega arith
registered_chunks-append (Asked entry hashes reply ∷ xs) ys = registered_chunks-append xs ys
registered_chunks-append (Registered leaves next ∷ xs) ys = omega (arith, registered_chunks-append xs ys)

-- there are as many entries as queries
pub length-entries_of : (xs : List Call) → length (entries_of xs) ≡ queries_of xs
length-entries_of [] = refl
length-entries_of (Asked entry hashes reply ∷ xs) = omega (arith, length-entries_of xs)
length-entries_of (Registered leaves next ∷ xs) = length-entries_of xs

-- a query is still there after further calls
pub asked_before : (xs ys : List Call) (entry : ℕ) (first : List ℕ) (reply : Option ℕ) → IsAskedIn xs entry first reply → IsAskedIn (xs ++ ys) entry first reply
asked_before xs ys entry first reply is = (is.0, Contains-append_left xs ys (Asked entry (first ∷ is.0) reply) is.1)

-- and the last one is there
pub asked_last : (xs : List Call) (entry : ℕ) (first : List ℕ) (others : List (List ℕ)) (reply : Option ℕ) → IsAskedIn (xs ++ Asked entry (first ∷ others) reply ∷ []) entry first reply
asked_last xs entry first others reply = (others, Contains-push xs (Asked entry (first ∷ others) reply))
