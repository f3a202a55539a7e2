-- Parsing bytes, with the error of the first check that fails.
use Rattle.std.specs.Prelude.{ℕ, zero, suc, nat_le, Bool, true, false, List, [], ◌∷◌, length, take, drop, Result, Ok, Err, if◌then◌else◌, ◌≡◌}
use Rattle.std.specs.Int.{w32, from_le_bytes}
use Rattle.xet_hash.specs.declared.error.Reason.{Reason}
use Rattle.xet_hash.specs.declared.error.StoreError.{StoreError}
use Rattle.xet_hash.specs.declared.error.StoreError.TheVariants.{MalformedData, UnexpectedEof, Io, OutOfMemory}
use Rattle.xet_hash.specs.declared.error.Place.TheVariants.{Input}

infixl 10 ◌>>=◌
abbrev pub ◌>>=◌ : {A B : Type 0} → Result A StoreError → (A → Result B StoreError) → Result B StoreError
(Ok x) >>= f = f x
(Err e) >>= f = Err e

-- what is parsed at the start of some bytes, and the bytes after it
abbrev pub Parsed : Type 0 → Type 0
Parsed X = Result (X × List ℕ) StoreError

-- a check: if the test fails, the error has this reason
abbrev pub wants : Bool → Reason → Result (Unit {0}) StoreError
wants true reason = Ok tt
wants false reason = Err (MalformedData reason)

unfoldable pub next_bytes : ℕ → List ℕ → Parsed (List ℕ)
next_bytes n bytes = if nat_le n (length bytes) then Ok (take n bytes, drop n bytes) else Err UnexpectedEof

unfoldable pub number_at : List ℕ → Parsed ℕ
number_at bytes = next_bytes 4 bytes >>= λ x. Ok (from_le_bytes w32 x.0, x.1)

-- n items, one after the other
unfoldable pub times : {X : Type 0} → (List ℕ → Parsed X) → ℕ → List ℕ → Parsed (List X)
times read zero bytes = Ok ([], bytes)
times read (suc n) bytes = do
  x ← read bytes
  xs ← times read n x.1
  Ok (x.0 ∷ xs.0, xs.1)

-- a check that there are enough bytes
abbrev pub reaches : Bool → Result (Unit {0}) StoreError
reaches true = Ok tt
reaches false = Err UnexpectedEof

-- The error of a function is that of parsing, or out of memory.
abbrev pub Fails : {Y : Type 0} → StoreError → Result Y StoreError → Type 0
Fails OutOfMemory read = Unit {0}
Fails e read = read ≡ Err e

-- The result of a function, seen by `view`, is that of parsing, unless it ran out of memory.
abbrev pub Gives : {X Y : Type 0} → (X → Y) → Result X StoreError → Result Y StoreError → Type 0
Gives view (Ok x) read = read ≡ Ok (view x)
Gives view (Err e) read = Fails e read

-- The same for a function that reads from a reader, which may fail.
abbrev pub GivesUnlessFault : {X Y : Type 0} → (X → Y) → Result X StoreError → Result Y StoreError → Type 0
GivesUnlessFault view (Err (Io place)) read = place ≡ Input
GivesUnlessFault view r read = Gives view r read

-- A call that does not allocate returned the result of parsing, unless the reader failed.
abbrev pub IsUnlessFault : {X : Type 0} → Result X StoreError → Result X StoreError → Type 0
IsUnlessFault (Err (Io place)) read = place ≡ Input
IsUnlessFault r read = r ≡ read

-- the errors of such a call
abbrev pub IsInputError : StoreError → Type 0
IsInputError UnexpectedEof = Unit {0}
IsInputError (MalformedData reason) = Unit {0}
IsInputError (Io place) = place ≡ Input
IsInputError e = ⊥
