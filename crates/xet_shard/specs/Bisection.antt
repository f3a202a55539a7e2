-- Bisection of a lookup table.
-- A query that bisects a table reads only a few items, so its contract does not depend on the others.
use Rattle.std.specs.Prelude.{◌≡◌, ◌≤◌, ℕ, zero, suc, ◌+◌, Bool, true, false, List, length, nat_le, nat_lt, IfSome, Option, None, Result, Ok}
use Rattle.std.specs.List.{slice_get}
use Rattle.xet_hash.specs.declared.error.StoreError.{StoreError}
use Rattle.xet_shard.specs.declared.query.bisection.Probe.{Probe}
use Rattle.xet_shard.specs.declared.query.bisection.Probe.TheVariants.{RowBelow, WordAtMost, WordBelow}
use Rattle.xet_codec.specs.Parsing.{◌>>=◌, GivesUnlessFault, reaches}
use Rattle.xet_codec.specs.Numbers.{half_word, word}

-- the item before an index, if there is one
abbrev pub item_before : {X : Type 0} → ℕ → List X → Option X
item_before zero items = None
item_before (suc index) items = slice_get items index

-- An index bisects a list by a test: the item before it, if there is one, passes, and the item at it, if
-- there is one, does not. If no item that passes comes after one that does not, there is exactly one such
-- index.
pub record Bisects {X : Type 0} (passes : X → Bool) (items : List X) (index : ℕ) : Type 0 where
  pub within : index ≤ length items
  pub before : IfSome (item_before index items) (λ i. passes i ≡ true)
  pub after : IfSome (slice_get items index) (λ i. passes i ≡ false)

-- The result of a call, seen by `view`, is the answer at an index that bisects a list, unless memory was out
-- or the reader failed.
abbrev pub AnswersAt : {X A B : Type 0} → (X → Bool) → List X → (A → B) → Result A StoreError → (ℕ → Result B StoreError) → Type 0
AnswersAt passes items view result answer = (index : ℕ) × Bisects passes items index × GivesUnlessFault view result (answer index)

-- ---- over bytes

-- `found`, if the table of `len` bytes at offset `at` does not pass the end of the bytes
abbrev pub in_table : {Y : Type 0} → ℕ → ℕ → List ℕ → Y → Result Y StoreError
in_table at len bytes found = reaches (nat_le (at + len) (length bytes)) >>= λ _. Ok found

-- the test of an item with these bytes: of the word at its start, or of the row after it
unfoldable pub passes : Probe → List ℕ → Bool
passes (WordBelow bound) item = nat_lt (word item 0) bound
passes (WordAtMost bound) item = nat_le (word item 0) bound
passes (RowBelow bound) item = nat_lt (half_word item 8) bound
