-- The own entries of the holders that share a history, by their numbers. The number of an entry is its index in the history.
use Rattle.std.specs.Prelude.{◌≡◌, ◌≢◌, ◌≤◌, ◌+◌, ◌==◌, ◌&&◌, nat_le, nat_lt, if◌then◌else◌, ℕ, zero, suc, List, [], ◌∷◌, ◌++◌, length, Some, slice_get}
use Rattle.std.specs.List.{AllByRecursion}
use mathlib.Core.List.{IsPrefix}
use Rattle.xet_history.specs.History.{pass_of}
use Rattle.xet_history.specs.declared.entry.Entry.{Entry}

-- as many consecutive numbers, from one on
abbrev pub numbers_from : ℕ → ℕ → List ℕ
numbers_from n zero = []
numbers_from n (suc k) = n ∷ numbers_from (n + 1) k

-- an entry of a pass has this number
pub record IsEntryOf (pass : ℕ) (history : List Entry) (n : ℕ) : Type 0 where
  pub entry : Entry
  pub there : slice_get history n ≡ Some entry
  pub made : pass_of entry ≡ pass

-- The numbers are those of entries of a pass, and rise from one on, which is at most the length of the history.
abbrev pub AreOwn : ℕ → List Entry → ℕ → List ℕ → Type 0
AreOwn pass history from [] = from ≤ length history
AreOwn pass history from (n ∷ ns) = (from ≤ n) × IsEntryOf pass history n × AreOwn pass history (n + 1) ns

-- how often a number is in a list
abbrev pub count_of : ℕ → List ℕ → ℕ
count_of n [] = 0
count_of n (m ∷ ms) = (if m == n then 1 else 0) + count_of n ms

-- 1 for the numbers from one on and below another, 0 for the others
abbrev pub one_within : ℕ → ℕ → ℕ → ℕ
one_within from to n = if nat_le from n && nat_lt n to then 1 else 0

-- The list has each number from one on and below another once, and no others.
abbrev pub HasEachOnce : ℕ → ℕ → List ℕ → Type 0
HasEachOnce from to ns = (n : ℕ) → count_of n ns ≡ one_within from to n

-- What a holder has: the number of its pass, what it has seen of the history, and the numbers of its own entries.
pub record Owned : Type 0 where
  pub pass : ℕ
  pub seen : List Entry
  pub own : List ℕ

-- the numbers of the entries of all holders
abbrev pub all_own : List Owned → List ℕ
all_own [] = []
all_own (h ∷ hs) = h.own ++ all_own hs

-- No two have the same pass.
abbrev pub PassesDiffer : List Owned → Type 0
PassesDiffer [] = Unit {0}
PassesDiffer (h ∷ hs) = AllByRecursion (λ k. k.pass ≢ h.pass) hs × PassesDiffer hs

-- What a holder has seen is a prefix of the history, and the numbers of its own entries are from a number on.
abbrev pub IsHeld : List Entry → ℕ → Owned → Type 0
IsHeld history from h = IsPrefix h.seen history × AreOwn h.pass h.seen from h.own
