-- Sorted runs of words with their places, and what several runs hold together.
use Rattle.std.specs.Prelude.{ℕ, ◌<◌, ◌≤◌, ◌==◌, nat_eq, nat_lt, List, [], ◌∷◌, filter, fold, if◌then◌else◌, is_none, length, slice_index_or}
use Rattle.std.specs.Map.{lookup}
use Rattle.xet_shard_index.specs.declared.word_place.WordPlace.{WordPlace}

-- a word and its place
abbrev pub Item : Type 0
Item = ℕ × WordPlace

-- all words of a run are above a word
unfoldable pub AllAbove : ℕ → List Item → Type 0
AllAbove word [] = Unit {0}
AllAbove word (i ∷ is) = (word < i.0) × AllAbove word is

-- the words of a run rise strictly
unfoldable pub Rising : List Item → Type 0
Rising [] = Unit {0}
Rising (i ∷ is) = AllAbove i.0 is × Rising is

-- a run with one item put in at its word, in place of one that has it
unfoldable pub put : Item → List Item → List Item
put i [] = i ∷ []
put i (j ∷ js) = if nat_lt i.0 j.0 then i ∷ j ∷ js else (if i.0 == j.0 then i ∷ js else j ∷ put i js)

-- The words of two runs: a newer one put over an older one. Where both have a word, the newer place is taken.
unfoldable pub over : List Item → List Item → List Item
over [] older = older
over (i ∷ newer) older = put i (over newer older)

-- the words of all runs, each put over the earlier ones
abbrev pub merged : List (List Item) → List Item
merged runs = fold (λ older newer. over newer older) [] runs

-- the items of a run whose word is not in another run
abbrev pub without : List Item → List Item → List Item
without run other = filter (λ i. is_none (lookup {X = WordPlace} (nat_eq i.0) other)) run

-- In a run, the words before index `low` are below a word, and those from index `high` on are above it.
pub record IsBetween (run : List Item) (word low high : ℕ) : Type 0 where
  pub ordered : low ≤ high
  pub within : high ≤ length run
  pub below : (i : ℕ) (d : Item) → i < low → (slice_index_or run i d).0 < word
  pub above : (i : ℕ) (d : Item) → high ≤ i → i < length run → word < (slice_index_or run i d).0
