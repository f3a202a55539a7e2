-- The place of a chunk in the shards of an index, by the first word of its hash.
use Rattle.std.specs.Prelude.{◌≡◌, ℕ, nat_eq, nat_le, List, [], ◌∷◌, ◌++◌, filter, length, map, Option, Some, None, option_map}
use Rattle.std.specs.Map.{lookup}
use Rattle.xet_shard.specs.Queries.{last_of}
use Rattle.xet_shard_index.specs.Different.{different}
use Rattle.xet_shard_index.specs.declared.word_place.WordPlace.{WordPlace}

-- a shard of an index: its number, and its chunk lookup table: for each chunk the first word of its hash, the row of its
-- xorb, and its index in the xorb
pub record IndexedShard : Type 0 where
  pub number : ℕ
  pub items : List (ℕ × ℕ × ℕ)

abbrev pub indexed_shard : ℕ → List (ℕ × ℕ × ℕ) → IndexedShard
indexed_shard number items = record { number = number; items = items }

-- the items that are indexed: those of chunks with an index of at most 65,535
abbrev pub within_reach : List (ℕ × ℕ × ℕ) → List (ℕ × ℕ × ℕ)
within_reach items = filter (λ i. nat_le i.2 65535) items

abbrev pub word_place : ℕ → ℕ × ℕ → WordPlace
word_place shard at = record { shard = shard; row = at.0; chunk = at.1 }

-- the place of the last chunk of a shard with a word
abbrev pub place_in : ℕ → IndexedShard → Option WordPlace
place_in word s = option_map (word_place s.number) (last_of word (within_reach s.items))

-- The place of a word: its place in the last shard that has it.
unfoldable pub place_of : ℕ → List IndexedShard → Option WordPlace
place_of word [] = None
place_of word (s ∷ ss) = elim (place_of word ss) [ Some place ↦ Some place | None ↦ place_in word s ]

-- the words of the indexed chunks, in order
unfoldable pub all_words : List IndexedShard → List ℕ
all_words [] = []
all_words (s ∷ ss) = map (λ i. i.0) (within_reach s.items) ++ all_words ss

-- The entries are the places of all words of the shards, and no more of them than there are different words: so each
-- word has one entry.
pub record IsIndexOf (entries : List (ℕ × WordPlace)) (shards : List IndexedShard) : Type 0 where
  pub places : (word : ℕ) → lookup {X = WordPlace} (nat_eq word) entries ≡ place_of word shards
  pub words : length entries ≡ length (different nat_eq (all_words shards))
