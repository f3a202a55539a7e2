-- The run of a query in a core: in what is pending, or in a registered shard.
use Rattle.std.specs.Prelude.{ℕ, nat_eq, nat_lt, List, [], ◌∷◌, ◌++◌, filter, length, map, Option, Some, None, option_and_then, option_map, if◌then◌else◌}
use Rattle.std.specs.Cmp.Lexicographic.{pointwise}
use Rattle.std.specs.List.{flat_map, sum_by}
use Rattle.xet_hash.specs.Hash.{zero_hash}
use Rattle.xet_shard.specs.Queries.{kept_hash, last_of, shard_run_at}
use Rattle.xet_shard.specs.Runs.{held_run}
use Rattle.xet_shard_format.specs.Lookups.{chunk_items}
use Rattle.xet_shard_format.specs.Records.{first_word}
use Rattle.xet_shard_format.specs.declared.record.FileDataSequenceEntry.{FileDataSequenceEntry as Segment}
use Rattle.xet_shard_index.specs.Different.{different}
use Rattle.xet_shard_index.specs.Places.{within_reach}
use Rattle.xet_history.specs.Core.{Core, RegisteredShard}

-- ---- which shards are indexed

abbrev pub key_of : RegisteredShard → List ℕ
key_of s = s.contents.key

-- the shards of a key, in order
abbrev pub of_key : List ℕ → List RegisteredShard → List RegisteredShard
of_key key shards = filter (λ s. pointwise nat_eq key (key_of s)) shards

-- the keys: first that of the shards without a key, zero, and then the others in order of first occurrence
abbrev pub keys_of : List RegisteredShard → List (List ℕ)
keys_of shards = different (pointwise nat_eq) (zero_hash ∷ map key_of shards)

-- the chunk lookup table of a shard, without the chunks whose index in their xorb is above 65,535: for each chunk the first
-- word of its hash, the row of its xorb, and its index there
abbrev pub items_of : RegisteredShard → List (ℕ × ℕ × ℕ)
items_of s = within_reach (chunk_items s.contents.blocks)

abbrev pub words_of : List RegisteredShard → List ℕ
words_of shards = flat_map (λ s. map (λ i. i.0) (items_of s)) shards

-- the number of different words, counted for each key and summed
abbrev pub word_count : List RegisteredShard → ℕ
word_count shards = sum_by (λ key. length (different nat_eq (words_of (of_key key shards)))) (keys_of shards)

-- Of these shards, those that are indexed beside those that are so already: each before which fewer words than the cap
-- were indexed.
unfoldable pub indexed_after : ℕ → List RegisteredShard → List RegisteredShard → List RegisteredShard
indexed_after cap before [] = before
indexed_after cap before (s ∷ ss) = indexed_after cap (if nat_lt (word_count before) cap then before ++ s ∷ [] else before) ss

abbrev pub indexed : Core → List RegisteredShard
indexed c = indexed_after c.index_cap [] c.shards

-- ---- the run

-- the place of a word: the last chunk with it in the last of the shards that has one
unfoldable pub place_of : ℕ → List RegisteredShard → Option (RegisteredShard × ℕ × ℕ)
place_of word [] = None
place_of word (s ∷ ss) = elim (place_of word ss) [ Some place ↦ Some place | None ↦ option_map (λ at. (s, at.0, at.1)) (last_of word (items_of s)) ]

-- the run of a query at the place of the first word of its first hash, in the indexed shards of a key
abbrev pub keyed_run : Core → List ℕ → List (List ℕ) → List ℕ → Option (ℕ × Segment)
keyed_run c first query key =
    option_and_then (λ at. shard_run_at at.0.contents query at.1 at.2) (place_of (first_word (kept_hash key first)) (of_key key (indexed c)))

-- the first that is there
unfoldable pub first_some : {X : Type 0} → List (Option X) → Option X
first_some [] = None
first_some (None ∷ os) = first_some os
first_some (Some x ∷ os) = Some x

-- The run of a query, with the number of its chunks. What is pending is asked first, and then the shards of each key.
-- None for a query without hashes.
unfoldable pub found_run : Core → List (List ℕ) → Option (ℕ × Segment)
found_run c [] = None
found_run c (h ∷ hs) = first_some (held_run c.pending.blocks (h ∷ hs) ∷ map (keyed_run c h (h ∷ hs)) (keys_of c.shards))
