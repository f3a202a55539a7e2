-- The registered shards in order of registration, their collections by key, and where their chunks are found.
use Rattle.std.specs.Prelude.{ℕ, ◌+◌, nat_eq, nat_lt, Bool, List, [], ◌∷◌, ◌++◌, filter, length, map, Option, option_and_then, option_map, if◌then◌else◌}
use Rattle.std.specs.Cmp.Lexicographic.{pointwise}
use Rattle.std.specs.List.{list_any, slice_get, sum_by}
use Rattle.xet_hash.specs.Hash.{zero_hash}
use Rattle.xet_shard.specs.Union.{ShardRecords}
use Rattle.xet_shard_directory.specs.declared.shard_file.MDBShardFile.{MDBShardFile}
use Rattle.xet_shard_index.specs.Different.{different}
use Rattle.xet_shard_index.specs.Places.{IndexedShard, all_words, indexed_shard, place_of, word_place}
use Rattle.xet_shard_index.specs.declared.word_place.WordPlace.{WordPlace}

-- a registered shard: the value of its file, the chunk lookup table with which it was registered, its xorbs and files then,
-- and whether its chunks entered the index
pub record Registered : Type 0 where
  pub file : MDBShardFile
  pub items : List (ℕ × ℕ × ℕ)
  pub records : ShardRecords
  pub entered : Bool

abbrev pub key_of : Registered → List ℕ
key_of s = s.file.shard.metadata.chunk_hash_hmac_key

-- the uncompressed bytes of its files and of its chunks, as its footer states them
abbrev pub materialized_of : Registered → ℕ
materialized_of s = s.file.shard.metadata.materialized_bytes

abbrev pub stored_of : Registered → ℕ
stored_of s = s.file.shard.metadata.stored_bytes

abbrev pub has_key : List ℕ → Registered → Bool
has_key key s = pointwise nat_eq key (key_of s)

-- the registered shards of a key, in order of registration
abbrev pub collection : List ℕ → List Registered → List Registered
collection key shards = filter (has_key key) shards

-- the numbers of these shards among all, the first of which has the number n
unfoldable pub numbers_from : ℕ → List ℕ → List Registered → List ℕ
numbers_from n key [] = []
numbers_from n key (s ∷ ss) = if has_key key s then n ∷ numbers_from (n + 1) key ss else numbers_from (n + 1) key ss

abbrev pub numbers : List ℕ → List Registered → List ℕ
numbers key shards = numbers_from 0 key shards

-- the keys of the collections: first that of the shards without a key, and then those of the registered shards, in order
-- of first occurrence
abbrev pub keys_of : List Registered → List (List ℕ)
keys_of shards = different (pointwise nat_eq) (zero_hash ∷ map key_of shards)

-- whether a key is zero, or that of a registered shard
abbrev pub is_key_of : List ℕ → List Registered → Bool
is_key_of key shards = list_any (pointwise nat_eq key) (zero_hash ∷ map key_of shards)

-- whether a shard with this hash is registered
abbrev pub is_registered : List ℕ → List Registered → Bool
is_registered hash shards = list_any (pointwise nat_eq hash) (map (λ s. s.file.shard_hash) shards)

-- ---- the index

-- of the shards of a collection those that entered the index, each with its number in the collection
unfoldable pub entered_from : ℕ → List Registered → List IndexedShard
entered_from n [] = []
entered_from n (s ∷ ss) = if s.entered then indexed_shard n s.items ∷ entered_from (n + 1) ss else entered_from (n + 1) ss

abbrev pub indexed : List ℕ → List Registered → List IndexedShard
indexed key shards = entered_from 0 (collection key shards)

-- the number of different words in the index, counted for each key and summed
abbrev pub word_count : List Registered → ℕ
word_count shards = sum_by (λ key. length (different nat_eq (all_words (indexed key shards)))) (keys_of shards)

-- One more shard is registered. It enters the index if fewer words than the cap were counted before it.
abbrev pub with_shard : ℕ → List Registered → MDBShardFile → List (ℕ × ℕ × ℕ) → ShardRecords → List Registered
with_shard cap shards file items records = shards ++ (record { file = file; items = items; records = records; entered = nat_lt (word_count shards) cap }) ∷ []

-- The place of a word: where the last chunk with it is in the last shard of the key that entered and has one. The shard
-- has its number among all.
abbrev pub place_among : List ℕ → ℕ → List Registered → Option WordPlace
place_among key word shards =
    option_and_then (λ p. option_map (λ shard. word_place shard (p.row, p.chunk)) (slice_get (numbers key shards) p.shard)) (place_of word (indexed key shards))
