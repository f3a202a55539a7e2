-- The tables of a registry, and the registered shards that they are of.
use Rattle.std.specs.Prelude.{◌≡◌, ◌++◌, ◌∷◌, ◌-◌, ◌^◌, [], ℕ, Bool, true, false, List, length, map, min, nat_eq}
use Rattle.std.specs.Cmp.Lexicographic.{pointwise}
use Rattle.std.specs.List.{AllByRecursion, list_any, sum_by}
use Rattle.xet_shard_registry.specs.Registered.{Registered, indexed, keys_of, materialized_of, numbers, stored_of}
use Rattle.xet_shard_registry.specs.declared.collection.Collection.{Collection}
use Rattle.xet_shard_directory.specs.declared.shard_file.MDBShardFile.{MDBShardFile}
use Rattle.xet_shard_index.specs.Places.{IndexedShard, IsIndexOf, indexed_shard}

-- the numbers of the shards of its key, and the index of those of them that entered
pub record IsCollectionOf (shards : List Registered) (c : Collection) : Type 0 where
  pub members : c.members.items ≡ numbers c.key shards
  pub index : IsIndexOf c.index (indexed c.key shards)

-- it has no shards yet
pub record IsNewCollection (c : Collection) : Type 0 where
  pub members : c.members.items ≡ []
  pub index : IsIndexOf c.index []

-- there is one for each key
pub record AreCollectionsOf (shards : List Registered) (collections : List Collection) : Type 0 where
  pub keys : map (λ c. c.key) collections ≡ keys_of shards
  pub each : AllByRecursion (IsCollectionOf shards) collections

-- no collection has the key
abbrev pub IsKeyless : List ℕ → List (List ℕ) → Type 0
IsKeyless key keys = list_any (pointwise nat_eq key) keys ≡ false

-- the number of words in all of them
abbrev pub words_in : List Collection → ℕ
words_in collections = sum_by (λ c. length c.index) collections

-- The collection has one more shard, with this number among all, which entered with these items or did not.
pub record HasAdded (old new : Collection) (number : ℕ) (enters : Bool) (items : List (ℕ × ℕ × ℕ)) : Type 0 where
  pub key : new.key ≡ old.key
  pub members : new.members.items ≡ old.members.items ++ number ∷ []
  pub entered : enters ≡ true → (shards : List IndexedShard) → IsIndexOf old.index shards
      → IsIndexOf new.index (shards ++ indexed_shard (length old.members.items) items ∷ [])
  pub listed : enters ≡ false → new.index ≡ old.index

-- The collection has the same shards.
pub record HasKept (old new : Collection) : Type 0 where
  pub key : new.key ≡ old.key
  pub members : new.members.items ≡ old.members.items
  pub index : new.index ≡ old.index

-- ---- all of them

-- they have one more shard, which has the next number
abbrev pub AddsTo : List Collection → List Collection → ℕ → Registered → Type 0
AddsTo old new number s =
    (shards : List Registered) → AreCollectionsOf shards old → number ≡ length shards → AreCollectionsOf (shards ++ s ∷ []) new

-- they are those of the same shards
abbrev pub StayCollections : List Collection → List Collection → Type 0
StayCollections old new = (shards : List Registered) → AreCollectionsOf shards old → AreCollectionsOf shards new

-- What a registry has: the values of the files, the collections, the number of words in these, the hashes, and the sums of
-- the totals in the footers. Numbers are at most 2^64 - 1.
pub record Tables : Type 0 where
  pub files : List MDBShardFile
  pub collections : List Collection
  pub words : ℕ
  pub hashes : List (List ℕ)
  pub materialized : ℕ
  pub stored : ℕ

-- The tables are those of these registered shards.
pub record IsRegistryOf (shards : List Registered) (t : Tables) : Type 0 where
  pub files : t.files ≡ map (λ s. s.file) shards
  pub collections : AreCollectionsOf shards t.collections
  pub words : t.words ≡ min (words_in t.collections) (2 ^ 64 - 1)
  pub hashes : t.hashes ≡ map (λ s. s.file.shard_hash) shards
  pub materialized : t.materialized ≡ min (sum_by materialized_of shards) (2 ^ 64 - 1)
  pub stored : t.stored ≡ min (sum_by stored_of shards) (2 ^ 64 - 1)
