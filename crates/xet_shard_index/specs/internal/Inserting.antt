-- The insert of a shard into the runs of an index, for private functions.
use Rattle.std.specs.Prelude.{◌≡◌, ℕ, ◌+◌, ◌<◌, ◌^◌, List, None, count_by, is_none, nat_eq}
use Rattle.std.specs.Map.{lookup}
use Rattle.xet_shard_format.specs.Lookups.{flat_places}
use Rattle.xet_shard_index.specs.Places.{IndexedShard, indexed_shard, place_in}
use Rattle.xet_shard_index.specs.Runs.{Item, Rising, merged}
use Rattle.xet_shard_index.specs.internal.Lengths.{IsMerged}
use Rattle.xet_shard_index.specs.declared.insertion.Insertion.{Insertion}
use Rattle.xet_shard_index.specs.declared.insertion.ReadyShard.{ReadyShard}
use Rattle.xet_shard_index.specs.declared.word_place.WordPlace.{WordPlace}

-- The words of a shard with their places were merged with the newest of some runs, which have this number of different
-- words.
pub record IsInsertion (runs : List (List Item)) (words : ℕ) (s : IndexedShard) (i : Insertion) : Type 0 where
  pub found : List Item
  pub rising : Rising found
  pub places : (word : ℕ) → lookup {X = WordPlace} (nat_eq word) found ≡ place_in word s
  pub made : IsMerged runs found i.kept i.run
  pub added : i.added ≡ count_by (λ (j : Item). is_none (lookup {X = WordPlace} (nat_eq j.0) (merged runs))) found
  pub fits : words + i.added < 2 ^ 64

-- no chunk of a shard is within reach
abbrev pub IsAbsent : IndexedShard → Type 0
IsAbsent s = (word : ℕ) → place_in word s ≡ None

-- it is the insertion of the shard beside it
abbrev pub IsReady : List (List Item) → ℕ → ReadyShard → Type 0
IsReady runs words r = IsInsertion runs words (indexed_shard r.shard (flat_places r.items.items)) r.insertion
