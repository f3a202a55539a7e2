-- A store whose steps are recorded.
use Rattle.std.specs.Prelude.{◌≡◌, ◌≢◌, ◌≤◌, ℕ, true, List, [], ◌∷◌, length, map, AllPairs, Option, Some, None, Ok, Err}
use Rattle.std.specs.List.{AllByRecursion}
use Rattle.xet_io.specs.Disk.{Files, bytes_at}
use Rattle.xet_hash.specs.Hash.{zero_hash}
use Rattle.xet_shard.specs.Held.{Held, held_shard}
use Rattle.xet_shard_file.specs.Names.{shard_path}
use Rattle.xet_shard_format.specs.Encoding.{Shard, shard}
use Rattle.xet_shard_format.specs.Reading.{all_of}
use Rattle.xet_history.specs.Core.{Core, RegisteredShard}
use Rattle.xet_folder.specs.Contents.{max_shards}
use Rattle.xet_history.specs.History.{Replays}
use Rattle.xet_history.specs.Sound.{IsShardFile}
use Rattle.xet_history.specs.declared.entry.Entry.{Entry}
use Rattle.xet_store_disk.specs.Store.{State}

-- What contracts see of it: the store, its registered shards with their contents, and its history since it was opened.
pub record RecordedState : Type 0 where
  pub store : State
  pub shards : List RegisteredShard
  pub history : List Entry

-- its core
abbrev pub core_of : RecordedState → Core
core_of s = record {
  xorbs = s.store.xorbs;
  records = s.store.records;
  pending = s.store.pending;
  shards = s.shards;
  opened = s.store.opened;
  index_cap = s.store.limits.index_cap;
}

-- These are the registered shards of a store, with their contents. If the disk is observable, the file of each is an
-- encoding of its contents, under the name of its digest, and no two have the same hash. There are no more than can be
-- registered.
pub record AreShards (s : State) (shards : List RegisteredShard) : Type 0 where
  pub registered : map (λ r. r.hash) shards ≡ s.shards
  pub stand : s.tells ≡ true → AllByRecursion (IsShardFile s.files s.folder) shards
  pub differ : s.tells ≡ true → AllPairs (λ a b. a ≢ b) s.shards
  pub few : length s.shards ≤ max_shards

-- The registered shards are those of the store, and the history leads to the core.
pub record IsRecorded (s : RecordedState) : Type 0 where
  pub shards : AreShards s.store s.shards
  pub replays : Replays s.store.tells (core_of s) s.history

-- ---- the contents of registered shards

-- a shard without records
abbrev pub no_contents : Shard
no_contents = shard [] [] zero_hash 0 0

-- the shard that these bytes encode
abbrev pub shard_of_bytes : List ℕ → Shard
shard_of_bytes bytes = elim (all_of bytes) [
  | Ok p ↦ shard p.0 p.1 p.2.chunk_hash_hmac_key p.2.shard_creation_timestamp p.2.shard_key_expiry
  | Err e ↦ no_contents
]

-- the shard whose file has the name of this hash
abbrev pub shard_in : Files → List ℕ → List ℕ → Shard
shard_in files folder h = elim (bytes_at files (shard_path folder h)) [ Some bytes ↦ shard_of_bytes bytes | None ↦ no_contents ]

-- the shards of these hashes, which were in the files of a disk at a time, or were flushed then with these contents
abbrev pub with_contents : Files → List ℕ → ℕ → List (List ℕ) → List (Option Held) → List RegisteredShard
with_contents files folder opened [] flushed = []
with_contents files folder opened (h ∷ hs) [] = []
with_contents files folder opened (h ∷ hs) (None ∷ fs) = record { hash = h; contents = shard_in files folder h } ∷ with_contents files folder opened hs fs
with_contents files folder opened (h ∷ hs) (Some held ∷ fs) = record { hash = h; contents = held_shard held opened None } ∷ with_contents files folder opened hs fs

-- the state of a store, over the files of the disk when it was opened, with what was pending at each flush
abbrev pub recorded_state : State → Files → List (Option Held) → List Entry → RecordedState
recorded_state s files flushed history = record { store = s; shards = with_contents files s.folder s.opened s.shards flushed; history = history }
